use Rattle.std.proofs.Common.{◌≡◌, ◌&&◌, List, true, sym, ap, ◌∙◌, arith, drop}
use Rattle.std.proofs.lemmas.List.{length-map, drop_all}
use Rattle.uni_meaning.specs.Standings.{row_at}
use Rattle.uni_meaning.specs.Walking.{all_allow, walkers_from}
use Rattle.uni_meaning.specs.declared.pace.Counter.{Counter}
use Rattle.uni_meaning.proofs.Walked.{keeps_is}
use Rattle.uni_meaning.proofs.pace.Pace.keeps.Goals as goal

pub returns-then-not-any_found : goal.returns-then-not-any_found
returns-then-not-any_found c =
    let row = row_at c.args.columns.now c.args.i in
    let counters = c.args.self.now.counters.items in
    sym (keeps_is row c.args.kind c.args.self.now.kept counters (c.requires.count ∙ sym (length-map c.args.columns.now _))
    ∙ ap (λ b. b && all_allow c.args.kind c.args.self.now.kept (walkers_from 0 counters) row) (sym c.any_found.ensures ∙ c.if-not-any_found.true))

pub returns : goal.returns
returns c =
    let row = row_at c.args.columns.now c.args.i in
    let counters = c.args.self.now.counters.items in
    let none : all_allow c.args.kind c.args.self.now.kept (walkers_from c.loop-j.j (drop c.loop-j.j counters)) row ≡ true =
    ap (λ (cs : List Counter). all_allow c.args.kind c.args.self.now.kept (walkers_from c.loop-j.j cs) row) (drop_all c.loop-j.j counters (omega (arith, c.loop-j-test.false, c.len-j-end.ensures))) in
    sym (keeps_is row c.args.kind c.args.self.now.kept counters (c.requires.count ∙ sym (length-map c.args.columns.now _))
    ∙ ap (λ b. b && all_allow c.args.kind c.args.self.now.kept (walkers_from 0 counters) row) (sym c.any_found.ensures ∙ c.if-not-any_found.false)
    ∙ c.loop-j.invariant ∙ none)
