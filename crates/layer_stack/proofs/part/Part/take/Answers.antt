use Rattle.std.proofs.Common.{◌≡◌, None, cond, drop, ap, ◌∙◌, sym, map}
use Rattle.std.specs.Option.{option_map}
use Rattle.std.specs.List.{slice_get}
use Rattle.std.specs.FinMap.Entries.{find}
use Rattle.uni_base.specs.RankOrder.{doc_cmp}
use Rattle.uni_base.specs.KeySets.{has_key}
use Rattle.layer_base.specs.Lookups.{either}
use Rattle.layer_stack.specs.Stacks.{entry_of}
use Rattle.layer_stack.proofs.Heads.{find_first, pass_first}
use Rattle.layer_stack.proofs.part.Part.take.Goals as goal
use Rattle.layer_stack.proofs.part.Part.take.Goals.{then-holds, else-holds}

pub returns-then-stands_at-clause-passed : goal.returns-then-stands_at-clause-passed
returns-then-stands_at-clause-passed c =
    let ps = c.args.self.now.1 in
    let left = pass_first c.args.key.now ps c.stands_at.ensures.ranked c.requires ∙ ap (λ b. cond b (drop 1 ps) ps) (sym c.stands_at.ensures.at ∙ c.if-stands_at.true) in
    let puts = c.step.ensures.postings ∙ ap (λ v. drop 1 v.1) c.self.view_is ∙ sym left in
    λ i. (ap (λ v. v.0) c.self.view_is i, puts i)

pub returns-after-holds-clause-passed : goal.returns-after-holds-clause-passed
returns-after-holds-clause-passed c =
    let ps = c.args.self.now.1 in
    let left = pass_first c.args.key.now ps c.stands_at.ensures.ranked c.requires ∙ ap (λ b. cond b (drop 1 ps) ps) (sym c.stands_at.ensures.at ∙ c.if-stands_at.false) in
    λ i. (c.args.self.now.0, sym left i)

pub returns-after-holds-clause-answer : goal.returns-after-holds-clause-answer
returns-after-holds-clause-answer c =
    let ps = c.args.self.now.1 in let key = c.args.key.now in
    let none : find doc_cmp key (map entry_of ps) ≡ None =
    find_first key ps c.stands_at.ensures.ranked c.requires ∙ ap (λ b. cond b (option_map (λ p. p.audience) (slice_get ps 0)) None) (sym c.stands_at.ensures.at ∙ c.if-stands_at.false) in
    let held : has_key c.args.self.now.0 key ≡ c.holds.result = ap (λ v. has_key v.0 key) (sym c.self.view_is) ∙ sym c.holds.ensures in
    elim c.if-holds.branch [
      | then-holds w ↦ w.result-is ∙ sym (λ i. either (none i) (cond ((held ∙ w.if-holds.true) i) None c.args.older))
      | else-holds w ↦ w.result-is ∙ sym (λ i. either (none i) (cond ((held ∙ w.if-holds.false) i) None c.args.older))
    ]
