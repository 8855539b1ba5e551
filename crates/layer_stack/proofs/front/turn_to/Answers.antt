use Rattle.std.proofs.Common.{rules, ◌≡◌, true, IfSome, sym, subst}
use Rattle.std.specs.Prelude.{T}
use Rattle.std.specs.Ordering.{is_lt}
use Rattle.layer_base.proofs.Sorted.{less_from}
use Rattle.layer_stack.specs.Places.{term_cmp}
use Rattle.layer_stack.specs.Readers.{StandBefore}
use Rattle.layer_stack.proofs.Passed.{before_later, before_none}
use Rattle.layer_stack.proofs.front.turn_to.Goals as goal

pub returns-then-is_lt-clause-ready : goal.returns-then-is_lt-clause-ready
returns-then-is_lt-clause-ready c =
    let last = c.in-Some.last in let t = c.args.term.now in
    let lt : is_lt (term_cmp last t) ≡ true = search rules in
    before_later last t (less_from (term_cmp last t) (subst T (sym lt) tt)) c.args.readers.now (subst (λ o. IfSome o (λ s. StandBefore s c.args.readers.now)) c.in-Some.is c.requires)

pub returns-clause-ready : goal.returns-clause-ready
returns-clause-ready c = before_none c.args.term.now c.restart_all.new.readers c.restart_all.ensures.start
