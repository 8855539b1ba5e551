use Rattle.std.proofs.Common.{◌≡◌, ◌-◌, ◌∙◌, ap, refl, sym, subst, Option, None, Some, map, arith}
use Rattle.uni_base.specs.declared.entity.DocKey.{DocKey}
use Rattle.uni_base.specs.KeySets.{united}
use Rattle.uni_base.proofs.UnitedLemmas.{IsRanked-united, KeepsKeys_trans}
use Rattle.weak_strong.specs.Marks.{counter_of}
use Rattle.weak_strong.specs.Rules.{keeps_by, walkers}
use Rattle.weak_strong.specs.Walking.{HasSettled}
use Rattle.weak_strong.proofs.Counting.{first_among}
use Rattle.weak_strong.proofs.Settled.{counted_on, owns_below, refused_on, settled_end, settled_here, within_old}
use Rattle.weak_strong.proofs.Passing.{has_settled, passed_trans, passed_united}
use Rattle.weak_strong.proofs.Whole.{none_from}
use Rattle.weak_strong.proofs.walking.pass_refused.Goals as goal

pub next-requires : goal.next-requires
next-requires g c =
    let nows = map g.C.DocCursor.remaining c.loop-key.candidates in
    c.loop-key.invariant.counted.kept_before c.in-Some.key (first_among (united nows) c.in-Some.key (sym c.in-Some.ensures.first))

pub is_kept-requires-clause-owns : goal.is_kept-requires-clause-owns
is_kept-requires-clause-owns g c = owns_below c.args.counters.now c.args.kept c.next.result c.requires.owns c.next.ensures.value

pub loop-key-preserved : goal.loop-key-preserved
loop-key-preserved g c =
    let olds = map g.C.DocCursor.remaining c.args.candidates.now in
    let nows = map g.C.DocCursor.remaining c.loop-key.candidates in
    let news = map g.C.DocCursor.remaining c.step.new.self in
    let counters = map counter_of c.args.counters.now in
    let one : c.next.result - 1 ≡ c.args.kept = omega (arith, c.next.ensures.value) in
    let first = sym c.in-Some.ensures.first in
    let refused = ap (λ n. keeps_by c.args.rule n (walkers nows counters) c.in-Some.key) (sym one) ∙ sym (c.is_kept.ensures c.in-Some.key first) ∙ c.if-is_kept.false in
    record {
      counted = counted_on c.args.rule nows news counters c.args.kept c.step.ensures.moved.after c.step.ensures.moved.operands c.loop-key.invariant.counted;
      walk = refused_on c.args.rule nows news counters c.args.kept c.step.ensures.moved.after c.step.ensures.moved.operands c.in-Some.key first refused ∙ c.loop-key.invariant.walk;
      operands = KeepsKeys_trans (united nows) (united news) olds nows news (within_old c.args.rule nows news counters c.args.kept c.step.ensures.moved.after c.step.ensures.moved.operands) c.loop-key.invariant.operands c.step.ensures.moved.operands;
      passed = passed_trans (united nows) (united news) olds nows news (IsRanked-united nows) (within_old c.args.rule nows news counters c.args.kept c.step.ensures.moved.after c.step.ensures.moved.operands) c.loop-key.invariant.passed c.step.ensures.moved.passed;
    }

pub returns : goal.returns
returns g c =
    let view = g.C.DocCursor.remaining in
    let nows = map view c.loop-key.candidates in
    let counters = map counter_of c.args.counters.now in
    has_settled c.args.rule counters c.args.kept (map view c.args.candidates.now) nows None c.loop-key.invariant.counted
    (settled_end c.args.rule nows counters c.args.kept (sym c.peek.ensures.first ∙ none_from c.peek.result c.in_default.not-Some)) c.loop-key.invariant.walk c.loop-key.invariant.operands c.loop-key.invariant.passed

pub returns-then-is_kept : goal.returns-then-is_kept
returns-then-is_kept g c =
    let view = g.C.DocCursor.remaining in
    let nows = map view c.loop-key.candidates in
    let counters = map counter_of c.args.counters.now in
    let one : c.next.result - 1 ≡ c.args.kept = omega (arith, c.next.ensures.value) in
    let first = sym c.in-Some.ensures.first in
    let keeps = ap (λ n. keeps_by c.args.rule n (walkers nows counters) c.in-Some.key) (sym one) ∙ sym (c.is_kept.ensures c.in-Some.key first) ∙ c.if-is_kept.true in
    subst (λ (o : Option DocKey). HasSettled c.args.rule counters c.args.kept (map view c.args.candidates.now) nows o) (c.in-Some.ensures.first ∙ sym c.peek-then-is_kept.ensures.first)
    (has_settled c.args.rule counters c.args.kept (map view c.args.candidates.now) nows (Some c.in-Some.key) c.loop-key.invariant.counted
    (settled_here c.args.rule nows counters c.args.kept c.in-Some.key first keeps) c.loop-key.invariant.walk c.loop-key.invariant.operands c.loop-key.invariant.passed)

pub loop-key-init : goal.loop-key-init
loop-key-init g c = record {
  counted = c.requires;
  walk = refl;
  operands = record { count = refl; holders_stay = λ k has. refl };
  passed = passed_united (map g.C.DocCursor.remaining c.args.candidates.now);
}
