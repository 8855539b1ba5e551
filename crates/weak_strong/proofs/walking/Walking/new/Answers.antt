use Rattle.std.proofs.Common.{◌≡◌, ℕ, ◌≤◌, ◌∙◌, All, List, ap, sym, subst, length, map, arith}
use Rattle.std.proofs.lemmas.List.{length-map}
use Rattle.std.proofs.lemmas.List.Elements.{All-weaker}
use Rattle.uni_base.specs.Walks.{Quota}
use Rattle.weak_strong.specs.declared.rule.Counter.{Counter}
use Rattle.weak_strong.specs.Marks.{counter_of}
use Rattle.weak_strong.proofs.Settled.{owns_up}
use Rattle.weak_strong.proofs.walking.Walking.new.Goals as goal

pub settle-at-requires : goal.settle-at-requires
settle-at-requires g c = record {
  count =
      length-map c.as_slice.result.now counter_of ∙ ap length c.as_slice.ensures.value ∙ c.requires.count
      ∙ ap length (sym c.new-candidates.ensures) ∙ sym (length-map c.new-candidates.result g.C.DocCursor.remaining);
  kept_before = λ k has. omega arith;
  owns = subst (λ (cs : List Counter). All (λ (counter : Quota × ℕ). counter.1 ≤ 0) (map counter_of cs)) (sym c.as_slice.ensures.value)
      (owns_up c.args.counters.items 0 (All-weaker (λ (counter : Counter). counter.own ≡ 0) (λ (counter : Counter). counter.own ≤ 0) (λ counter e. omega arith) c.args.counters.items c.requires.fresh));
}
