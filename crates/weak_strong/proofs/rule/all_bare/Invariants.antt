use Rattle.std.proofs.Common.{◌≡◌, ℕ, true, take, map}
use Rattle.std.specs.List.{list_all}
use Rattle.uni_base.specs.WalkLaws.{is_bare}
use Rattle.uni_base.specs.Walks.{Quota}
use Rattle.weak_strong.specs.Marks.{counter_of}
use Rattle.weak_strong.proofs.rule.all_bare.Given as goal

abbrev pub invariant-loop-counter : goal.invariant-loop-counter
invariant-loop-counter l = list_all (λ (c : Quota × ℕ). is_bare c.0) (take l.counter-index (map counter_of l.counters)) ≡ true
