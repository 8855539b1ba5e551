-- Marks of operands, as quotas.
use Rattle.std.specs.Prelude.{ℕ, Option, None, Some}
use Rattle.uni_base.specs.Walks.{Quota, Unmarked, Count, Weight}
use Rattle.weak_strong.specs.declared.fraction.Fraction.{Fraction}
use Rattle.weak_strong.specs.declared.mark.WeakMark.{WeakMark}
use Rattle.weak_strong.specs.declared.mark.WeakMark.TheVariants as marks
use Rattle.weak_strong.specs.declared.rule.Counter.{Counter}

-- so many hits may lack the operand, or a share of them has it
abbrev pub weak_quota : WeakMark → Quota
weak_quota (marks.Hits left) = Count left
weak_quota (marks.Weight fraction) = Weight fraction.n fraction.d

-- a share of the hits has the operand, if it has a weight
abbrev pub strong_quota : Option Fraction → Quota
strong_quota None = Unmarked
strong_quota (Some fraction) = Weight fraction.n fraction.d

-- the quota of an operand that may have a mark
abbrev pub quota_of : Option WeakMark → Quota
quota_of None = Unmarked
quota_of (Some mark) = weak_quota mark

abbrev pub counter_of : Counter → Quota × ℕ
counter_of counter = (quota_of counter.mark, counter.own)
