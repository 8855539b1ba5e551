-- Which option an operand may have, and what it may say.
use Rattle.std.specs.Prelude.{ℕ, ◌≡◌, ◌≤◌, ◌==◌, Bool, true, false}
use Rattle.query_tree.specs.declared.kind.ListKind.{ListKind}
use Rattle.query_tree.specs.declared.kind.ListKind.TheVariants.{WeakAnd, StrongOr}
use Rattle.query_tree.specs.declared.kind.MarkKind.{MarkKind}
use Rattle.query_tree.specs.declared.kind.MarkKind.TheVariants as kinds
use Rattle.query_tree.specs.declared.query.Mark.{Mark}
use Rattle.query_tree.specs.declared.query.Mark.TheVariants.{Plain, Hits, Weight}

-- An operand of weak-and may have a count, and in format 2 a weight in its place. An operand of
-- strong-or may have a weight. No other operand has an option.
abbrev pub may_mark : ℕ → ListKind → MarkKind → Bool
may_mark format WeakAnd kinds.Hits = true
may_mark format WeakAnd kinds.Weight = format == 2
may_mark format StrongOr kinds.Weight = true
may_mark format operator kind = false

-- whether the mark may stand on an operand of the list
abbrev pub MayStand : ℕ → ListKind → Mark → Type 0
MayStand format operator Plain = Unit {0}
MayStand format operator (Hits count) = may_mark format operator kinds.Hits ≡ true
MayStand format operator (Weight numerator denominator) = may_mark format operator kinds.Weight ≡ true

-- a count is at most a million; a weight is a fraction above 0 and at most 1, in thousandths at the
-- finest
abbrev pub IsMarkValue : Mark → Type 0
IsMarkValue Plain = Unit {0}
IsMarkValue (Hits count) = count ≤ 1000000
IsMarkValue (Weight numerator denominator) = (1 ≤ numerator) × (numerator ≤ denominator) × (denominator ≤ 1000)
