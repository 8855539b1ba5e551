-- Judges of edges.
use Rattle.std.specs.Prelude.{◌≡◌, Bool}
use Rattle.std.specs.Fn.{FnReturnsAt, Shared}
use Rattle.std.specs.Borrow.{Bor}
use Rattle.uni_base.specs.declared.edge.Held.{Held}

-- whenever it is asked about an edge, a judge says whether the edge is accepted
abbrev pub IsJudge : {F : Type 0} → Shared F (Bor Held × Unit {0}) Bool → F → (Held → Bool) → Type 0
IsJudge calls judge accepts = (held : Held) (answer : Bool) → FnReturnsAt calls judge held answer → answer ≡ accepts held
