-- The codes of refusals.
use Rattle.std.specs.Prelude.{ℕ, Option, None, Some}
use Rattle.uni_table.specs.declared.refusal.FeedRefusal.{FeedRefusal}
use Rattle.uni_table.specs.declared.refusal.FeedRefusal.TheVariants.{NoSource, NoTarget, UnknownCircle, Elsewhere, ForwardFull, TableFull, Memory}

abbrev pub code_of : FeedRefusal → Option ℕ
code_of NoSource = Some 13
code_of NoTarget = Some 14
code_of UnknownCircle = Some 15
code_of Elsewhere = Some 16
code_of ForwardFull = Some 17
code_of TableFull = Some 18
code_of Memory = None
