-- The codes of refusals of a header.
use Rattle.std.specs.Prelude.{ℕ, Option, None, Some}
use Rattle.uni_schema.specs.declared.refusal.SchemaRefusal.{SchemaRefusal}
use Rattle.uni_schema.specs.declared.refusal.SchemaRefusal.TheVariants.{BadLine, NamedTwice, UnknownVertical, OutOfRange, WordSource, TooMany, BadDeny, NoBegin, Memory}

-- the code that is printed, where there is one
abbrev pub code_of : SchemaRefusal → Option ℕ
code_of (BadLine line) = Some 1
code_of (NamedTwice line) = Some 2
code_of (UnknownVertical line) = Some 3
code_of (OutOfRange line) = Some 4
code_of (WordSource line) = Some 5
code_of (TooMany line) = Some 6
code_of (BadDeny line) = Some 7
code_of (NoBegin line) = Some 8
code_of Memory = None
