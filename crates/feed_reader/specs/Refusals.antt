-- The codes of faults.
use Rattle.std.specs.Prelude.{ℕ}
use Rattle.feed_reader.specs.declared.fault.LineFault.{LineFault}
use Rattle.feed_reader.specs.declared.fault.LineFault.TheVariants.{BadLine, UnknownName}

abbrev pub code_of : LineFault → ℕ
code_of BadLine = 11
code_of UnknownName = 12
