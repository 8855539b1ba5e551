use Rattle.std.proofs.Common.{◌≡◌, ◌+◌, length, drop, map}
use Rattle.query_reader.specs.Reading.{lexeme_of, read_from, text_read}
use Rattle.query_reader.specs.Seen.{state_of}
use Rattle.query_reader.proofs.query.read.Given as goal

abbrev pub invariant-loop-token : goal.invariant-loop-token
invariant-loop-token l =
    text_read l.dialect l.text
    ≡ read_from l.dialect (length l.text + 1) (state_of l.state) (map (lexeme_of l.text) (drop l.token-index l.token-items))
