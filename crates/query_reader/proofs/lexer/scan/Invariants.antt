use Rattle.std.proofs.Common.{◌≡◌, ◌+◌, length}
use Rattle.query_reader.specs.Tokens.{pieces, tokens_of, text_tokens}
use Rattle.query_reader.proofs.Pieces.{after}
use Rattle.query_reader.proofs.lexer.scan.Given as goal

abbrev pub invariant-loop-rest : goal.invariant-loop-rest
invariant-loop-rest l = record {
  read : text_tokens l.format l.text ≡ after l.tokens (tokens_of l.format (pieces l.at 0 l.rest));
  place : l.at + length l.rest ≡ length l.text;
}

abbrev pub decreases-loop-rest : goal.decreases-loop-rest
decreases-loop-rest l = length l.rest
