use Rattle.query_reader.proofs.Bounds.{token_inside, token_ordered}
use Rattle.query_reader.proofs.query.read.Goals as goal

pub lexeme-lexeme-requires-clause-ordered : goal.lexeme-lexeme-requires-clause-ordered
lexeme-lexeme-requires-clause-ordered c =
    token_ordered _ _ _ _ c.as_slice-token-items.ensures c.in_ok-tokens.ensures.exact _ _ c.loop-token-test.true

pub lexeme-lexeme-requires-clause-inside : goal.lexeme-lexeme-requires-clause-inside
lexeme-lexeme-requires-clause-inside c =
    token_inside _ _ _ _ c.as_slice-token-items.ensures c.in_ok-tokens.ensures.exact _ _ c.loop-token-test.true
