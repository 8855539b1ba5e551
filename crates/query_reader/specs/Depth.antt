-- How deep the parentheses of tokens go.
use Rattle.std.specs.Prelude.{ℕ, ◌+◌, ◌-◌, max, List, [], ◌∷◌}
use Rattle.query_reader.specs.declared.token.TokenKind.{TokenKind}
use Rattle.query_reader.specs.declared.token.TokenKind.TheVariants as tokens
use Rattle.query_reader.specs.Reading.{Lexeme}

-- how many parentheses are open after a token of this kind, where so many were open before it
abbrev pub open_after : ℕ → TokenKind → ℕ
open_after count tokens.Left = count + 1
open_after count tokens.Right = count - 1
open_after count kind = count

-- the greatest number of parentheses that are open at once, where so many are open at first
abbrev pub most_open : ℕ → List Lexeme → ℕ
most_open count [] = count
most_open count (token ∷ others) = max count (most_open (open_after count token.kind) others)
