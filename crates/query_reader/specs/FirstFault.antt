-- What the first fault of tokens is, in the grammar's own terms.
use Rattle.std.specs.Prelude.{ℕ, ◌≡◌, ◌⊎◌, ◌+◌, ◌<◌, ◌≤◌, List, ◌∷◌, ◌++◌, length, map}
use Rattle.query_tree.specs.declared.dialect.Dialect.{Dialect}
use Rattle.query_tree.specs.declared.query.Mark.TheVariants.{Plain}
use Rattle.query_tree.specs.Tree.{Tree}
use Rattle.query_tree.specs.Size.{node_count}
use Rattle.query_reader.specs.declared.token.Token.{Token}
use Rattle.query_reader.specs.Spans.{AreTokensOf, IsFirstBad}
use Rattle.query_reader.specs.Reading.{Lexeme, lexeme_of, QueryFault}
use Rattle.query_reader.specs.Depth.{most_open}
use Rattle.query_reader.specs.Grammar.{NodeSpells}

-- tokens spell a query, of any number of nodes
abbrev pub AreQuery : Dialect → List Lexeme → Tree → Type 0
AreQuery dialect all tree = NodeSpells dialect tree Plain all × (most_open 0 all ≤ dialect.depth)

-- a query begins with these tokens
abbrev pub BeginQuery : Dialect → List Lexeme → Type 0
BeginQuery dialect front = (rest : List Lexeme) × ((tree : Tree) × AreQuery dialect (front ++ rest) tree)

-- A query begins with the tokens before this one, and none with this one too. Only at code 38 some do,
-- each of them with more nodes than are allowed.
abbrev pub StopsAt : Dialect → ℕ → List Lexeme → Lexeme → Type 0
StopsAt dialect code front token =
    BeginQuery dialect front
    × ((rest : List Lexeme) → (tree : Tree) → AreQuery dialect (front ++ token ∷ rest) tree → (code ≡ 38) × (dialect.nodes < node_count tree))

-- The fault stands at the first token at which no query goes on. It stands at the end, with code 32,
-- where a query begins with all tokens, but they are none.
abbrev pub IsFirstFault : Dialect → ℕ → List Lexeme → ℕ → ℕ → Type 0
IsFirstFault dialect end all code column =
    ((code ≡ 32) × (column ≡ end) × BeginQuery dialect all × ((tree : Tree) → AreQuery dialect all tree → ⊥))
    ⊎ ((front : List Lexeme) × ((token : Lexeme) × ((rest : List Lexeme) × (
    (all ≡ front ++ token ∷ rest) × (token.column ≡ column) × StopsAt dialect code front token
    ))))

-- An atom in no form is a text's fault wherever it stands. Else the fault is the first place at which
-- no query goes on, under a dialect that lets a list have an operand and a join a hit.
pub record FaultIsFirst : Type 0 where
  pub form :
      (dialect : Dialect) → (text : List ℕ) → (bad : ℕ) → (code : ℕ) → (column : ℕ)
      → IsFirstBad dialect.format text bad → QueryFault dialect text code column → (code ≡ 31) × (column ≡ bad)
  pub first :
      (dialect : Dialect) → (text : List ℕ) → (lexed : List Token) → (code : ℕ) → (column : ℕ)
      → 1 ≤ dialect.operands → 1 ≤ dialect.join_limit → AreTokensOf dialect.format text lexed → QueryFault dialect text code column
      → IsFirstFault dialect (length text + 1) (map (lexeme_of text) lexed) code column
