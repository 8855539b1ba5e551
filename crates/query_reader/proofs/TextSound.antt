-- What is read of a text is spelled by it.
use Rattle.std.proofs.Common.{◌≡◌, ℕ, ◌+◌, List, [], map, length, Result, Ok, Err, refl}
use Rattle.std.specs.Prelude.{MatchResult}
use Rattle.query_tree.specs.declared.dialect.Dialect.{Dialect}
use Rattle.query_tree.specs.declared.query.Query.{Query}
use Rattle.query_tree.specs.declared.refusal.QueryRefusal.{QueryRefusal}
use Rattle.query_tree.specs.declared.refusal.QueryRefusal.TheVariants.{Fault, Memory}
use Rattle.query_tree.specs.Tree.{Tree, tree_of}
use Rattle.query_reader.specs.declared.token.Token.{Token}
use Rattle.query_reader.specs.Tokens.{text_tokens}
use Rattle.query_reader.specs.Reading.{start, lexeme_of, tokens_read, text_read}
use Rattle.query_reader.specs.Seen.{IsAnswer}
use Rattle.query_reader.specs.Grammar.{QuerySpells, IsQueryRefusal}
use Rattle.query_reader.proofs.SpansLemmas.{text_spans}
use Rattle.query_reader.proofs.Counted.{ReadWithin, start_within}
use Rattle.query_reader.proofs.Sound.{read_sound}

tokens_sound : (dialect : Dialect) (text : List ℕ) (all : Result (List Token) ℕ) (node : Tree)
    → text_tokens dialect.format text ≡ all → tokens_read dialect text all ≡ Ok node → QuerySpells dialect text node
tokens_sound dialect text (Ok all) node are_tokens is_ok =
    let within : ReadWithin dialect 0 (map (lexeme_of text) all) node =
    start_within dialect (length text + 1) (map (lexeme_of text) all) node is_ok in
    record {
      lexed = all;
      of_text = text_spans dialect.format text all are_tokens;
      spelled = read_sound dialect (length text + 1) start [] (map (lexeme_of text) all) node refl is_ok;
      nodes = within.few;
      depth = within.deep;
    }
tokens_sound dialect text (Err column) node are_tokens is_ok = absurd (cc)

pub text_sound : (dialect : Dialect) (text : List ℕ) (node : Tree) → text_read dialect text ≡ Ok node → QuerySpells dialect text node
text_sound dialect text node is_ok = tokens_sound dialect text (text_tokens dialect.format text) node refl is_ok

-- an answer that is right is spelled, or is the first fault
pub answer_sound : (dialect : Dialect) (text : List ℕ) (answer : Result Query QueryRefusal)
    → IsAnswer (text_read dialect text) answer
    → MatchResult answer (λ query. QuerySpells dialect text (tree_of query)) (IsQueryRefusal dialect text)
answer_sound dialect text (Ok query) is_answer = text_sound dialect text (tree_of query) is_answer
answer_sound dialect text (Err (Fault code column)) is_answer = is_answer
answer_sound dialect text (Err Memory) is_answer = tt
