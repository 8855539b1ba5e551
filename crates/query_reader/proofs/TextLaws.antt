-- The laws of queries and their texts.
use Rattle.std.proofs.Common.{◌≡◌, ℕ, ◌⊎◌, List, Result, Ok, Err, refl, ap, inl, inr}
use Rattle.query_tree.specs.declared.dialect.Dialect.{Dialect}
use Rattle.query_tree.specs.Tree.{Tree}
use Rattle.query_reader.specs.Reading.{Refused, text_read, QueryFault}
use Rattle.query_reader.specs.Grammar.{QuerySpells}
use Rattle.query_reader.specs.TextLaws.{OneQueryOrFault}
use Rattle.query_reader.proofs.TextSound.{text_sound}
use Rattle.query_reader.proofs.Complete.{text_complete}

by_result : (dialect : Dialect) (text : List ℕ) (result : Result Tree Refused) → text_read dialect text ≡ result
    → ((tree : Tree) × QuerySpells dialect text tree) ⊎ ((code : ℕ) × ((column : ℕ) × QueryFault dialect text code column))
by_result dialect text (Ok tree) is_read = inl (tree, text_sound dialect text tree is_read)
by_result dialect text (Err fault) is_read = inr (fault.code, (fault.column, is_read))

same_query : {tree other : Tree} (result : Result Tree Refused) → result ≡ Ok tree → result ≡ Ok other → tree ≡ other
same_query result one two = cc

pub same_fault : {fault other : Refused} (result : Result Tree Refused) → result ≡ Err fault → result ≡ Err other → fault ≡ other
same_fault result one two = cc

not_both : {tree : Tree} {fault : Refused} (result : Result Tree Refused) → result ≡ Ok tree → result ≡ Err fault → ⊥
not_both result one two = absurd (cc)

pub query_or_fault : OneQueryOrFault
query_or_fault = record {
  some = λ dialect text. by_result dialect text (text_read dialect text) refl;
  one_query =
      λ dialect text tree other one two.
      same_query (text_read dialect text) (text_complete dialect text tree one) (text_complete dialect text other two);
  one_fault =
      λ dialect text code column other_code other_column one two.
      let same = same_fault (text_read dialect text) one two in
      (ap (λ fault. fault.code) same, ap (λ fault. fault.column) same);
  never_both =
      λ dialect text tree code column spells fault.
      not_both (text_read dialect text) (text_complete dialect text tree spells) fault;
}
