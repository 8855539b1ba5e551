-- Which keys a prefix term has, and which postings.
use Rattle.std.specs.Prelude.{◌≡◌, ◌↔◌, ℕ, true, List, is_some}
use Rattle.std.specs.List.{list_any, Contains}
use Rattle.std.specs.List.Sorted.{IsStrictlySortedBy}
use Rattle.std.specs.Ordering.{nat_cmp}
use Rattle.std.specs.Cmp.Lexicographic.{slice_cmp}
use Rattle.uni_base.specs.declared.entity.DocKey.{DocKey}
use Rattle.uni_base.specs.KeySets.{has_key, united}
use Rattle.uni_meaning.specs.Prefixes.{begins_with}
use Rattle.layer_stack.specs.Postings.{PostingTable}
use Rattle.prefix_terms.specs.PrefixWords.{prefix_words, has_posting}
use Rattle.prefix_terms.specs.PrefixCursors.{all_postings, audience_of}

-- its keys are the words that begin so and under which the table has a posting of the type, in the order of
-- their bytes and each once; and an entity's key is among its postings where the table has a posting there
-- of one of these words
pub record PrefixTermsAreExact : Type 0 where
  pub words : (number : ℕ) (from : List ℕ) (table : PostingTable) (word : List ℕ) → Contains (prefix_words number from table) word ↔ ((begins_with from word ≡ true) × (has_posting number table word ≡ true))
  pub rising : (number : ℕ) (from : List ℕ) (table : PostingTable) → IsStrictlySortedBy (slice_cmp nat_cmp) (prefix_words number from table)
  pub keys : (number : ℕ) (from : List ℕ) (table : PostingTable) (k : DocKey) → has_key (united (all_postings number from table).lists) k ≡ list_any (λ word. is_some (audience_of number table word k)) (prefix_words number from table)
