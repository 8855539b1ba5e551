-- Cursors over the postings of a prefix term.
use Rattle.std.specs.Prelude.{◌≡◌, ℕ, true, List, [], map, length, Option, None, is_some, if◌then◌else◌, slice_get, slice_index_or}
use Rattle.std.specs.Option.{option_and_then}
use Rattle.std.specs.FinMap as finite
use Rattle.uni_base.specs.declared.edge.Audience.{Audience}
use Rattle.uni_base.specs.declared.edge.Key.TheVariants.{Word}
use Rattle.uni_base.specs.declared.entity.DocKey.{DocKey}
use Rattle.uni_base.specs.KeySets.{has_first, has_key, holders, united}
use Rattle.posting_lists.specs.declared.posting.Posting.{Posting}
use Rattle.posting_lists.specs.Postings.{keys_of}
use Rattle.layer_stack.specs.Places.{term_of}
use Rattle.layer_stack.specs.Postings.{PostingTable, place_of, postings_of}
use Rattle.prefix_terms.specs.PrefixWords.{prefix_words}

-- the postings of a prefix term that are still to be read: the table, the number of the type, the keys
-- of the term, and for each of them the keys of its postings that remain
pub record PrefixPostings : Type 0 where
  pub table : PostingTable
  pub number : ℕ
  pub words : List (List ℕ)
  pub lists : List (List DocKey)

-- the audience of the posting of a word, where the table has one at a key
abbrev pub audience_of : ℕ → PostingTable → List ℕ → DocKey → Option Audience
audience_of number table word key = finite.get table (place_of (term_of number (Word word)) key)

-- the postings of a word
abbrev pub word_postings : ℕ → PostingTable → List ℕ → List Posting
word_postings number table word = postings_of (term_of number (Word word)) table

-- what cursors over the postings of each word have left
abbrev pub postings_left : ℕ → PostingTable → List (List ℕ) → List (List Posting) → PrefixPostings
postings_left number table words cursors = record { table = table; number = number; words = words; lists = map keys_of cursors }

-- all postings of a prefix term
abbrev pub all_postings : ℕ → List ℕ → PostingTable → PrefixPostings
all_postings number from table = record {
  table = table;
  number = number;
  words = prefix_words number from table;
  lists = map (λ word. keys_of (word_postings number table word)) (prefix_words number from table);
}

-- the audience of the posting of a word at the current key, where the word has one there
abbrev pub audience_at : PrefixPostings → ℕ → Option Audience
audience_at c i = if has_first (slice_index_or c.lists i []) (united c.lists)
    then option_and_then (audience_of c.number c.table (slice_index_or c.words i [])) (slice_get (united c.lists) 0)
    else None

-- at each key that remains, those words have it that have a posting there
pub record AreHeld (c : PrefixPostings) : Type 0 where
  pub count : length c.lists ≡ length c.words
  pub held : (k : DocKey) → has_key (united c.lists) k ≡ true → holders k c.lists ≡ map (λ word. is_some (audience_of c.number c.table word k)) c.words
