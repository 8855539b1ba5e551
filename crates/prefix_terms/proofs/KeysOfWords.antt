-- The keys of the postings of a prefix term, by its words.
use Rattle.std.proofs.Common.{◌≡◌, ℕ, ◌<◌, Bool, true, false, cond, ◌||◌, List, [], ◌∷◌, length, get_or, slice_get, map, filter, Option, None, Some, is_some, refl, sym, ◌∙◌, ap, arith}
use Rattle.std.specs.List.{list_any}
use Rattle.std.specs.FinMap as finite
use Rattle.std.specs.FinMap.Entries.{find}
use Rattle.std.specs.Ordering.{eq_by_cmp}
use Rattle.std.proofs.lemmas.List.{get_or-map, length-map}
use Rattle.uni_base.specs.declared.edge.Audience.{Audience}
use Rattle.uni_base.specs.declared.edge.Key.TheVariants.{Word}
use Rattle.uni_base.specs.declared.entity.DocKey.{DocKey}
use Rattle.uni_base.specs.RankOrder.{doc_cmp}
use Rattle.uni_base.specs.KeySets.{has_first, has_key, holders, united, KeepsKeys}
use Rattle.uni_base.proofs.RankedLemmas.{is_eq_same, is_eq_swap}
use Rattle.uni_base.proofs.UnitedLemmas.{has_key-united, list_any-map, list_any-agree}
use Rattle.posting_lists.specs.Postings.{keys_of}
use Rattle.layer_stack.specs.declared.place.Place.{Place}
use Rattle.layer_stack.specs.declared.place.TermKey.{TermKey}
use Rattle.layer_stack.specs.Places.{term_of}
use Rattle.layer_stack.specs.Postings.{PostingTable, is_under, place_of, posting_of, postings_of}
use Rattle.layer_stack.proofs.Terms.{get-under}
use Rattle.prefix_terms.specs.PrefixWords.{prefix_words}
use Rattle.prefix_terms.specs.PrefixCursors.{PrefixPostings, AreHeld, all_postings, audience_of, word_postings}

-- a row without its term
abbrev keyed : Place × Audience → DocKey × Audience
keyed row = (row.0.key, row.1)

has_key-rows : (k : DocKey) (rows : List (Place × Audience)) → has_key (keys_of (map posting_of rows)) k ≡ is_some (find doc_cmp k (map keyed rows))
has_key-rows k [] = refl
has_key-rows k (r ∷ rows) =
    ap (λ b. b || has_key (keys_of (map posting_of rows)) k) (is_eq_swap r.0.key k)
    ∙ elim (eq_by_cmp doc_cmp k r.0.key) as (λ b. (b || has_key (keys_of (map posting_of rows)) k) ≡ is_some (cond b (Some r.1) (find doc_cmp k (map keyed rows)))) [ true ↦ refl | false ↦ has_key-rows k rows ]

-- a term has a key exactly where the table has a posting there
pub has_key-postings : (t : TermKey) (table : PostingTable) (k : DocKey) → has_key (keys_of (postings_of t table)) k ≡ is_some (finite.get table (place_of t k))
has_key-postings t table k = has_key-rows k (filter (is_under t) (finite.entries table)) ∙ ap is_some (sym (get-under t k table))

module _ (number : ℕ) (table : PostingTable) where
  abbrev list_of : List ℕ → List DocKey
  list_of word = keys_of (word_postings number table word)

  holders-words : (k : DocKey) (words : List (List ℕ)) → holders k (map list_of words) ≡ map (λ word. is_some (audience_of number table word k)) words
  holders-words k [] = refl
  holders-words k (word ∷ words) = λ i. has_key-postings (term_of number (Word word)) table k i ∷ holders-words k words i

  pub has_key-words : (words : List (List ℕ)) (k : DocKey) → has_key (united (map list_of words)) k ≡ list_any (λ word. is_some (audience_of number table word k)) words
  has_key-words words k =
      has_key-united (map list_of words) k ∙ list_any-map (λ keys. has_key keys k) list_of words
      ∙ list_any-agree (λ word. has_key (list_of word) k) (λ word. is_some (audience_of number table word k)) (λ word. has_key-postings (term_of number (Word word)) table k) words

  -- a key is among all postings of a prefix term exactly where some word of the term has a posting at it
  pub has_key-all_postings : (from : List ℕ) (k : DocKey) → has_key (united (all_postings number from table).lists) k ≡ list_any (λ word. is_some (finite.get table (place_of (term_of number (Word word)) k))) (prefix_words number from table)
  has_key-all_postings from k = has_key-words (prefix_words number from table) k

  pub all_held : (words : List (List ℕ)) → AreHeld (record { table = table; number = number; words = words; lists = map list_of words })
  all_held words = record { count = length-map words list_of; held = λ k has. holders-words k words }

-- moves leave the words that have a key
pub still_held : (c : PrefixPostings) (news : List (List DocKey)) → AreHeld c → KeepsKeys (united news) c.lists news → AreHeld (record c { lists = news })
still_held c news held keeps = record { count = keeps.count ∙ held.count; held = λ k has. keeps.holders_stay k has ∙ held.held k (had k has) }
  where
    any_holds : (k : DocKey) (lists : List (List DocKey)) → has_key (united lists) k ≡ list_any (λ b. b) (holders k lists)
    any_holds k lists = has_key-united lists k ∙ sym (list_any-map (λ b. b) (λ keys. has_key keys k) lists)

    had : (k : DocKey) → has_key (united news) k ≡ true → has_key (united c.lists) k ≡ true
    had k has = any_holds k c.lists ∙ ap (list_any (λ b. b)) (sym (keeps.holders_stay k has)) ∙ sym (any_holds k news) ∙ has

-- at a key that is left, a word has it exactly where the table has its posting there
pub held_at : (c : PrefixPostings) (k : DocKey) (i : ℕ) → AreHeld c → has_key (united c.lists) k ≡ true → i < length c.words → has_key (get_or c.lists i []) k ≡ is_some (audience_of c.number c.table (get_or c.words i []) k)
held_at c k i held has fits =
    sym (get_or-map (λ keys. has_key keys k) c.lists i [] false (omega (arith, held.count)))
    ∙ ap (λ (bs : List Bool). get_or bs i false) (held.held k has)
    ∙ get_or-map (λ word. is_some (audience_of c.number c.table word k)) c.words i [] false fits

first_has : (k : DocKey) (xs : List DocKey) → slice_get xs 0 ≡ Some k → (has_key xs k ≡ true) × ((keys : List DocKey) → has_first keys xs ≡ has_key keys k)
first_has k [] e = cc
first_has k (x ∷ xs) e =
    let is : x ≡ k = cc in
    (ap (λ b. b || has_key xs k) (is_eq_same x k is), λ keys. ap (has_key keys) is)

-- a word has a posting at the current key exactly where it has the key
pub audience_held : (c : PrefixPostings) (k : DocKey) (i : ℕ) → AreHeld c → slice_get (united c.lists) 0 ≡ Some k → i < length c.words → is_some (audience_of c.number c.table (get_or c.words i []) k) ≡ has_first (get_or c.lists i []) (united c.lists)
audience_held c k i held current fits =
    let first = first_has k (united c.lists) current in
    sym (held_at c k i held first.0 fits) ∙ sym (first.1 (get_or c.lists i []))

-- and none where it does not
pub audience_none : (c : PrefixPostings) (k : DocKey) (i : ℕ) → AreHeld c → slice_get (united c.lists) 0 ≡ Some k → i < length c.words → has_first (get_or c.lists i []) (united c.lists) ≡ false
    → audience_of c.number c.table (get_or c.words i []) k ≡ None
audience_none c k i held current fits other = over (audience_of c.number c.table (get_or c.words i []) k) (audience_held c k i held current fits ∙ other)
  where
    over : (audience : Option Audience) → is_some audience ≡ false → audience ≡ None
    over None e = refl
    over (Some audience) e = cc

-- the keys of the postings of each word
pub map-keys_of : (number : ℕ) (table : PostingTable) (words : List (List ℕ)) → map keys_of (map (word_postings number table) words) ≡ map (λ word. keys_of (word_postings number table word)) words
map-keys_of number table [] = refl
map-keys_of number table (word ∷ words) = ap (λ (lists : List (List DocKey)). keys_of (word_postings number table word) ∷ lists) (map-keys_of number table words)
