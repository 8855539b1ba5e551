-- The trees of what a prefix term finds, by look-ups of its words.
use Rattle.std.proofs.Common.{◌≡◌, ◌<◌, ◌≤◌, ℕ, suc, ◌+◌, length, get_or, Bool, true, false, not, cond, List, [], ◌∷◌, ◌++◌, Option, None, Some, map, filter, take, take-suc, slice_get, arith, refl, sym, ◌∙◌, ap, subst}
use Rattle.std.proofs.lemmas.List.{append-nil, take_all}
use Rattle.std.proofs.lemmas.List.Elements.{filter_map-append}
use Rattle.std.proofs.lemmas.Option.{get_or_from_slice_get}
use Rattle.std.specs.List.{cons_option, filter_map}
use Rattle.std.specs.Option.{option_map}
use Rattle.std.specs.Ordering.{is_eq}
use Rattle.std.specs.FinMap as finite
use Rattle.std.specs.FinMap.Entries.{find}
use Rattle.uni_base.specs.declared.edge.Audience.{Audience}
use Rattle.uni_base.specs.declared.edge.Key.TheVariants.{Word}
use Rattle.uni_base.specs.declared.entity.DocKey.{DocKey}
use Rattle.uni_base.specs.Cursors.{is_before, keys_from, IsRanked}
use Rattle.uni_base.specs.KeySets.{united}
use Rattle.uni_base.specs.RankOrder.{doc_cmp}
use Rattle.uni_base.proofs.RankedLemmas.{is_eq_swap, same_from_is_eq}
use Rattle.uni_base.proofs.UnitedLemmas.{IsRanked-united}
use Rattle.query_tree.specs.declared.kind.ListKind.TheVariants.{Or}
use Rattle.posting_lists.specs.Postings.{keys_of}
use Rattle.layer_stack.specs.declared.place.Place.{Place}
use Rattle.layer_stack.specs.Places.{term_of}
use Rattle.layer_stack.specs.Postings.{PostingTable, is_under, posting_of}
use Rattle.layer_stack.proofs.Terms.{get-under, keyed}
use Rattle.prefix_terms.specs.PrefixCursors.{PrefixPostings, all_postings, audience_of, word_postings}
use Rattle.prefix_terms.specs.PrefixWords.{prefix_words}
use Rattle.lineage_tree.specs.Tree.{Tree}
use Rattle.shard_eval.specs.Found.{Found, first_at, found_from, found_keys, found_posting, found_term, is_at, tree_at, trees_at, KeepsLater}
use Rattle.shard_eval.specs.Grouped.{by_any, found_any}
use Rattle.shard_eval.specs.Kept.{found_at}
use Rattle.shard_eval.specs.Resolution.{found_prefix, found_words, leaf_of}
use Rattle.shard_eval.specs.Witnesses.{found_words_left, word_tree, word_trees}
use Rattle.shard_eval.proofs.FoundLists.{keeps_from, tree_here}
use Rattle.shard_eval.proofs.KeptRanked.{keys_of_list}
use Rattle.shard_eval.proofs.PostingLists.{keys_of_term}

-- ---- hits that are made of their keys

module _ (trees : DocKey → List Tree) where
  abbrev pub made : List DocKey → List Found
  made = map (λ k. by_any k (trees k))

  keys_made : (ks : List DocKey) → found_keys (made ks) ≡ ks
  keys_made [] = refl
  keys_made (k ∷ ks) = ap (λ (xs : List DocKey). k ∷ xs) (keys_made ks)

  made_from : (key : DocKey) (ks : List DocKey) → found_from key (made ks) ≡ made (keys_from key ks)
  made_from key [] = refl
  made_from key (k ∷ ks) = over (made_from key ks) (is_before k key)
    where
      over : found_from key (made ks) ≡ made (keys_from key ks) → (b : Bool)
          → cond (not b) (by_any k (trees k) ∷ found_from key (made ks)) (found_from key (made ks)) ≡ made (cond (not b) (k ∷ keys_from key ks) (keys_from key ks))
      over rest true = rest
      over rest false = ap (λ (fs : List Found). by_any k (trees k) ∷ fs) rest

  -- the tree of a key that may be there, if it is the one that is looked for
  abbrev pub made_at : DocKey → Option DocKey → Option Tree
  made_at key None = None
  made_at key (Some k) = cond (is_at key (by_any k (trees k))) (Some (by_any k (trees k)).tree) None

  first_made : (key : DocKey) (ks : List DocKey) → first_at key (made ks) ≡ made_at key (slice_get ks 0)
  first_made key [] = refl
  first_made key (k ∷ ks) = refl

-- ---- what is left of a prefix term

pub left_keys : (number : ℕ) (c : PrefixPostings) → found_keys (found_words_left number c) ≡ united c.lists
left_keys number c = keys_made (word_trees number c) (united c.lists)

pub left_ranked : (number : ℕ) (c : PrefixPostings) → IsRanked (found_keys (found_words_left number c))
left_ranked number c = subst IsRanked (sym (left_keys number c)) (IsRanked-united c.lists)

-- where a cursor has passed what comes before a key, so has what is left
pub left_from : (number : ℕ) (key : DocKey) (old : PrefixPostings) (lists : List (List DocKey)) → united lists ≡ keys_from key (united old.lists)
    → found_from key (found_words_left number old) ≡ found_words_left number (record old { lists = lists })
left_from number key old lists passed = made_from (word_trees number old) key (united old.lists) ∙ ap (map (λ k. by_any k (word_trees number old k))) (sym passed)

pub left_later : (number : ℕ) (key : DocKey) (old : PrefixPostings) (lists : List (List DocKey)) → united lists ≡ keys_from key (united old.lists)
    → KeepsLater key (found_words_left number old) (found_words_left number (record old { lists = lists }))
left_later number key old lists passed = subst (KeepsLater key (found_words_left number old)) (left_from number key old lists passed) (keeps_from key (found_words_left number old) (left_ranked number old))

-- the tree at a key is that of the first key that is left, if it is this one
pub left_here : (number : ℕ) (key : DocKey) (old : PrefixPostings) (lists : List (List DocKey)) → united lists ≡ keys_from key (united old.lists)
    → tree_at (found_words_left number old) key ≡ made_at (word_trees number old) key (slice_get (united lists) 0)
left_here number key old lists passed =
    tree_here (found_words_left number old) key (left_ranked number old) ∙ ap (first_at key) (left_from number key old lists passed)
    ∙ first_made (word_trees number old) key (united lists)

-- ---- all of it

rows_at : (number : ℕ) (word : List ℕ) (k : DocKey) (rows : List (Place × Audience))
    → tree_at (map (found_posting (leaf_of number (Word word))) (map posting_of rows)) k ≡ option_map (word_tree number word k) (find doc_cmp k (map keyed rows))
rows_at number word k [] = refl
rows_at number word k (r ∷ rows) =
    ap (λ b. cond b (Some (word_tree number word r.0.key r.1)) (tree_at (map (found_posting (leaf_of number (Word word))) (map posting_of rows)) k)) (is_eq_swap r.0.key k)
    ∙ over (is_eq (doc_cmp k r.0.key)) refl (rows_at number word k rows)
  where
    over : (b : Bool) → is_eq (doc_cmp k r.0.key) ≡ b → tree_at (map (found_posting (leaf_of number (Word word))) (map posting_of rows)) k ≡ option_map (word_tree number word k) (find doc_cmp k (map keyed rows))
        → cond b (Some (word_tree number word r.0.key r.1)) (tree_at (map (found_posting (leaf_of number (Word word))) (map posting_of rows)) k)
        ≡ option_map (word_tree number word k) (cond b (Some r.1) (find doc_cmp k (map keyed rows)))
    over true same rest = ap (λ (x : DocKey). Some (word_tree number word x r.1)) (sym (same_from_is_eq k r.0.key same))
    over false other rest = rest

-- a word has a tree at a key where the table has a posting there
word_at : (table : PostingTable) (number : ℕ) (k : DocKey) (word : List ℕ)
    → tree_at (found_term table (leaf_of number (Word word))) k ≡ option_map (word_tree number word k) (audience_of number table word k)
word_at table number k word =
    rows_at number word k (filter (is_under (term_of number (Word word))) (finite.entries table))
    ∙ ap (option_map (word_tree number word k)) (sym (get-under (term_of number (Word word)) k table))

words_at : (table : PostingTable) (number : ℕ) (k : DocKey) (words : List (List ℕ))
    → trees_at (found_words table number words) k ≡ filter_map (λ word. option_map (word_tree number word k) (audience_of number table word k)) words
words_at table number k [] = refl
words_at table number k (word ∷ words) = λ i. cons_option (word_at table number k word i) (words_at table number k words i)

keys_of_words : (table : PostingTable) (number : ℕ) (words : List (List ℕ)) → map found_keys (found_words table number words) ≡ map (λ word. keys_of (word_postings number table word)) words
keys_of_words table number [] = refl
keys_of_words table number (word ∷ words) =
    λ i. keys_of_term (leaf_of number (Word word)) (word_postings number table word) i ∷ keys_of_words table number words i

-- what words lead to, key by key
words_left : (table : PostingTable) (number : ℕ) (words : List (List ℕ)) (ks : List DocKey)
    → map (λ k. by_any k (filter_map (λ word. option_map (word_tree number word k) (audience_of number table word k)) words)) ks ≡ map (found_at Or (found_words table number words)) ks
words_left table number words [] = refl
words_left table number words (k ∷ ks) =
    let trees : filter_map (λ word. option_map (word_tree number word k) (audience_of number table word k)) words ≡ trees_at (found_words table number words) k = sym (words_at table number k words) in
    λ i. by_any k (trees i) ∷ words_left table number words ks i

-- the keys that a prefix term finds are those of its cursor
pub prefix_keys : (table : PostingTable) (number : ℕ) (from : List ℕ) → found_keys (found_any (found_prefix table number from)) ≡ united (all_postings number from table).lists
prefix_keys table number from =
    keys_of_list Or [] (found_prefix table number from) ∙ ap united (keys_of_words table number (prefix_words number from table))

-- and its hits are what is left before it is read
pub prefix_left : (table : PostingTable) (number : ℕ) (from : List ℕ) → found_words_left number (all_postings number from table) ≡ found_any (found_prefix table number from)
prefix_left table number from =
    let words = prefix_words number from table in
    words_left table number words (united (all_postings number from table).lists)
    ∙ ap (map (found_at Or (found_words table number words))) (sym (ap united (keys_of_words table number words)))

-- ---- word by word

-- the trees under the first words
abbrev pub trees_to : ℕ → PrefixPostings → DocKey → ℕ → List Tree
trees_to number c k i = filter_map (λ word. option_map (word_tree number word k) (audience_of c.number c.table word k)) (take i c.words)

pub trees_next : (number : ℕ) (c : PrefixPostings) (k : DocKey) (i : ℕ) (audience : Option Audience) → i < length c.words → audience ≡ audience_of c.number c.table (get_or c.words i []) k
    → trees_to number c k (i + 1) ≡ trees_to number c k i ++ cons_option (option_map (word_tree number (get_or c.words i []) k) audience) []
trees_next number c k i audience fits is =
    let tree = λ (w : List ℕ). option_map (word_tree number w k) (audience_of c.number c.table w k) in
    let more : take (i + 1) c.words ≡ take i c.words ++ get_or c.words i [] ∷ [] = ap (λ n. take n c.words) (let e : i + 1 ≡ suc i = omega arith in e) ∙ take-suc c.words i [] fits in
    ap (filter_map tree) more ∙ filter_map-append tree (take i c.words) (get_or c.words i [] ∷ [])
    ∙ ap (λ (a : Option Audience). trees_to number c k i ++ cons_option (option_map (word_tree number (get_or c.words i []) k) a) []) (sym is)

pub trees_with : (number : ℕ) (c : PrefixPostings) (k : DocKey) (i : ℕ) (word : List ℕ) (audience : Audience) → i < length c.words → Some audience ≡ audience_of c.number c.table (get_or c.words i []) k → slice_get c.words i ≡ Some word
    → trees_to number c k (i + 1) ≡ trees_to number c k i ++ word_tree number word k audience ∷ []
trees_with number c k i word audience fits is here =
    trees_next number c k i (Some audience) fits is ∙ ap (λ (w : List ℕ). trees_to number c k i ++ word_tree number w k audience ∷ []) (get_or_from_slice_get c.words i word [] here)

pub trees_without : (number : ℕ) (c : PrefixPostings) (k : DocKey) (i : ℕ) → i < length c.words → None ≡ audience_of c.number c.table (get_or c.words i []) k → trees_to number c k (i + 1) ≡ trees_to number c k i
trees_without number c k i fits is = trees_next number c k i None fits is ∙ append-nil (trees_to number c k i)

pub trees_all : (number : ℕ) (c : PrefixPostings) (k : DocKey) (i : ℕ) → length c.words ≤ i → trees_to number c k i ≡ word_trees number c k
trees_all number c k i past = ap (filter_map (λ word. option_map (word_tree number word k) (audience_of c.number c.table word k))) (take_all i c.words past)
