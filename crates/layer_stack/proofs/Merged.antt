-- What parts stand for together, by look-ups.
use Rattle.std.proofs.Common.{◌≡◌, ◌++◌, ℕ, zero, suc, ◌+◌, ◌<◌, ◌≤◌, Bool, true, false, cond, ◌||◌, List, [], ◌∷◌, map, filter, take, drop, get_or, length, Option, None, Some, refl, sym, ◌∙◌, ap, subst, arith, All, is_some, ◌⊎◌, inl, inr}
use Rattle.std.specs.Prelude.{T}
use Rattle.std.specs.Option.{unwrap_or}
use Rattle.std.specs.List.{slice_get}
use Rattle.std.specs.FinMap as finite
use Rattle.std.specs.FinMap.Entries.{find, is_sorted, below_all, is_sorted-where_key, find-where_key, same_entries}
use Rattle.std.specs.declared.cmp.Ordering.{Ordering}
use Rattle.std.specs.declared.cmp.Ordering.TheVariants.{Less, Equal, Greater}
use Rattle.std.specs.Ordering.{is_eq, eq_by_cmp}
use Rattle.std.proofs.lemmas.List.Elements.{All-nil, All-cons, All-head, All-tail, All-weaker}
use Rattle.uni_base.specs.declared.entity.DocKey.{DocKey}
use Rattle.uni_base.specs.declared.edge.Audience.{Audience}
use Rattle.uni_base.specs.Cursors.{is_before, is_less, IsRanked}
use Rattle.uni_base.specs.RankOrder.{doc_cmp}
use Rattle.uni_base.specs.KeySets.{has_key}
use Rattle.uni_base.proofs.RankedLemmas.{doc_total, exact_key, Standing, before, same, after, standing, is_eq_swap, is_eq_same, same_from_is_eq, IsBeforeAll, is_before_trans_right, is_before_trans_left, is_before_back, is_before_self}
use Rattle.posting_lists.specs.declared.posting.Posting.{Posting}
use Rattle.posting_lists.specs.Postings.{keys_of}
use Rattle.layer_base.specs.Lookups.{either}
use Rattle.layer_base.specs.Layers.{layer_over, stack_over}
use Rattle.layer_base.proofs.Tables.{get-layer_over}
use Rattle.layer_stack.specs.Stacks.{PartValue, entry_of, posting_at, deleted_at, part_changes, part_table, remaining_of, part_where, StandsFrom, head_of, lesser, least_from}
use Rattle.layer_stack.proofs.Heads.{find_absent}
use Rattle.layer_stack.proofs.Under.{sorted_ranked}
use Rattle.layer_base.proofs.Sorted.{both, first, second, less_from, lt_from, find_below}

abbrev DocTable : Type 0
DocTable = finite.FinMap doc_cmp Audience

abbrev nothing : Option Audience
nothing = None

cond_nothing : (b : Bool) → cond b nothing nothing ≡ nothing
cond_nothing true = refl
cond_nothing false = refl

is_some-find_deleted : (k : DocKey) (ds : List DocKey) → is_some (find doc_cmp k (map deleted_at ds)) ≡ has_key ds k
is_some-find_deleted k [] = refl
is_some-find_deleted k (d ∷ ds) =
    elim (eq_by_cmp doc_cmp k d) as (λ b. is_some (cond b (Some tt) (find doc_cmp k (map deleted_at ds))) ≡ (b || has_key ds k)) [ true ↦ refl | false ↦ is_some-find_deleted k ds ]
    ∙ ap (λ b. b || has_key ds k) (is_eq_swap k d)

-- the answer at a key over one more part
pub get-part : (table : DocTable) (part : PartValue) (k : DocKey)
    → finite.get (layer_over table (part_changes part)) k ≡ either (find doc_cmp k (map entry_of part.1)) (cond (has_key part.0 k) None (finite.get table k))
get-part table part k =
    get-layer_over doc_total exact_key table (part_changes part) k
    ∙ (λ i. either (finite.get-from_entries doc_total (map entry_of part.1) k i) (cond (deleted i) None (finite.get table k)))
  where
    deleted : finite.contains_key (finite.from_entries {R = doc_cmp} (map deleted_at part.0)) k ≡ has_key part.0 k
    deleted = ap is_some (finite.get-from_entries doc_total (map deleted_at part.0) k) ∙ is_some-find_deleted k part.0

pub find-filter : (p : DocKey → Bool) (k : DocKey) (ps : List Posting) → find doc_cmp k (map entry_of (filter (λ x. p x.key) ps)) ≡ cond (p k) (find doc_cmp k (map entry_of ps)) None
find-filter p k [] = sym (cond_nothing (p k))
find-filter p k (x ∷ ps) = by (p x.key) (eq_by_cmp doc_cmp k x.key) refl refl (find-filter p k ps)
  where
    by : (b c : Bool) → p x.key ≡ b → eq_by_cmp doc_cmp k x.key ≡ c → find doc_cmp k (map entry_of (filter (λ y. p y.key) ps)) ≡ cond (p k) (find doc_cmp k (map entry_of ps)) None
        → find doc_cmp k (map entry_of (cond b (x ∷ filter (λ y. p y.key) ps) (filter (λ y. p y.key) ps))) ≡ cond (p k) (cond c (Some x.audience) (find doc_cmp k (map entry_of ps))) None
    by true true e f rest =
        let is : k ≡ x.key = same_from_is_eq k x.key f in
        ap (λ c. cond c (Some x.audience) (find doc_cmp k (map entry_of (filter (λ y. p y.key) ps)))) f ∙ sym (ap (λ c. cond c (Some x.audience) None) (ap p is ∙ e))
    by true false e f rest = ap (λ c. cond c (Some x.audience) (find doc_cmp k (map entry_of (filter (λ y. p y.key) ps)))) f ∙ rest
    by false true e f rest =
        let is : k ≡ x.key = same_from_is_eq k x.key f in let no : p k ≡ false = ap p is ∙ e in
        rest ∙ ap (λ c. cond c (find doc_cmp k (map entry_of ps)) None) no ∙ sym (ap (λ c. cond c (Some x.audience) None) no)
    by false false e f rest = rest

-- the answers over parts whose postings pass a test
get-where : (p : DocKey → Bool) (k : DocKey) (parts : List PartValue) (t u : DocTable) → finite.get u k ≡ cond (p k) (finite.get t k) None
    → finite.get (stack_over u (map part_changes (map (part_where p) parts))) k ≡ cond (p k) (finite.get (stack_over t (map part_changes parts)) k) None
get-where p k [] t u e = e
get-where p k (part ∷ parts) t u e =
    get-where p k parts (layer_over t (part_changes part)) (layer_over u (part_changes (part_where p part)))
    (get-part u (part_where p part) k ∙ (λ i. either (find-filter p k part.1 i) (cond (has_key part.0 k) None (e i)))
    ∙ by (p k) (has_key part.0 k) ∙ ap (λ o. cond (p k) o None) (sym (get-part t part k)))
  where
    by : (b c : Bool) → either (cond b (find doc_cmp k (map entry_of part.1)) None) (cond c None (cond b (finite.get t k) None)) ≡ cond b (either (find doc_cmp k (map entry_of part.1)) (cond c None (finite.get t k))) None
    by true c = refl
    by false true = refl
    by false false = refl

pub get-part_table-where : (p : DocKey → Bool) (k : DocKey) (parts : List PartValue) → finite.get (part_table (map (part_where p) parts)) k ≡ cond (p k) (finite.get (part_table parts) k) None
get-part_table-where p k parts = get-where p k parts finite.empty finite.empty (finite.get-empty doc_cmp k ∙ sym (cond_nothing (p k)) ∙ ap (λ o. cond (p k) o None) (sym (finite.get-empty doc_cmp k)))

-- a key that no part has is not in their table
get-absent : (k : DocKey) (parts : List PartValue) (t : DocTable) → finite.get t k ≡ None → All (λ part. find doc_cmp k (map entry_of part.1) ≡ None) parts → finite.get (stack_over t (map part_changes parts)) k ≡ None
get-absent k [] t e all = e
get-absent k (part ∷ parts) t e all =
    get-absent k parts (layer_over t (part_changes part))
    (get-part t part k ∙ (λ i. either (All-head (λ (q : PartValue). find doc_cmp k (map entry_of q.1) ≡ None) part parts all i) (cond (has_key part.0 k) None (e i))) ∙ cond_nothing (has_key part.0 k))
    (All-tail (λ (q : PartValue). find doc_cmp k (map entry_of q.1) ≡ None) part parts all)

before_all : (k key : DocKey) (ps : List Posting) → is_before k key ≡ true → All (λ x. is_before x.key key ≡ false) ps → IsBeforeAll k (keys_of ps)
before_all k key [] less all = All-nil (λ x. is_before k x ≡ true)
before_all k key (p ∷ ps) less all =
    All-cons (λ x. is_before k x ≡ true) p.key (keys_of ps) (is_before_trans_right k key p.key less (All-head (λ (x : Posting). is_before x.key key ≡ false) p ps all))
    (before_all k key ps less (All-tail (λ (x : Posting). is_before x.key key ≡ false) p ps all))

-- nothing stands before a key from which all parts stand
pub absent_before : (key k : DocKey) (parts : List PartValue) → All (StandsFrom key) parts → is_before k key ≡ true → finite.get (part_table parts) k ≡ None
absent_before key k parts stand less =
    get-absent k parts finite.empty (finite.get-empty doc_cmp k)
    (All-weaker (StandsFrom key) (λ part. find doc_cmp k (map entry_of part.1) ≡ None) (λ part from. find_absent k part.1 (before_all k key part.1 less from)) parts stand)

-- ---- the remaining postings

map-where : (p : DocKey → Bool) (es : List (DocKey × Audience)) → map posting_at (filter (λ e. p e.0) es) ≡ filter (λ x. p x.key) (map posting_at es)
map-where p [] = refl
map-where p (e ∷ es) =
    elim (p e.0) as (λ b. map posting_at (cond b (e ∷ filter (λ d. p d.0) es) (filter (λ d. p d.0) es)) ≡ cond b (posting_at e ∷ filter (λ x. p x.key) (map posting_at es)) (filter (λ x. p x.key) (map posting_at es))) [
      | true ↦ ap (λ xs. posting_at e ∷ xs) (map-where p es)
      | false ↦ map-where p es
    ]

-- entries with the same answers at all keys
pub same_by_get : (es : List (DocKey × Audience)) (t : DocTable) → T (is_sorted doc_cmp es) → ((q : DocKey) → find doc_cmp q es ≡ finite.get t q) → es ≡ finite.entries t
same_by_get es t sorted alike = same_entries doc_cmp doc_total exact_key es (finite.entries t) sorted (finite.entries_sorted t) (λ q. alike q ∙ finite.get-entries t q)

pub remaining-where : (p : DocKey → Bool) (parts : List PartValue) → remaining_of (map (part_where p) parts) ≡ filter (λ x. p x.key) (remaining_of parts)
remaining-where p parts =
    ap (map posting_at) (sym (same_by_get (filter (λ e. p e.0) (finite.entries (part_table parts))) (part_table (map (part_where p) parts))
    (is_sorted-where_key doc_cmp p (finite.entries (part_table parts)) (finite.entries_sorted (part_table parts)))
    (λ q. find-where_key doc_cmp p q (λ x e. ap p (sym (exact_key q x e))) (finite.entries (part_table parts)) ∙ ap (λ o. cond (p q) o None) (sym (finite.get-entries (part_table parts) q)) ∙ sym (get-part_table-where p q parts))))
    ∙ map-where p (finite.entries (part_table parts))

keys_of-postings : (es : List (DocKey × Audience)) → map (λ e. e.0) es ≡ keys_of (map posting_at es)
keys_of-postings [] = refl
keys_of-postings (e ∷ es) = ap (λ ks. e.0 ∷ ks) (keys_of-postings es)

pub remaining_ranked : (parts : List PartValue) → IsRanked (keys_of (remaining_of parts))
remaining_ranked parts = subst IsRanked (keys_of-postings (finite.entries (part_table parts))) (sorted_ranked (finite.entries (part_table parts)) (finite.entries_sorted (part_table parts)))

-- a key at which nothing is found, and before which nothing stands, can be passed
pub hidden_passes : (key : DocKey) (parts : List PartValue) → All (StandsFrom key) parts → finite.get (part_table parts) key ≡ None → remaining_of (map (part_where (is_before key)) parts) ≡ remaining_of parts
hidden_passes key parts stand none =
    ap (map posting_at) (ap finite.entries (finite.same_map doc_total exact_key (part_table (map (part_where (is_before key)) parts)) (part_table parts) alike))
  where
    alike : (q : DocKey) → finite.get (part_table (map (part_where (is_before key)) parts)) q ≡ finite.get (part_table parts) q
    alike q = get-part_table-where (is_before key) q parts ∙ by (standing key q)
      where
        by : Standing key q → cond (is_before key q) (finite.get (part_table parts) q) None ≡ finite.get (part_table parts) q
        by (before e _ _ _) = ap (λ b. cond b (finite.get (part_table parts) q) None) e
        by (same e) = let gone : finite.get (part_table parts) q ≡ None = subst (λ (x : DocKey). finite.get (part_table parts) x ≡ None) e none in
            ap (λ o. cond (is_before key q) o None) gone ∙ cond_nothing (is_before key q) ∙ sym gone
        by (after e f _ _) = ap (λ b. cond b (finite.get (part_table parts) q) None) f ∙ sym (absent_before key q parts stand e)

before_less : (a b : DocKey) → is_before a b ≡ true → doc_cmp a b ≡ Less
before_less a b e = by (doc_cmp a b) e
  where
    by : (o : Ordering) → is_less o ≡ true → o ≡ Less
    by Less p = refl
    by Equal p = cc
    by Greater p = cc

below_less : (a b : DocKey) (es : List (DocKey × Audience)) → doc_cmp a b ≡ Less → T (below_all doc_cmp b es) → T (below_all doc_cmp a es)
below_less a b [] less below = tt
below_less a b (e ∷ es) less below = both _ _ (lt_from _ (doc_total.trans a b e.0 less (less_from _ (first _ _ below)))) (below_less a b es less (second _ _ below))

never : (a : Audience) → Some a ≡ None → ⊥
never a e = subst T (ap is_some e) tt

some_is : (a b : Audience) → Some a ≡ Some b → a ≡ b
some_is a b e = ap (λ o. unwrap_or o a) e

-- the first entry, where nothing is found before its key
first_entry : (key : DocKey) (a : Audience) (es : List (DocKey × Audience)) → T (is_sorted doc_cmp es) → find doc_cmp key es ≡ Some a → ((k : DocKey) → is_before k key ≡ true → find doc_cmp k es ≡ None)
    → slice_get es 0 ≡ Some (key, a)
first_entry key a [] sorted found none = cc
first_entry key a (e ∷ es) sorted found none = by (standing e.0 key)
  where
    itself : find doc_cmp e.0 (e ∷ es) ≡ Some e.1
    itself = ap (λ b. cond b (Some e.1) (find doc_cmp e.0 es)) (is_eq_same e.0 e.0 refl)

    by : Standing e.0 key → slice_get (e ∷ es) 0 ≡ Some (key, a)
    by (before b _ _ _) = absurd (never e.1 (sym itself ∙ none e.0 b))
    by (same k) = let value : e.1 ≡ a = some_is e.1 a (sym itself ∙ ap (λ x. find doc_cmp x (e ∷ es)) k ∙ found) in λ i. Some (k i, value i)
    by (after b _ _ _) =
        let less : doc_cmp key e.0 ≡ Less = before_less key e.0 b in
        let gone : find doc_cmp key (e ∷ es) ≡ None = ap (λ r. cond (is_eq r) (Some e.1) (find doc_cmp key es)) less ∙ find_below doc_cmp key es (below_less key e.0 es less (first _ _ sorted)) in
        absurd (never a (sym found ∙ gone))

-- what is found at a key from which all parts stand is their first posting
pub front_is : (key : DocKey) (a : Audience) (parts : List PartValue) → All (StandsFrom key) parts → finite.get (part_table parts) key ≡ Some a → slice_get (remaining_of parts) 0 ≡ Some (record { key = key; audience = a })
front_is key a parts stand found =
    slice_get-posting (finite.entries (part_table parts)) (key, a)
    (first_entry key a (finite.entries (part_table parts)) (finite.entries_sorted (part_table parts)) (sym (finite.get-entries (part_table parts) key) ∙ found)
    (λ k less. sym (finite.get-entries (part_table parts) k) ∙ absent_before key k parts stand less))
  where
    slice_get-posting : (es : List (DocKey × Audience)) (e : DocKey × Audience) → slice_get es 0 ≡ Some e → slice_get (map posting_at es) 0 ≡ Some (posting_at e)
    slice_get-posting [] e h = cc
    slice_get-posting (d ∷ es) e h = let is : d ≡ e = ap (λ o. unwrap_or o d) h in ap (λ x. Some (posting_at x)) is

-- parts at their ends stand for nothing
pub none_left : (parts : List PartValue) → All (λ part. part.1 ≡ []) parts → remaining_of parts ≡ []
none_left parts ends =
    ap (map posting_at) (sym (same_by_get [] (part_table parts) tt
    (λ q. sym (get-absent q parts finite.empty (finite.get-empty doc_cmp q) (All-weaker (λ part. part.1 ≡ []) (λ part. find doc_cmp q (map entry_of part.1) ≡ None) (λ part e. ap (λ ps. find doc_cmp q (map entry_of ps)) e) parts ends)))))

-- ---- the least first key

no_head : (part : PartValue) → head_of part ≡ None → part.1 ≡ []
no_head part e = by part.1 e
  where
    by : (ps : List Posting) → slice_get (keys_of ps) 0 ≡ None → ps ≡ []
    by [] h = refl
    by (p ∷ ps) h = cc

lesser-none : (a b : Option DocKey) → lesser a b ≡ None → (a ≡ None) × (b ≡ None)
lesser-none None b e = (refl, e)
lesser-none (Some x) None e = cc
lesser-none (Some x) (Some y) e = by (is_before x y) e
  where
    by : (c : Bool) → cond c (Some x) (Some y) ≡ None → (Some x ≡ None) × (Some y ≡ None)
    by true h = cc
    by false h = cc

-- one part more
pub least_from-push : (least : Option DocKey) (parts : List PartValue) (part : PartValue) → least_from least (parts ++ part ∷ []) ≡ lesser (least_from least parts) (head_of part)
least_from-push least [] part = refl
least_from-push least (p ∷ parts) part = least_from-push (lesser least (head_of p)) parts part

pub least_none : (least : Option DocKey) (parts : List PartValue) → least_from least parts ≡ None → (least ≡ None) × All (λ part. part.1 ≡ []) parts
least_none least [] e = (e, All-nil (λ part. part.1 ≡ []))
least_none least (part ∷ parts) e =
    let rest = least_none (lesser least (head_of part)) parts e in
    let two = lesser-none least (head_of part) rest.0 in
    (two.0, All-cons (λ q. q.1 ≡ []) part parts (no_head part two.1) rest.1)

-- some part's first posting is at a key
abbrev pub HasHead : DocKey → List PartValue → Type 0
HasHead k [] = ⊥
HasHead k (part ∷ parts) = (head_of part ≡ Some k) ⊎ HasHead k parts

abbrev pub AreRanked : List PartValue → Type 0
AreRanked parts = All (λ part. IsRanked (keys_of part.1)) parts

-- postings in rank order stand from a key that their first one does not come before
stands : (k : DocKey) (ps : List Posting) → IsRanked (keys_of ps) → ((h : DocKey) → slice_get (keys_of ps) 0 ≡ Some h → is_before h k ≡ false) → All (λ x. is_before x.key k ≡ false) ps
stands k [] ranked head = All-nil (λ x. is_before x.key k ≡ false)
stands k (p ∷ ps) ranked head =
    All-cons (λ x. is_before x.key k ≡ false) p ps (head p.key refl) (later ps ranked.0)
  where
    later : (qs : List Posting) → All (λ x. is_before p.key x ≡ true) (keys_of qs) → All (λ x. is_before x.key k ≡ false) qs
    later [] all = All-nil (λ x. is_before x.key k ≡ false)
    later (q ∷ qs) all =
        All-cons (λ x. is_before x.key k ≡ false) q qs (after_too q.key (All-head (λ x. is_before p.key x ≡ true) q.key (keys_of qs) all)) (later qs (All-tail (λ x. is_before p.key x ≡ true) q.key (keys_of qs) all))
      where
        after_too : (x : DocKey) → is_before p.key x ≡ true → is_before x k ≡ false
        after_too x b = is_before_back k x (is_before_trans_left k p.key x (head p.key refl) b)

-- what the lesser of two is
record Lesser (a b : Option DocKey) (k : DocKey) : Type 0 where
  from_first : (x : DocKey) → a ≡ Some x → is_before x k ≡ false
  from_second : (x : DocKey) → b ≡ Some x → is_before x k ≡ false
  is_one : (a ≡ Some k) ⊎ (b ≡ Some k)

some_key : (a b : DocKey) → Some a ≡ Some b → a ≡ b
some_key a b e = ap (λ o. unwrap_or o a) e

not_before_same : (x k : DocKey) → Some x ≡ Some k → is_before x k ≡ false
not_before_same x k e = subst (λ (y : DocKey). is_before x y ≡ false) (some_key x k e) (is_before_self x)

lesser_is : (a b : Option DocKey) (k : DocKey) → lesser a b ≡ Some k → Lesser a b k
lesser_is None b k e = record { from_first = λ x h. cc; from_second = λ x h. not_before_same x k (sym h ∙ e); is_one = inr e }
lesser_is (Some y) None k e = record { from_first = λ x h. not_before_same x k (sym h ∙ e); from_second = λ x h. cc; is_one = inl e }
lesser_is (Some y) (Some z) k e = by (is_before y z) refl e
  where
    by : (c : Bool) → is_before y z ≡ c → cond c (Some y) (Some z) ≡ Some k → Lesser (Some y) (Some z) k
    by true b h = record {
      from_first = λ x g. not_before_same x k (sym g ∙ h);
      from_second = λ x g. subst (λ (w : DocKey). is_before w k ≡ false) (some_key z x g) (subst (λ (w : DocKey). is_before z w ≡ false) (some_key y k h) (is_before_back y z b));
      is_one = inl h;
    }
    by false b h = record {
      from_first = λ x g. subst (λ (w : DocKey). is_before w k ≡ false) (some_key y x g) (subst (λ (w : DocKey). is_before y w ≡ false) (some_key z k h) b);
      from_second = λ x g. not_before_same x k (sym g ∙ h);
      is_one = inr h;
    }

pub record Least (least : Option DocKey) (parts : List PartValue) (k : DocKey) : Type 0 where
  pub from_least : (x : DocKey) → least ≡ Some x → is_before x k ≡ false
  pub stand : All (StandsFrom k) parts
  pub is_one : (least ≡ Some k) ⊎ HasHead k parts

pub least_some : (least : Option DocKey) (parts : List PartValue) (k : DocKey) → AreRanked parts → least_from least parts ≡ Some k → Least least parts k
least_some least [] k ranked e = record { from_least = λ x h. not_before_same x k (sym h ∙ e); stand = All-nil (StandsFrom k); is_one = inl e }
least_some least (part ∷ parts) k ranked e = by (least_some (lesser least (head_of part)) parts k (All-tail (λ (q : PartValue). IsRanked (keys_of q.1)) part parts ranked) e)
  where
    here_ranked : IsRanked (keys_of part.1)
    here_ranked = All-head (λ (q : PartValue). IsRanked (keys_of q.1)) part parts ranked

    -- the lesser of both is not before k, so neither is
    bound : (a b : Option DocKey) → ((x : DocKey) → lesser a b ≡ Some x → is_before x k ≡ false) → ((x : DocKey) → a ≡ Some x → is_before x k ≡ false) × ((x : DocKey) → b ≡ Some x → is_before x k ≡ false)
    bound None b low = ((λ x h. cc), low)
    bound (Some y) None low = (low, λ x h. cc)
    bound (Some y) (Some z) low = of_two (is_before y z) refl low
      where
        of_two : (c : Bool) → is_before y z ≡ c → ((x : DocKey) → cond c (Some y) (Some z) ≡ Some x → is_before x k ≡ false) → ((x : DocKey) → Some y ≡ Some x → is_before x k ≡ false) × ((x : DocKey) → Some z ≡ Some x → is_before x k ≡ false)
        of_two true b h = (h, λ x g. subst (λ (w : DocKey). is_before w k ≡ false) (some_key z x g) (is_before_back k z (is_before_trans_left k y z (h y refl) b)))
        of_two false b h = ((λ x g. subst (λ (w : DocKey). is_before w k ≡ false) (some_key y x g) (is_before_back_of y z k b (h z refl))), h)
          where
            is_before_back_of : (u v w : DocKey) → is_before u v ≡ false → is_before v w ≡ false → is_before u w ≡ false
            is_before_back_of u v w p q = settled (is_before u w) refl
              where
                settled : (c : Bool) → is_before u w ≡ c → c ≡ false
                settled true t = absurd_true (is_before_trans_left v u w p t)
                  where
                    absurd_true : is_before v w ≡ true → true ≡ false
                    absurd_true f = sym f ∙ q
                settled false t = refl

    by : Least (lesser least (head_of part)) parts k → Least least (part ∷ parts) k
    by rest = record {
      from_least = (bound least (head_of part) rest.from_least).0;
      stand = All-cons (StandsFrom k) part parts (stands k part.1 here_ranked (bound least (head_of part) rest.from_least).1) rest.stand;
      is_one = one rest.is_one;
    }
      where
        one : (lesser least (head_of part) ≡ Some k) ⊎ HasHead k parts → (least ≡ Some k) ⊎ HasHead k (part ∷ parts)
        one (inl f) = of_one (lesser_is least (head_of part) k f).is_one
          where
            of_one : (least ≡ Some k) ⊎ (head_of part ≡ Some k) → (least ≡ Some k) ⊎ HasHead k (part ∷ parts)
            of_one (inl g) = inl g
            of_one (inr g) = inr (inl g)
        one (inr f) = inr (inr f)

-- ---- what is left to be read falls

abbrev pub total_of : List PartValue → ℕ
total_of [] = 0
total_of (part ∷ parts) = length part.1 + total_of parts

filter_shrinks : (p : Posting → Bool) (ps : List Posting) → length (filter p ps) ≤ length ps
filter_shrinks p [] = omega arith
filter_shrinks p (x ∷ ps) = elim (p x) as (λ b. length (cond b (x ∷ filter p ps) (filter p ps)) ≤ length (x ∷ ps)) [ true ↦ omega (arith, filter_shrinks p ps) | false ↦ omega (arith, filter_shrinks p ps) ]

total_shrinks : (k : DocKey) (parts : List PartValue) → total_of (map (part_where (is_before k)) parts) ≤ total_of parts
total_shrinks k [] = omega arith
total_shrinks k (part ∷ parts) = omega (arith, filter_shrinks (λ x. is_before k x.key) part.1, total_shrinks k parts)

head_goes : (k : DocKey) (ps : List Posting) → slice_get (keys_of ps) 0 ≡ Some k → length (filter (λ x. is_before k x.key) ps) < length ps
head_goes k [] e = cc
head_goes k (p ∷ ps) e =
    let is : p.key ≡ k = some_key p.key k e in
    let gone : is_before k p.key ≡ false = subst (λ (x : DocKey). is_before x p.key ≡ false) is (is_before_self p.key) in
    let same : length (filter (λ x. is_before k x.key) (p ∷ ps)) ≡ length (filter (λ x. is_before k x.key) ps) = ap (λ b. length (cond b (p ∷ filter (λ x. is_before k x.key) ps) (filter (λ x. is_before k x.key) ps))) gone in
    omega (arith, same, filter_shrinks (λ x. is_before k x.key) ps)

pub total_falls : (k : DocKey) (parts : List PartValue) → HasHead k parts → total_of (map (part_where (is_before k)) parts) < total_of parts
total_falls k [] has = absurd has
total_falls k (part ∷ parts) (inl e) = omega (arith, head_goes k part.1 e, total_shrinks k parts)
total_falls k (part ∷ parts) (inr has) = omega (arith, filter_shrinks (λ x. is_before k x.key) part.1, total_falls k parts has)

-- ---- parts of which the first ones are passed

-- a part that is not passed is as it was
pub not_passed : (f : PartValue → PartValue) (parts now : List PartValue) (i : ℕ) (d : PartValue) → i < length parts → now ≡ map f (take i parts) ++ drop i parts → get_or now i d ≡ get_or parts i d
not_passed f parts now i d fits is = ap (λ (ps : List PartValue). get_or ps i d) is ∙ by parts i fits
  where
    by : (ps : List PartValue) (n : ℕ) → n < length ps → get_or (map f (take n ps) ++ drop n ps) n d ≡ get_or ps n d
    by [] n low = absurd (omega (arith, low))
    by (p ∷ ps) zero low = refl
    by (p ∷ ps) (suc n) low = by ps n (omega (arith, low))
