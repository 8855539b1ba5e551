-- Postings in rank order, of which a list of keys tells what they are.
use Rattle.std.proofs.Common.{◌≡◌, ◌||◌, ◌⊎◌, inl, inr, Bool, true, false, cond, List, [], ◌∷◌, filter, Option, None, Some, is_some, refl, sym, ◌∙◌, ap, subst}
use Rattle.std.specs.List.{Contains, filter_map, cons_option}
use Rattle.std.specs.Ordering.{is_eq}
use Rattle.uni_base.specs.declared.entity.DocKey.{DocKey}
use Rattle.uni_base.specs.Cursors.{IsRanked}
use Rattle.uni_base.specs.KeySets.{has_key}
use Rattle.uni_base.specs.RankOrder.{doc_cmp}
use Rattle.uni_base.proofs.RankedLemmas.{IsRanked-filter, is_eq_same, same_from_is_eq, same_from_keys}
use Rattle.uni_table.proofs.Listed.{first_is, first_or_later, given_by, later_is, none_in_nil}
use Rattle.posting_lists.specs.declared.posting.Posting.{Posting}
use Rattle.posting_lists.specs.Postings.{keys_of}
use Rattle.apply_extract.specs.Edges.{AreInOrder}

or_true : (b : Bool) → (b || true) ≡ true
or_true true = refl
or_true false = refl

-- the key of a posting is among the keys
key_there : (ps : List Posting) (p : Posting) → Contains ps p → has_key (keys_of ps) p.key ≡ true
key_there [] p there = absurd (none_in_nil p there)
key_there (x ∷ ps) p there = by (first_or_later x ps p there) (key_there ps p)
  where
    by : (x ≡ p) ⊎ Contains ps p → (Contains ps p → has_key (keys_of ps) p.key ≡ true) → has_key (keys_of (x ∷ ps)) p.key ≡ true
    by (inl same) rest = ap (λ b. b || has_key (keys_of ps) p.key) (is_eq_same x.key p.key (ap (λ (q : Posting). q.key) same))
    by (inr later) rest = ap (λ b. is_eq (doc_cmp x.key p.key) || b) (rest later) ∙ or_true (is_eq (doc_cmp x.key p.key))

-- a list that has the key of each posting of another has each of its keys
keys_covered : (ps qs : List Posting) → ((p : Posting) → Contains ps p → has_key (keys_of qs) p.key ≡ true) → (k : DocKey) → has_key (keys_of ps) k ≡ true → has_key (keys_of qs) k ≡ true
keys_covered [] qs there k has = absurd cc
keys_covered (x ∷ ps) qs there k has = by (is_eq (doc_cmp x.key k)) refl has (keys_covered ps qs (λ p later. there p (later_is x ps p later)) k)
  where
    by : (b : Bool) → is_eq (doc_cmp x.key k) ≡ b → (b || has_key (keys_of ps) k) ≡ true → (has_key (keys_of ps) k ≡ true → has_key (keys_of qs) k ≡ true) → has_key (keys_of qs) k ≡ true
    by true same t rest = subst (λ (j : DocKey). has_key (keys_of qs) j ≡ true) (same_from_is_eq x.key k same) (there x (first_is x ps))
    by false other t rest = rest t

same_answer : (a b : Bool) → (a ≡ true → b ≡ true) → (b ≡ true → a ≡ true) → a ≡ b
same_answer true b to from = sym (to refl)
same_answer false true to from = from refl
same_answer false false to from = refl

-- what is given at keys, each posting at its own
module _ (f : DocKey → Option Posting) (named : (k : DocKey) (p : Posting) → f k ≡ Some p → p.key ≡ k) where
  abbrev IsGiven : Posting → Type 0
  IsGiven p = f p.key ≡ Some p

  all_given : (ks : List DocKey) (p : Posting) → Contains (filter_map f ks) p → IsGiven p
  all_given ks p there = let given = given_by f ks p there in ap f (named given.0 p given.2) ∙ given.2

  keys_given : (ks : List DocKey) → keys_of (filter_map f ks) ≡ filter (λ k. is_some (f k)) ks
  keys_given [] = refl
  keys_given (k ∷ ks) = by (f k) refl (keys_given ks)
    where
      by : (o : Option Posting) → f k ≡ o → keys_of (filter_map f ks) ≡ filter (λ j. is_some (f j)) ks
          → keys_of (cons_option o (filter_map f ks)) ≡ cond (is_some o) (k ∷ filter (λ j. is_some (f j)) ks) (filter (λ j. is_some (f j)) ks)
      by None e later = later
      by (Some p) e later = λ i. named k p e i ∷ later i

  -- they are in the order of the keys
  given_ranked : (ks : List DocKey) → IsRanked ks → IsRanked (keys_of (filter_map f ks))
  given_ranked ks ranked = subst IsRanked (sym (keys_given ks)) (IsRanked-filter (λ k. is_some (f k)) ks ranked)

  -- those at keys that pass a test
  pub given_filtered : (q : DocKey → Bool) (ks : List DocKey) → filter (λ p. q p.key) (filter_map f ks) ≡ filter_map f (filter q ks)
  given_filtered q [] = refl
  given_filtered q (k ∷ ks) = by (f k) refl (q k) refl (given_filtered q ks)
    where
      rest : List Posting
      rest = filter (λ p. q p.key) (filter_map f ks)

      by : (o : Option Posting) → f k ≡ o → (b : Bool) → q k ≡ b → filter (λ p. q p.key) (filter_map f ks) ≡ filter_map f (filter q ks)
          → filter (λ p. q p.key) (cons_option o (filter_map f ks)) ≡ filter_map f (cond b (k ∷ filter q ks) (filter q ks))
      by None e true t later = later ∙ ap (λ o. cons_option o (filter_map f (filter q ks))) (sym e)
      by None e false t later = later
      by (Some p) e true t later = ap (λ b. cond b (p ∷ rest) rest) (ap q (named k p e) ∙ t) ∙ ap (λ ps. p ∷ ps) later ∙ ap (λ o. cons_option o (filter_map f (filter q ks))) (sym e)
      by (Some p) e false t later = ap (λ b. cond b (p ∷ rest) rest) (ap q (named k p e) ∙ t) ∙ later

  -- lists of them with the same keys are the same
  same_given : (ps qs : List Posting) → keys_of ps ≡ keys_of qs → ((p : Posting) → Contains ps p → IsGiven p) → ((p : Posting) → Contains qs p → IsGiven p) → ps ≡ qs
  same_given [] [] keys first second = refl
  same_given [] (q ∷ qs) keys first second = absurd cc
  same_given (p ∷ ps) [] keys first second = absurd cc
  same_given (p ∷ ps) (q ∷ qs) keys first second =
      λ i. heads i ∷ same_given ps qs rest (λ x later. first x (later_is p ps x later)) (λ x later. second x (later_is q qs x later)) i
    where
      ends : p.key ≡ q.key
      ends = cc

      rest : keys_of ps ≡ keys_of qs
      rest = cc

      heads : p ≡ q
      heads = let both : Some p ≡ Some q = sym (first p (first_is p ps)) ∙ ap f ends ∙ second q (first_is q qs) in cc

  -- what is given at ranked keys is what is left in order of a list that has the same postings
  pub in_order_given : (ks : List DocKey) (xs ps : List Posting) → IsRanked ks → AreInOrder xs ps → ((p : Posting) → Contains xs p → Contains (filter_map f ks) p) → ((p : Posting) → Contains (filter_map f ks) p → Contains xs p) → ps ≡ filter_map f ks
  in_order_given ks xs ps ranked left to from =
      let all = filter_map f ks in
      same_given ps all
      (same_from_keys (keys_of ps) (keys_of all) left.ranked (given_ranked ks ranked)
      (λ k. same_answer (has_key (keys_of ps) k) (has_key (keys_of all) k)
      (keys_covered ps all (λ p there. key_there all p (to p (left.among p there))) k) (keys_covered all ps (λ p there. left.keys p (from p there)) k)))
      (λ p there. all_given ks p (to p (left.among p there))) (all_given ks)
