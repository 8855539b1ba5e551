-- The keys of a prefix term rise by their bytes.
use Rattle.std.proofs.Common.{◌≡◌, ℕ, zero, suc, ◌+◌, Bool, true, false, ◌==◌, ◌&&◌, if◌then◌else◌, All, List, [], ◌∷◌, get_or, Option, None, Some, refl, sym, ◌∙◌, ap, subst, arith}
use Rattle.std.specs.Cmp.{Equal-is}
use Rattle.std.specs.Cmp.Lexicographic.{slice_cmp, nat_list_cmp_total, texts_ties}
use Rattle.std.specs.List.{AllByRecursion, cons_option, filter_map}
use Rattle.std.specs.List.Sorted.{IsSorted, IsStrictlySortedBy}
use Rattle.std.specs.Map.{keys_of}
use Rattle.std.specs.Option.{unwrap_or}
use Rattle.std.specs.Ordering.{eq_by_cmp, is_eq, is_lt, nat_cmp, ordering_then, ordering_reverse}
use Rattle.std.specs.declared.cmp.Ordering.{Ordering}
use Rattle.std.specs.declared.cmp.Ordering.TheVariants.{Less, Equal, Greater}
use Rattle.std.proofs.lemmas.Bool.{eqb-true}
use Rattle.std.proofs.lemmas.Bool.Decides.{nat_tests}
use Rattle.std.proofs.lemmas.List.Elements.{All-nil, All-cons, All-head}
use Rattle.std.proofs.lemmas.List.Kept.{IsStrictlySortedBy-dedup}
use Rattle.std.proofs.lemmas.Map.Keys.{sorted_head, sorted_tail}
use Rattle.uni_base.specs.EdgeOrder.{edge_cmp}
use Rattle.uni_base.specs.Fields.{same}
use Rattle.uni_base.specs.declared.edge.EdgeRef.{EdgeRef}
use Rattle.uni_base.specs.declared.edge.Key.{Key}
use Rattle.uni_base.specs.declared.edge.Key.TheVariants.{Id, Word}
use Rattle.uni_table.specs.declared.command.EdgeRow.{EdgeRow}
use Rattle.uni_meaning.specs.Laws.{PrefixKeysRise}
use Rattle.uni_meaning.specs.Prefixes.{begins_with, word_of}

equal_self : (n : ℕ) → nat_cmp n n ≡ Equal
equal_self n = let self : is_eq (nat_cmp n n) ≡ true = grind (arith, nat_tests) in (Equal-is (nat_cmp n n)).0 self

module _ (number : ℕ) (from : List ℕ) where
  abbrev read : EdgeRef × EdgeRow → Option (List ℕ)
  read e = word_of number from e.0.type_no e.0.key

  -- a word that is read tells the type and the key
  record IsTold (word : List ℕ) (type_no : ℕ) (key : Key) : Type 0 where
    type : type_no ≡ number
    at : key ≡ Word word

  told : (word : List ℕ) (type_no : ℕ) (key : Key) → word_of number from type_no key ≡ Some word → IsTold word type_no key
  told word type_no (Id n) e = cc
  told word type_no (Word text) e = by (number == type_no) refl (begins_with from text) e
    where
      by : (b : Bool) → (number == type_no) ≡ b → (c : Bool) → (if b && c then Some text else None) ≡ Some word → IsTold word type_no (Word text)
      by true p true h =
          let is : text ≡ word = ap (λ o. unwrap_or o word) h in
          record { type = sym (eqb-true number type_no p); at = ap Word is }
      by true p false h = cc
      by false p c h = cc

  -- the words of edges that stand in order do not fall
  abbrev NotBefore : List ℕ → List ℕ → Type 0
  NotBefore u v = is_lt (slice_cmp nat_cmp v u) ≡ false

  not_before : (e d : EdgeRef × EdgeRow) (u v : List ℕ) → read e ≡ Some u → read d ≡ Some v → edge_cmp e.0 d.0 ≡ Less → NotBefore u v
  not_before e d u v f g less = by (slice_cmp nat_cmp u v) refl
    where
      one : IsTold u e.0.type_no e.0.key
      one = told u e.0.type_no e.0.key f

      other : IsTold v d.0.type_no d.0.key
      other = told v d.0.type_no d.0.key g

      edges : edge_cmp e.0 d.0 ≡ ordering_then (slice_cmp nat_cmp u v) (nat_cmp e.0.target d.0.target)
      edges =
          (λ i. edge_cmp (record { type_no = one.type i; key = one.at i; target = e.0.target }) (record { type_no = other.type i; key = other.at i; target = d.0.target }))
          ∙ ap (λ o. ordering_then o (ordering_then (slice_cmp nat_cmp u v) (nat_cmp e.0.target d.0.target))) (equal_self number)

      by : (o : Ordering) → slice_cmp nat_cmp u v ≡ o → NotBefore u v
      by Less h = ap is_lt (nat_list_cmp_total.antisymm v u ∙ ap ordering_reverse h)
      by Equal h = ap is_lt (nat_list_cmp_total.antisymm v u ∙ ap ordering_reverse h)
      by Greater h = let no : Greater ≡ Less = ap (λ o. ordering_then o (nat_cmp e.0.target d.0.target)) (sym h) ∙ sym edges ∙ less in absurd cc

  abbrev words : List (EdgeRef × EdgeRow) → List (List ℕ)
  words es = filter_map read es

  later_not_before : (e : EdgeRef × EdgeRow) (u : List ℕ) → read e ≡ Some u → (es : List (EdgeRef × EdgeRow)) → AllByRecursion (λ y. edge_cmp e.0 y ≡ Less) (keys_of es) → All (NotBefore u) (words es)
  later_not_before e u f [] below = All-nil (NotBefore u)
  later_not_before e u f (d ∷ es) below = by (read d) refl (later_not_before e u f es below.1)
    where
      by : (o : Option (List ℕ)) → read d ≡ o → All (NotBefore u) (words es) → All (NotBefore u) (cons_option o (words es))
      by None g rest = rest
      by (Some v) g rest = All-cons (NotBefore u) v (words es) (not_before e d u v f g below.0) rest

  sorted_cons : (u : List ℕ) (ws : List (List ℕ)) → All (NotBefore u) ws → IsSorted (slice_cmp nat_cmp) ws → IsSorted (slice_cmp nat_cmp) (u ∷ ws)
  sorted_cons u [] all sorted k d le fits = absurd (omega arith)
  sorted_cons u (w ∷ ws) all sorted zero d le fits = All-head (NotBefore u) w ws all
  sorted_cons u (w ∷ ws) all sorted (suc k) d le fits =
      let next : suc (k + 1) ≡ suc k + 1 = omega arith in
      subst (λ (n : ℕ). is_lt (slice_cmp nat_cmp (get_or (u ∷ w ∷ ws) n d) (get_or (w ∷ ws) k d)) ≡ false) next (sorted k d (omega arith) (omega arith))

  sorted_words : (es : List (EdgeRef × EdgeRow)) → IsStrictlySortedBy edge_cmp (keys_of es) → IsSorted (slice_cmp nat_cmp) (words es)
  sorted_words [] sorted = λ k d le fits. absurd (omega arith)
  sorted_words (e ∷ es) sorted = by (read e) refl (sorted_words es (sorted_tail edge_cmp e.0 (keys_of es) sorted))
    where
      by : (o : Option (List ℕ)) → read e ≡ o → IsSorted (slice_cmp nat_cmp) (words es) → IsSorted (slice_cmp nat_cmp) (cons_option o (words es))
      by None f rest = rest
      by (Some u) f rest = sorted_cons u (words es) (later_not_before e u f es (sorted_head edge_cmp e.0 (keys_of es) sorted)) rest

same_ties : (u v : List ℕ) → same u v ≡ eq_by_cmp (slice_cmp nat_cmp) u v
same_ties = texts_ties

pub prefix_keys_rise : PrefixKeysRise
prefix_keys_rise = record {
  rise = λ schema limits table kept number from.
      IsStrictlySortedBy-dedup nat_list_cmp_total same_ties (words number from table.edges) (sorted_words number from table.edges kept.edges);
}
