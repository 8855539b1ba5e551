-- Words that begin alike stand together in the order of their bytes, from the beginning itself on.
use Rattle.std.proofs.Common.{◌≡◌, ℕ, Bool, true, false, not, cond, arith, eqb, ◌==◌, ◌&&◌, List, [], ◌∷◌, refl, sym, ◌∙◌, ap}
use Rattle.std.proofs.lemmas.Bool.{and_parts, eqb-true}
use Rattle.std.proofs.lemmas.Bool.Decides.{nat_tests}
use Rattle.std.specs.List.{starts_with}
use Rattle.std.specs.declared.cmp.Ordering.{Ordering}
use Rattle.std.specs.declared.cmp.Ordering.TheVariants.{Less, Equal, Greater}
use Rattle.std.specs.Ordering.{is_lt, nat_cmp, ordering_then, ordering_reverse}
use Rattle.std.specs.Cmp.{nat_cmp_total, tied_itself}
use Rattle.std.specs.Cmp.Lexicographic.{slice_cmp, nat_list_cmp_total}
use Rattle.std.proofs.lemmas.Map.Lookups.{exact_unsigned, exact_bytes}
use Rattle.layer_stack.specs.Words.{is_word_before, is_word_from}
use Rattle.uni_meaning.specs.Prefixes.{begins_with}

pub begins_is : (from text : List ℕ) → starts_with eqb text from ≡ begins_with from text
begins_is [] text = refl
begins_is (b ∷ bs) [] = refl
begins_is (b ∷ bs) (c ∷ cs) = ap (λ rest. eqb b c && rest) (begins_is bs cs)

equal_bytes : (b c : ℕ) → (b == c) ≡ true → nat_cmp b c ≡ Equal
equal_bytes b c e = ap (nat_cmp b) (sym (eqb-true b c e)) ∙ tied_itself nat_cmp_total b

same_bytes : (b c : ℕ) → nat_cmp b c ≡ Equal → (b == c) ≡ true
same_bytes b c e = ap (λ (n : ℕ). b == n) (sym (exact_unsigned b c e)) ∙ itself b
  where
    itself : (n : ℕ) → (n == n) ≡ true
    itself n = grind (arith, nat_tests)

-- a word that begins so does not come before the beginning
pub begun-not_before : (from word : List ℕ) → begins_with from word ≡ true → is_word_before word from ≡ false
begun-not_before [] [] e = refl
begun-not_before [] (c ∷ word) e = refl
begun-not_before (b ∷ from) [] e = cc
begun-not_before (b ∷ from) (c ∷ word) e =
    let parts = and_parts (b == c) (begins_with from word) e in
    ap (λ o. is_lt (ordering_then o (slice_cmp nat_cmp word from))) (nat_cmp_total.antisymm c b ∙ ap ordering_reverse (equal_bytes b c parts.0)) ∙ begun-not_before from word parts.1

-- what stands between the beginning and a word that begins so begins so
pub begun_between : (from word last : List ℕ) → is_word_before word from ≡ false → is_word_before last word ≡ false → begins_with from last ≡ true → begins_with from word ≡ true
begun_between [] word last p q e = refl
begun_between (b ∷ from) [] last p q e = cc
begun_between (b ∷ from) (c ∷ word) [] p q e = cc
begun_between (b ∷ from) (c ∷ word) (d ∷ last) p q e = by (nat_cmp c b) refl (begun_between from word last)
  where
    parts : ((b == d) ≡ true) × (begins_with from last ≡ true)
    parts = and_parts (b == d) (begins_with from last) e

    as_last : nat_cmp d c ≡ nat_cmp b c
    as_last = ap (λ n. nat_cmp n c) (sym (eqb-true b d parts.0))

    by : (o : Ordering) → nat_cmp c b ≡ o → (is_word_before word from ≡ false → is_word_before last word ≡ false → begins_with from last ≡ true → begins_with from word ≡ true) → ((b == c) && begins_with from word) ≡ true
    by Less f rest = let no : true ≡ false = ap (λ r. is_lt (ordering_then r (slice_cmp nat_cmp word from))) (sym f) ∙ p in absurd cc
    by Equal f rest =
        let turned : nat_cmp b c ≡ Equal = nat_cmp_total.antisymm b c ∙ ap ordering_reverse f in
        let begins = rest (ap (λ r. is_lt (ordering_then r (slice_cmp nat_cmp word from))) (sym f) ∙ p) (ap (λ r. is_lt (ordering_then r (slice_cmp nat_cmp last word))) (sym (as_last ∙ turned)) ∙ q) parts.1 in
        (λ i. same_bytes b c turned i && begins i)
    by Greater f rest =
        let turned : nat_cmp b c ≡ Less = nat_cmp_total.antisymm b c ∙ ap ordering_reverse f in
        let no : true ≡ false = ap (λ r. is_lt (ordering_then r (slice_cmp nat_cmp last word))) (sym (as_last ∙ turned)) ∙ q in absurd cc

-- a word from a place on that does not come before the beginning does not either
pub still_from : (strict : Bool) (from at word : List ℕ) → is_word_before at from ≡ false → is_word_from strict at word ≡ true → is_word_before word from ≡ false
still_from strict from at word before passes = by (slice_cmp nat_cmp word from) refl
  where
    turned : slice_cmp nat_cmp at word ≡ ordering_reverse (slice_cmp nat_cmp word at)
    turned = nat_list_cmp_total.antisymm at word

    at_or_after : (s : Bool) → cond s (is_word_before at word) (not (is_word_before word at)) ≡ true → (o : Ordering) → slice_cmp nat_cmp word at ≡ o → slice_cmp nat_cmp word from ≡ Less → slice_cmp nat_cmp at from ≡ Less
    at_or_after true p Less e less = let no : false ≡ true = ap is_lt (sym (turned ∙ ap ordering_reverse e)) ∙ p in absurd cc
    at_or_after false p Less e less = let no : false ≡ true = ap (λ r. not (is_lt r)) (sym e) ∙ p in absurd cc
    at_or_after s p Equal e less = ap (λ (w : List ℕ). slice_cmp nat_cmp w from) (sym (exact_bytes word at e)) ∙ less
    at_or_after s p Greater e less = nat_list_cmp_total.trans at word from (turned ∙ ap ordering_reverse e) less

    by : (o : Ordering) → slice_cmp nat_cmp word from ≡ o → is_lt o ≡ false
    by Less e = ap is_lt (sym (at_or_after strict passes (slice_cmp nat_cmp word at) refl e)) ∙ before
    by Equal e = refl
    by Greater e = refl

-- where the least word from a place on does not begin so, no word from there on that does has something
pub none_begins : (has : List ℕ → Bool) (strict : Bool) (from at word : List ℕ) → is_word_before at from ≡ false → begins_with from word ≡ false → is_word_from strict at word ≡ true
    → ((other : List ℕ) → has other ≡ true → is_word_from strict at other ≡ true → is_word_before other word ≡ false)
    → (other : List ℕ) → (begins_with from other && has other) ≡ true → is_word_from strict at other ≡ false
none_begins has strict from at word before other_word passes least other e = by (is_word_from strict at other) refl
  where
    parts : (begins_with from other ≡ true) × (has other ≡ true)
    parts = and_parts (begins_with from other) (has other) e

    by : (b : Bool) → is_word_from strict at other ≡ b → b ≡ false
    by true f = let no : true ≡ false = sym (begun_between from word other (still_from strict from at word before passes) (least other parts.1 f) parts.0) ∙ other_word in absurd cc
    by false f = refl
