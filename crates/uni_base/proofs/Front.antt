-- The bytes at the front of a text that pass a test.
use Rattle.std.proofs.Common.{◌≡◌, ◌≤◌, ◌<◌, ◌+◌, ◌-◌, ◌∙◌, ◌&&◌, ℕ, Bool, true, false, List, [], ◌∷◌, length, suc, get_or, take, drop, replicate, cond, refl, sym, ap, subst, arith, true≢false, inl, inr}
use Rattle.std.proofs.Math.Seq.{drop-append_seam, take-append_seam}
use Rattle.std.proofs.lemmas.Bool.{cases_lt, le-leb}
use Rattle.std.proofs.lemmas.List.{length-append, length-replicate, length-take-le}
use Rattle.std.proofs.lemmas.List.Sums.{prefix_len-le-length, prefix_len_passes, prefix_len_stops}
use Rattle.std.specs.List.{list_all, prefix_len}
use Rattle.uni_base.specs.Padding.{IsPadded, padded}
use Rattle.uni_base.specs.Words.{is_word, is_word_byte}

-- one more byte passes
pub one_more : (p : ℕ → Bool) (text : List ℕ) (i : ℕ) → i < length text → i ≤ prefix_len p text → p (get_or text i 0) ≡ true → i + 1 ≤ prefix_len p text
one_more p text i here so_far passes =
    elim (cases_lt i (prefix_len p text)) [
      | inl more ↦ omega (arith, more)
      | inr all ↦
          let same : i ≡ prefix_len p text = omega (arith, all, so_far) in
          let stopped = prefix_len_stops p text 0 (omega (arith, here, all)) in
          absurd (true≢false (sym passes ∙ subst (λ k. p (get_or text k 0) ≡ false) (sym same) stopped))
    ]

-- and where one does not, the front ends
pub ends_here : (p : ℕ → Bool) (text : List ℕ) (i : ℕ) → i ≤ prefix_len p text → p (get_or text i 0) ≡ false → i ≡ prefix_len p text
ends_here p text i so_far fails =
    elim (cases_lt i (prefix_len p text)) [
      | inl more ↦ absurd (true≢false (sym (prefix_len_passes p text i 0 more) ∙ fails))
      | inr all ↦ omega (arith, all, so_far)
    ]

-- all of it passes
pub all_pass : (p : ℕ → Bool) (text : List ℕ) → length text ≤ prefix_len p text → length text ≡ prefix_len p text
all_pass p text all = omega (arith, all, prefix_len-le-length p text)

-- every byte of the front passes
pub front_passes : (p : ℕ → Bool) (text : List ℕ) → list_all p (take (prefix_len p text) text) ≡ true
front_passes p [] = refl
front_passes p (c ∷ cs) = over (front_passes p cs) (p c) refl
  where
    over : list_all p (take (prefix_len p cs) cs) ≡ true → (b : Bool) → p c ≡ b → list_all p (take (cond b (1 + prefix_len p cs) 0) (c ∷ cs)) ≡ true
    over rest true passes =
        let more : 1 + prefix_len p cs ≡ suc (prefix_len p cs) = omega arith in
        subst (λ n. list_all p (take n (c ∷ cs)) ≡ true) (sym more) (subst (λ b. (b && list_all p (take (prefix_len p cs) cs)) ≡ true) (sym passes) rest)
    over rest false fails = refl

-- a front of 1 to 32 bytes of words is a word
pub word_of_front : (text : List ℕ) (len : ℕ) → len ≡ prefix_len is_word_byte text → (len ≡ 0 → ⊥) → len ≤ 32 → is_word (take len text) ≡ true
word_of_front text len front some few =
    let within : len ≤ length text = omega (arith, front, prefix_len-le-length is_word_byte text) in
    let whole = length-take-le len text within in
    let all = subst (λ k. list_all is_word_byte (take k text) ≡ true) (sym front) (front_passes is_word_byte text) in
    rw (whole, le-leb 1 len (omega (arith, some)), le-leb len 32 few, all) refl

-- a word, followed by zeros, is padded
pub padded_word : (text : List ℕ) (len : ℕ) → length text ≡ len → is_word text ≡ true → len ≤ 32 → IsPadded len (padded text)
padded_word text len whole word few = record {
  whole = length-append text (replicate (32 - length text) 0) ∙ omega (arith, whole, few, length-replicate {A = ℕ} (32 - length text) 0);
  small = few;
  zeros = subst (λ n. drop n (padded text) ≡ replicate (32 - n) 0) whole (drop-append_seam text (replicate (32 - length text) 0));
  word = subst (λ n. is_word (take n (padded text)) ≡ true) whole (ap is_word (take-append_seam text (replicate (32 - length text) 0)) ∙ word);
}
