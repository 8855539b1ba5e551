-- Writing a text, part by part.
use Rattle.std.proofs.Common.{◌≡◌, ℕ, ◌+◌, ◌≤◌, ◌-◌, List, ◌++◌, length, take, drop, Option, None, Some, sym, ◌∙◌, ap, subst, refl, arith, append-nil}
use Rattle.std.proofs.Math.Seq.{take-add}
use Rattle.std.proofs.lemmas.List.{append_assoc, take_all, length-drop}
use Rattle.uni_base.specs.Streams.{Takes}
use Rattle.unicorn_round.specs.Writing.{Took}

-- nothing so far
pub took_nothing : (before : Option (List ℕ)) (text : List ℕ) → Took before (take 0 text) before
took_nothing None text = refl
took_nothing (Some taken) text = ap Some (sym (append-nil taken))

pub took_more : (before middle after : Option (List ℕ)) (text : List ℕ) (count n : ℕ) → Took before (take count text) middle → Takes middle after n (drop count text)
    → Took before (take (count + n) text) after
took_more None middle after text count n t h = subst (λ m. Takes m after n (drop count text)) t h
took_more (Some taken) middle after text count n t h =
    let there : Takes (Some (taken ++ take count text)) after n (drop count text) = subst (λ m. Takes m after n (drop count text)) t h in
    there ∙ ap Some (append_assoc taken (take count text) (take n (drop count text)) ∙ ap (λ xs. taken ++ xs) (sym (take-add count n text)))

pub took_all : (before after : Option (List ℕ)) (text : List ℕ) (count : ℕ) → length text ≤ count → Took before (take count text) after → Took before text after
took_all before after text count whole t = subst (λ xs. Took before xs after) (take_all count text whole) t

-- what is offered is the rest of the text
pub offered : (text : List ℕ) (count : ℕ) → take (length text - count) (drop count text) ≡ drop count text
offered text count = take_all (length text - count) (drop count text) (omega (arith, length-drop count text))

pub took_offered : (before middle after : Option (List ℕ)) (text : List ℕ) (count n : ℕ) → Took before (take count text) middle
    → Takes middle after n (take (length text - count) (drop count text)) → Took before (take (count + n) text) after
took_offered before middle after text count n t h = took_more before middle after text count n t (subst (Takes middle after n) (offered text count) h)

pub within_offered : (text : List ℕ) (count n : ℕ) → count ≤ length text → n ≤ length (take (length text - count) (drop count text)) → count + n ≤ length text
within_offered text count n c h = omega (arith, ap (length {A = ℕ}) (offered text count), length-drop count text)
