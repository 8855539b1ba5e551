-- The answers that are left, one taken.
use Rattle.std.proofs.Common.{◌≡◌, ◌<◌, ◌==◌, ◌≢◌, ℕ, Bool, true, false, List, [], ◌++◌, length, map, get_or, set, drop, if◌then◌else◌, refl, sym, ap, ◌∙◌, arith, append_assoc}
use Rattle.std.proofs.lemmas.Bool.Decides.{nat_tests}
use Rattle.std.proofs.lemmas.List.{get_or-map, get_or-set_other, length-map, map-set}
use Rattle.std.proofs.lemmas.Grind.{get_or-set_at}
use Rattle.reply_text.specs.declared.answer.Answer.{Answer}
use Rattle.unicorn_round.specs.Queues.{answers_at}
use Rattle.unicorn_round.specs.Weaving.{popped}

-- where the list at a place has lost its first answer, all others are as they were
popped_at : (lists news : List (List Answer)) (place other : ℕ) → place < length lists → news ≡ set lists place (drop 1 (answers_at lists place)) → answers_at news other ≡ popped place (answers_at lists) other
popped_at lists news place other below is = ap (λ ls. answers_at ls other) is ∙ by (other == place) refl
  where
    same : (b : Bool) → (other == place) ≡ b → b ≡ true → other ≡ place
    same b told is = grind (arith, nat_tests)

    apart : (b : Bool) → (other == place) ≡ b → b ≡ false → other ≢ place
    apart b told is = grind (arith, nat_tests)

    by : (b : Bool) → (other == place) ≡ b → get_or (set lists place (drop 1 (get_or lists place []))) other [] ≡ (if b then drop 1 (get_or lists other []) else get_or lists other [])
    by true told =
        let equal = same true told refl in
        get_or-set_at lists place other (drop 1 (get_or lists place [])) [] equal below ∙ ap (λ n. drop 1 (get_or lists n [])) (sym equal)
    by false told = get_or-set_other lists place other (drop 1 (get_or lists place [])) [] (apart false told refl)

-- the same of queues
pub popped_queue : {Q : Type 0} (items : Q → List Answer) (queues : List Q) (place other : ℕ) (queue left : Q) → place < length queues → queue ≡ get_or queues place queue → items left ≡ drop 1 (items queue)
    → answers_at (map items (set queues place left)) other ≡ popped place (answers_at (map items queues)) other
popped_queue items queues place other queue left below is rest =
    popped_at (map items queues) (map items (set queues place left)) place other (omega (arith, below, length-map queues items))
    (map-set items queues place left ∙ ap (λ l. set (map items queues) place l) (rest ∙ ap (λ q. drop 1 (items q)) is ∙ ap (drop 1) (sym (get_or-map items queues place queue [] below))))

-- answers with some more, and with those that are left
pub answers_more : (told out more xs ys : List Answer) → out ≡ told ++ more → more ++ xs ≡ ys → out ++ xs ≡ told ++ ys
answers_more told out more xs ys added left = ap (λ t. t ++ xs) added ∙ append_assoc told more xs ∙ ap (λ t. told ++ t) left
