-- the word and the numbers so far, and the rest of them
use Rattle.std.proofs.Common.{◌≡◌, ◌++◌, ◌∷◌, drop}
use Rattle.std.specs.Fmt.{decimal}
use Rattle.std.specs.List.{flat_map}
use Rattle.reply_text.proofs.field.add_numbers.Given as goal

abbrev pub invariant-loop-number : goal.invariant-loop-number
invariant-loop-number l = l.text ++ flat_map (λ n. 32 ∷ decimal n) (drop l.number-index l.numbers) ≡ l.fn.text ++ (l.word ++ flat_map (λ n. 32 ∷ decimal n) l.numbers)
