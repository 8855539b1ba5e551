-- The answers of a feeder among those of a round: each is taken at its line.
use Rattle.std.proofs.Common.{◌≡◌, ◌+◌, ◌<◌, ◌≤◌, ℕ, Bool, true, false, List, [], ◌∷◌, ◌++◌, Option, None, Some, map, if◌then◌else◌, nat_lt, refl, ap, arith}
use Rattle.std.specs.Option.{option_map_or}
use Rattle.std.specs.Prelude.{⊤}
use Rattle.std.proofs.lemmas.Bool.Decides.{nat_tests}
use Rattle.uni_table.specs.declared.refusal.FeedRefusal.{FeedRefusal}
use Rattle.uni_table.specs.Commands.{refuses}
use Rattle.uni_table.specs.Refusals.{code_of}
use Rattle.reply_text.specs.declared.answer.Answer.{Answer}
use Rattle.reply_text.specs.declared.answer.Answer.TheVariants.{Published, Refused, Memory}
use Rattle.script_rounds.specs.declared.item.Item.{Item}
use Rattle.script_rounds.specs.declared.item.Item.TheVariants.{Change, Publish}
use Rattle.script_rounds.specs.Entries.{Entry, change, publish, line_of}
use Rattle.script_rounds.specs.RoundReads.{Rise, item_line}
use Rattle.script_rounds.specs.Terms.{Terms}
use Rattle.round_feed.specs.Fed.{fed_answers, feed_entries}
use Rattle.round_feed.specs.Feeds.{Feed, made, fed_one, refusal_answers, too_many_publishes}
use Rattle.round_feed.specs.Steps.{given}
use Rattle.unicorn_round.specs.Weaving.{is_of, own, others, feed_items}
use Rattle.unicorn_round.proofs.AskedPlaces.{same_number-true}

-- nothing, or one answer, which is that of a line
abbrev pub IsOwn : ℕ → List Answer → Type 0
IsOwn line [] = ⊤
IsOwn line (one ∷ []) = is_of line one ≡ true
IsOwn line (one ∷ two ∷ more) = ⊥

-- the first answer, if there is one, is not that of a line
abbrev pub Passes : ℕ → List Answer → Type 0
Passes line [] = ⊤
Passes line (first ∷ rest) = is_of line first ≡ false

-- entries are of lines after one
abbrev pub AreAfter : ℕ → List Entry → Type 0
AreAfter line [] = ⊤
AreAfter line (entry ∷ entries) = (line < line_of entry) × AreAfter line entries

-- the answer of a line is taken, and no other
pub own_is : (line : ℕ) (answers rest : List Answer) → IsOwn line answers → Passes line rest → own line (answers ++ rest) ≡ answers
own_is line [] [] is passes = refl
own_is line [] (first ∷ rest) is passes = ap (λ b. if b then first ∷ [] else []) passes
own_is line (one ∷ []) rest is passes = ap (λ b. if b then one ∷ [] else []) is
own_is line (one ∷ two ∷ more) rest is passes = absurd is

pub others_are : (line : ℕ) (answers rest : List Answer) → IsOwn line answers → Passes line rest → others line (answers ++ rest) ≡ rest
others_are line [] [] is passes = refl
others_are line [] (first ∷ rest) is passes = ap (λ b. if b then rest else first ∷ rest) passes
others_are line (one ∷ []) rest is passes = ap (λ b. if b then rest else one ∷ rest) is
others_are line (one ∷ two ∷ more) rest is passes = absurd is

-- an answer of a line is not that of one before it
earlier_passes : (line later : ℕ) (answer : Answer) → line < later → is_of later answer ≡ true → is_of line answer ≡ false
earlier_passes line later (Published n number) less is = grind (arith, nat_tests)
earlier_passes line later (Refused n code) less is = grind (arith, nat_tests)
earlier_passes line later (Memory n) less is = grind (arith, nat_tests)
earlier_passes line later other less is = refl

passes_more : (line later : ℕ) (answers rest : List Answer) → line < later → IsOwn later answers → Passes line rest → Passes line (answers ++ rest)
passes_more line later [] rest less is passes = passes
passes_more line later (one ∷ []) rest less is passes = earlier_passes line later one less is
passes_more line later (one ∷ two ∷ more) rest less is passes = absurd is

-- an entry of the feed has no answer but its own
refusal_own : (line : ℕ) (refusal : Option FeedRefusal) → IsOwn line (refusal_answers line refusal)
refusal_own line None = tt
refusal_own line (Some refusal) = by (code_of refusal)
  where
    by : (code : Option ℕ) → IsOwn line (option_map_or (λ c. Refused line c ∷ []) code (Memory line ∷ []))
    by None = same_number-true line line refl
    by (Some code) = same_number-true line line refl

pub fed_own : (terms : Terms) (feed : Feed) (entry : Entry) (lack : Bool) → IsOwn (line_of entry) (fed_answers terms feed entry lack)
fed_own terms feed entry true = same_number-true (line_of entry) (line_of entry) refl
fed_own terms feed (change line command) false = refusal_own line (refuses terms.schema terms.limits feed.table command)
fed_own terms feed (publish line) false = by (nat_lt (made feed) terms.limits.publishes)
  where
    by : (b : Bool) → IsOwn line (if b then Published line (made feed + 1) ∷ [] else Refused line too_many_publishes ∷ [])
    by true = same_number-true line line refl
    by false = same_number-true line line refl
fed_own terms feed entry false = tt

-- those of later entries pass over a line
pub given_passes : (terms : Terms) (line : ℕ) (feed : Feed) (entries : List Entry) (lacks : List Bool) → AreAfter line entries
    → Passes line (given (fed_one terms) (fed_answers terms) feed entries lacks)
given_passes terms line feed [] lacks all = tt
given_passes terms line feed (entry ∷ entries) [] all = tt
given_passes terms line feed (entry ∷ entries) (lack ∷ lacks) all =
    let next = fed_one terms feed entry lack in
    passes_more line (line_of entry) (fed_answers terms feed entry lack) (given (fed_one terms) (fed_answers terms) next entries lacks) all.0
    (fed_own terms feed entry lack) (given_passes terms line next entries lacks all.1)

-- the lines of a round rise
pub rise_after : (line from to : ℕ) (items : List Item) → line ≤ from → Rise from to (map item_line items) → AreAfter line (feed_entries (feed_items items))
rise_after line from to [] less rise = tt
rise_after line from to (Change n command ∷ items) less rise = (omega (arith, less, rise.0), rise_after line n to items (omega (arith, less, rise.0)) rise.1)
rise_after line from to (Publish n ∷ items) less rise = (omega (arith, less, rise.0), rise_after line n to items (omega (arith, less, rise.0)) rise.1)
rise_after line from to (item ∷ items) less rise = rise_after line (item_line item) to items (omega (arith, less, rise.0)) rise.1
