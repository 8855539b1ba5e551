-- The mark of a line, read off what it was answered.
use Rattle.std.proofs.Common.{◌≡◌, ◌≤◌, ℕ, Bool, true, false, List, [], ◌∷◌, length, take, drop, if◌then◌else◌, refl, ap, subst, arith}
use Rattle.query_check.specs.Plan.{stated_of}
use Rattle.query_check.specs.declared.checked.Checked.{Checked}
use Rattle.uni_schema.specs.Schema.{Declarations}
use Rattle.uni_table.specs.declared.command.Command.{Command}
use Rattle.reply_text.specs.declared.answer.Answer.{Answer}
use Rattle.reply_text.specs.declared.answer.Answer.TheVariants.{Reply, Compacted, Memory}
use Rattle.script_rounds.specs.declared.item.Item.{Item}
use Rattle.script_rounds.specs.declared.item.Item.TheVariants.{Compact}
use Rattle.script_rounds.specs.Entries.{Entry, ask, compact}
use Rattle.script_rounds.specs.Terms.{Terms}
use Rattle.session_asks.specs.declared.asks.AskLine.{AskLine}
use Rattle.session_asks.specs.Replies.{AreReplied}
use Rattle.round_feed.specs.Compacted.{AreCompacted}
use Rattle.round_feed.specs.Feeds.{Feed}
use Rattle.unicorn_round.specs.declared.stacks.StackCover.{StackCover}
use Rattle.unicorn_round.specs.Answers.{Standing, covers_after, entry_answers, replies}
use Rattle.unicorn_round.specs.Legal.{AreWithin, Between}
use Rattle.unicorn_round.specs.Marks.{Mark, plain, lacking, at}
use Rattle.unicorn_round.specs.Records.{IsNumberOrLacking, IsPlainOrLacking}
use Rattle.unicorn_round.specs.Weaving.{compacted_covers}
use Rattle.unicorn_round.proofs.Numbers.{counted, either_way}
use Rattle.unicorn_round.proofs.PlainLegal.{between_lower}

-- a line of the feed, for which memory was wanting or not
abbrev pub feed_mark : Bool → Mark
feed_mark true = lacking
feed_mark false = plain

pub feed_mark-none : (lack : Bool) → IsPlainOrLacking (feed_mark lack)
feed_mark-none true = tt
feed_mark-none false = tt

-- a line that the first of some answers is for
abbrev pub first_mark : List Answer → Mark
first_mark (Reply line reply ∷ answers) = at reply.publishes
first_mark (Compacted line number ∷ answers) = at number
first_mark answers = lacking

pub first_mark-some : (answers : List Answer) → IsNumberOrLacking (first_mark answers)
first_mark-some (Reply line reply ∷ answers) = tt
first_mark-some (Compacted line number ∷ answers) = tt
first_mark-some answers = tt

-- a number of a list that does not fall, from where the others follow
counts : (low high number : ℕ) (numbers : List ℕ) (b : Bool) → low ≤ number → Between number high numbers → Between low high (if b then number ∷ numbers else numbers)
counts low high number numbers true less between = (less, between)
counts low high number numbers false less between = between_lower low number high numbers less between

-- ---- the answers of asks

module _ (schema : Declarations) (journal : List (List Command)) where
  -- also from a lower number
  pub replied_lower : (lower low : ℕ) (asks : List AskLine) (answers : List Answer) → lower ≤ low → AreReplied schema journal low asks answers → AreReplied schema journal lower asks answers
  replied_lower lower low [] [] less all = tt
  replied_lower lower low (one ∷ asks) (Reply line reply ∷ answers) less all = (omega (arith, less, all.0), all.1, all.2, all.3)
  replied_lower lower low (one ∷ asks) (Memory line ∷ answers) less all = (all.0, replied_lower lower low asks answers less all.1)
  replied_lower lower low asks answers less all = absurd all

  -- of the others
  pub replied_rest : (low : ℕ) (one : AskLine) (asks : List AskLine) (answers : List Answer) → AreReplied schema journal low (one ∷ asks) answers
      → AreReplied schema journal low asks (drop 1 answers)
  replied_rest low one asks [] all = absurd all
  replied_rest low one asks (Reply line reply ∷ answers) all = replied_lower low reply.publishes asks answers all.0 all.3
  replied_rest low one asks (Memory line ∷ answers) all = all.1
  replied_rest low one asks answers all = absurd all

  -- the first of them has a number within the bounds
  pub replied_within : (low : ℕ) (one : AskLine) (asks : List AskLine) (answers : List Answer) (marks : List Mark) → AreReplied schema journal low (one ∷ asks) answers
      → AreWithin low (length journal) marks → AreWithin low (length journal) (first_mark answers ∷ marks)
  replied_within low one asks [] marks all within = absurd all
  replied_within low one asks (Reply line reply ∷ answers) marks all within = (all.0, all.1, within)
  replied_within low one asks (Memory line ∷ answers) marks all within = within
  replied_within low one asks answers marks all within = absurd all

  -- and the numbers of the others follow it
  pub replied_between : (low : ℕ) (one : AskLine) (asks : List AskLine) (answers : List Answer) (numbers : List ℕ)
      → ((middle : ℕ) → middle ≤ length journal → AreReplied schema journal middle asks (drop 1 answers) → Between middle (length journal) numbers)
      → low ≤ length journal → AreReplied schema journal low (one ∷ asks) answers → Between low (length journal) (counted (first_mark answers) numbers)
  replied_between low one asks [] numbers follow below all = absurd all
  replied_between low one asks (Reply line reply ∷ answers) numbers follow below all = (all.0, follow reply.publishes all.1 all.3)
  replied_between low one asks (Memory line ∷ answers) numbers follow below all = follow low below all.1
  replied_between low one asks answers numbers follow below all = absurd all

-- the first answer is that of the entry
pub reply_is : (terms : Terms) (end : Standing) (feed : Feed) (low line session viewer limit : ℕ) (query : Checked) (asks : List AskLine) (answers : List Answer)
    → AreReplied terms.schema end.feed.journal low (record { line = line; viewer = viewer; limit = limit; query = query } ∷ asks) answers
    → take 1 answers ≡ entry_answers terms (replies terms.schema) end feed (ask line session viewer limit (stated_of query).plan) (first_mark answers)
reply_is terms end feed low line session viewer limit query asks [] all = absurd all
reply_is terms end feed low line session viewer limit query asks (Reply n reply ∷ answers) all = ap (λ answer. answer ∷ []) all.2
reply_is terms end feed low line session viewer limit query asks (Memory n ∷ answers) all = ap (λ n. Memory n ∷ []) all.0
reply_is terms end feed low line session viewer limit query asks answers all = absurd all

-- ---- the answers of compactions

-- also from a lower number
pub compacted_lower : (lower low high : ℕ) (entries : List Entry) (answers : List Answer) → lower ≤ low → AreCompacted low high entries answers → AreCompacted lower high entries answers
compacted_lower lower low high [] [] less all = tt
compacted_lower lower low high (entry ∷ entries) (Compacted line number ∷ answers) less all = (all.0, omega (arith, less, all.1), all.2, all.3)
compacted_lower lower low high (entry ∷ entries) (Memory line ∷ answers) less all = (all.0, compacted_lower lower low high entries answers less all.1)
compacted_lower lower low high entries answers less all = absurd all

-- of the others
pub compacted_rest : (low high : ℕ) (entry : Entry) (entries : List Entry) (answers : List Answer) → AreCompacted low high (entry ∷ entries) answers
    → AreCompacted low high entries (drop 1 answers)
compacted_rest low high entry entries [] all = absurd all
compacted_rest low high entry entries (Compacted line number ∷ answers) all = compacted_lower low number high entries answers all.1 all.3
compacted_rest low high entry entries (Memory line ∷ answers) all = all.1
compacted_rest low high entry entries answers all = absurd all

-- the first of them has a number within the bounds
pub compacted_within : (low high : ℕ) (entry : Entry) (entries : List Entry) (answers : List Answer) (marks : List Mark) → AreCompacted low high (entry ∷ entries) answers
    → AreWithin low high marks → AreWithin low high (first_mark answers ∷ marks)
compacted_within low high entry entries [] marks all within = absurd all
compacted_within low high entry entries (Compacted line number ∷ answers) marks all within = (all.1, all.2, within)
compacted_within low high entry entries (Memory line ∷ answers) marks all within = within
compacted_within low high entry entries answers marks all within = absurd all

-- and the numbers of the others follow it, also where it is not counted itself
pub compacted_between : (low high : ℕ) (entry : Entry) (entries : List Entry) (answers : List Answer) (numbers : List ℕ) (b : Bool)
    → ((middle : ℕ) → middle ≤ high → AreCompacted middle high entries (drop 1 answers) → Between middle high numbers)
    → low ≤ high → AreCompacted low high (entry ∷ entries) answers → Between low high (if b then counted (first_mark answers) numbers else numbers)
compacted_between low high entry entries [] numbers b follow below all = absurd all
compacted_between low high entry entries (Compacted line number ∷ answers) numbers b follow below all = counts low high number numbers b all.1 (follow number all.2 all.3)
compacted_between low high entry entries (Memory line ∷ answers) numbers b follow below all = subst (Between low high) (either_way b numbers) (follow low below all.1)
compacted_between low high entry entries answers numbers b follow below all = absurd all

-- the first answer is that of the entry
pub compacted_is : (terms : Terms) (end : Standing) (feed : Feed) (low high line vertical shard replica : ℕ) (entries : List Entry) (answers : List Answer)
    → AreCompacted low high (compact line vertical shard replica ∷ entries) answers
    → take 1 answers ≡ entry_answers terms (replies terms.schema) end feed (compact line vertical shard replica) (first_mark answers)
compacted_is terms end feed low high line vertical shard replica entries [] all = absurd all
compacted_is terms end feed low high line vertical shard replica entries (Compacted n number ∷ answers) all = ap (λ n. Compacted n number ∷ []) all.0
compacted_is terms end feed low high line vertical shard replica entries (Memory n ∷ answers) all = ap (λ n. Memory n ∷ []) all.0
compacted_is terms end feed low high line vertical shard replica entries answers all = absurd all

-- and the stack covers what it says
pub compacted_covers-more : (low high line vertical shard replica : ℕ) (covers : List StackCover) (items : List Item) (entries : List Entry) (answers : List Answer)
    → AreCompacted low high (compact line vertical shard replica ∷ entries) answers
    → compacted_covers covers (Compact line vertical shard replica ∷ items) answers
    ≡ compacted_covers (covers_after covers (compact line vertical shard replica) (first_mark answers)) items (drop 1 answers)
compacted_covers-more low high line vertical shard replica covers items entries [] all = absurd all
compacted_covers-more low high line vertical shard replica covers items entries (Compacted n number ∷ answers) all = refl
compacted_covers-more low high line vertical shard replica covers items entries (Memory n ∷ answers) all = refl
compacted_covers-more low high line vertical shard replica covers items entries answers all = absurd all
