-- What a script's answers come to.
use Rattle.std.specs.Prelude.{ℕ, Bool, true, false, ◌≡◌, ◌⊎◌, ◌+◌, List, [], ◌∷◌, ◌++◌, length, map, sum_by, codes}
use Rattle.std.specs.Fmt.{decimal}
use Rattle.std.specs.List.{AllByRecursion, list_any}
use Rattle.uni_base.specs.StandardLimits.{standard_limits}
use Rattle.uni_meaning.specs.declared.reply.Hit.{Hit}
use Rattle.reply_text.specs.declared.answer.Answer.{Answer}
use Rattle.reply_text.specs.declared.answer.Answer.TheVariants as answer
use Rattle.script_rounds.specs.Entries.{Entry, publish, ask}
use Rattle.script_rounds.specs.Rounds.{Script, opened, unopened, script_of}
use Rattle.script_rounds.specs.Terms.{Terms, under}
use Rattle.bench_script.specs.BenchScript.{bench_text}
use Rattle.unicorn_round.specs.Answers.{answers}
use Rattle.unicorn_round.specs.declared.counts.Counts.{Counts}
use Rattle.unicorn_round.specs.Legal.{Legal}
use Rattle.unicorn_round.specs.Marks.{Record, RoundRecord, lacks}
use Rattle.unicorn_round.specs.Plain.{Lacks, plain_record}
use Rattle.unicorn_round.specs.Records.{IsRecord}

-- ---- counts

abbrev pub no_counts : Counts
no_counts = record { publishes = 0; asks = 0; hits = 0; ids = 0 }

abbrev pub plus : Counts → Counts → Counts
plus a b = record { publishes = a.publishes + b.publishes; asks = a.asks + b.asks; hits = a.hits + b.hits; ids = a.ids + b.ids }

-- what one answer adds to each
abbrev pub publishes_told : Answer → ℕ
publishes_told (answer.Published line number) = 1
publishes_told other = 0

abbrev pub asks_told : Answer → ℕ
asks_told (answer.Reply line reply) = 1
asks_told other = 0

abbrev pub hits_told : Answer → ℕ
hits_told (answer.Reply line reply) = length reply.hits
hits_told other = 0

abbrev pub ids_of : List Hit → ℕ
ids_of hits = sum_by (λ (hit : Hit). hit.key.id) hits

abbrev pub ids_told : Answer → ℕ
ids_told (answer.Reply line reply) = ids_of reply.hits
ids_told other = 0

-- what answers come to
abbrev pub counts_of : List Answer → Counts
counts_of answers = record {
  publishes = sum_by publishes_told answers;
  asks = sum_by asks_told answers;
  hits = sum_by hits_told answers;
  ids = sum_by ids_told answers;
}

-- a count after a label
abbrev pub labelled : List ℕ → ℕ → List ℕ
labelled label count = label ++ decimal count

-- `bench people N publishes N asks N hits N sum N`, with its LF
abbrev pub summary_line : ℕ → Counts → List ℕ
summary_line people counts =
    labelled (codes "bench people ") people
    ++ (labelled (codes " publishes ") counts.publishes
    ++ (labelled (codes " asks ") counts.asks
    ++ (labelled (codes " hits ") counts.hits
    ++ (labelled (codes " sum ") counts.ids ++ 10 ∷ []))))

-- ---- the counts of a script

-- memory was wanting for no line
abbrev pub nothing_lacks : List (List Entry) → List Lacks
nothing_lacks rounds = map (λ entries. map (λ entry. false) entries) rounds

-- what the rounds of a script come to, answered line by line
abbrev pub script_counts : Terms → List (List Entry) → Counts
script_counts terms rounds = counts_of (answers terms rounds (plain_record terms rounds (nothing_lacks rounds)))

abbrev pub counts_of_script : Script → Counts
counts_of_script (opened schema rounds) = script_counts (under standard_limits schema) rounds
counts_of_script (unopened refusal) = no_counts

-- Summary: the line that `bench` writes, of the script that is made from a seed and so many people
abbrev pub summary : ℕ → ℕ → List ℕ
summary seed people = summary_line people (counts_of_script (script_of standard_limits (bench_text seed people)))

-- ---- the law that other records come to the same

abbrev pub is_publish : Entry → Bool
is_publish (publish line) = true
is_publish entry = false

abbrev pub is_ask : Entry → Bool
is_ask (ask line session viewer limit query) = true
is_ask entry = false

-- a round does not both publish and ask
abbrev pub IsApart : List Entry → Type 0
IsApart entries = (list_any is_publish entries ≡ false) ⊎ (list_any is_ask entries ≡ false)

-- memory was wanting for no line of a record
abbrev pub HasAll : RoundRecord → Type 0
HasAll told = list_any lacks told.marks ≡ false

-- Where no round both publishes and asks, every legal record for which memory was wanting nowhere comes to the same
-- as answering line by line.
pub record CountsAgree : Type 0 where
  pub same :
      (terms : Terms) → (rounds : List (List Entry)) → (told : Record) → IsRecord terms rounds told → Legal terms rounds told
      → AllByRecursion HasAll told → AllByRecursion IsApart rounds
      → counts_of (answers terms rounds told) ≡ script_counts terms rounds
