-- The record of answering line by line.
use Rattle.std.specs.Prelude.{◌≡◌, ℕ, Bool, List, [], length, if◌then◌else◌}
use Rattle.std.specs.List.{AllZip}
use Rattle.script_rounds.specs.Entries.{Entry, change, publish, ask, compact, stats, refused, fault, query_fault}
use Rattle.script_rounds.specs.Terms.{Terms}
use Rattle.unicorn_round.specs.Answers.{Standing, opening_standing, after_entry, after_round}
use Rattle.round_feed.specs.Feeds.{made}
use Rattle.unicorn_round.specs.Marks.{Mark, plain, lacking, at, RoundRecord, Record}
use Rattle.round_feed.specs.Steps.{marked_by}

-- for which entries of a round memory was wanting, of those for which it may be
abbrev pub Lacks : Type 0
Lacks = List Bool

-- it is said of each entry of each round
abbrev pub AreAsMany : List (List Entry) → List Lacks → Type 0
AreAsMany rounds lacks = AllZip (λ entries known. length known ≡ length entries) rounds lacks

-- the mark of an entry, where so many publishes were made on the lines before it. Memory may be wanting for a change, for
-- an `ask` and for a query at fault; a publish, a compaction and `stats` are answered as they are due.
abbrev pub plain_mark : ℕ → Entry → Bool → Mark
plain_mark number (change line command) lacks = if lacks then lacking else plain
plain_mark number (publish line) lacks = plain
plain_mark number (ask line session viewer limit query) lacks = if lacks then lacking else at number
plain_mark number (compact line vertical shard replica) lacks = at number
plain_mark number (stats line) lacks = plain
plain_mark number (refused line code) lacks = plain
plain_mark number (fault line code) lacks = plain
plain_mark number (query_fault line code column) lacks = if lacks then lacking else plain

abbrev pub plain_marks : Terms → Standing → List Entry → Lacks → List Mark
plain_marks terms s entries lacks = marked_by (after_entry terms) (λ now. plain_mark (made now.feed)) s entries lacks

-- of a round: no stack is left untidied
abbrev pub plain_round : Terms → Standing → List Entry → Lacks → RoundRecord
plain_round terms s entries lacks = record { marks = plain_marks terms s entries lacks; untidied = [] }

-- PlainRecord: each `ask` and each `compact` is answered at the publishes that were made on the lines before
-- it, but an `ask` for which memory was wanting
abbrev pub plain_record : Terms → List (List Entry) → List Lacks → Record
plain_record terms rounds lacks = marked_by (after_round terms) (plain_round terms) (opening_standing terms) rounds lacks
