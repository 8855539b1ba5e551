-- The lines that entries and items are of.
use Rattle.std.proofs.Common.{◌≡◌, ℕ, ◌+◌, ◌≤◌, ◌&&◌, Bool, true, false, List, [], ◌∷◌, ◌++◌, length, map, nat_lt, nat_le, codes, Option, None, Some, sym, ◌∙◌, ap, subst, refl, arith, length-append}
use Rattle.std.specs.Prelude.{if◌then◌else◌, Result, Ok, Err}
use Rattle.std.specs.Option.{option_map_or}
use Rattle.uni_base.specs.Fields.{same, fields_of, is_skipped}
use Rattle.uni_base.specs.Numbers.{id_of, number_between}
use Rattle.uni_schema.specs.Schema.{Declarations, vertical_no, vertical_at}
use Rattle.uni_schema.specs.declared.schema.VerticalDef.{VerticalDef}
use Rattle.uni_table.specs.declared.command.Command.{Command}
use Rattle.query_check.specs.Plan.{Plan, Stated}
use Rattle.query_check.specs.Typing.{Mistyped}
use Rattle.script_rounds.specs.declared.compact.WrittenStack.{WrittenStack}
use Rattle.feed_reader.specs.declared.line.FeedLine.{FeedLine}
use Rattle.feed_reader.specs.declared.line.FeedLine.TheVariants.{Change, Publish}
use Rattle.feed_reader.specs.declared.fault.LineFault.{LineFault}
use Rattle.script_rounds.specs.declared.item.Item.{Item as AnItem}
use Rattle.script_rounds.specs.declared.item.Item.TheVariants as items
use Rattle.script_rounds.specs.Asks.{AskParts, ask_entry, first_field, most_hits, parts_of, query_entry, query_of}
use Rattle.script_rounds.specs.Compacts.{compact_entry, named_stack, stack_entry, stack_of}
use Rattle.script_rounds.specs.Entries.{Entry, IsItemOf, AreItemsOf, line_of, change, publish, ask, compact, stats, refused, fault, query_fault}
use Rattle.feed_reader.specs.Reading.{feed_line_of}
use Rattle.script_rounds.specs.Laws.{NumbersRise, all_entries}
use Rattle.script_rounds.specs.Roles.{Role, go, skipped, counted, counted_entry, feed_entry, form_entry, role_of, is_go, LineIs}
use Rattle.script_rounds.specs.Rounds.{counted_after, in_front, rounds_from, entry_in, entries_from}
use Rattle.script_rounds.specs.RoundReads.{AreOfLines, Rise, item_line}
use Rattle.script_rounds.specs.Terms.{Terms}
use Rattle.script_rounds.proofs.RoundSteps.{length-entry_in}

-- what holds of both holds of the one that is chosen
either : {A : Type 0} (P : Entry → Type 0) (f : A → Entry) (none : Entry) (found : Option A) → ((x : A) → P (f x)) → P none → P (option_map_or f found none)
either P f none None some lacking = lacking
either P f none (Some x) some lacking = some x

chosen : (P : Entry → Type 0) (test : Bool) (one other : Entry) → P one → P other → P (if test then one else other)
chosen P true one other first second = first
chosen P false one other first second = second

-- something holds of each entry of a line but those of the feed
record Holds (P : Entry → Type 0) (number : ℕ) : Type 0 where
  asks : (session viewer limit : ℕ) (query : Plan) → P (ask number session viewer limit query)
  queries : (code column : ℕ) → P (query_fault number code column)
  faults : (code : ℕ) → P (fault number code)
  compacts : (vertical shard replica : ℕ) → P (compact number vertical shard replica)
  refusals : (code : ℕ) → P (refused number code)
  shown : P (stats number)

query_such : (P : Entry → Type 0) (number : ℕ) → Holds P number → (session viewer limit : ℕ) (found : Result Stated Mistyped) → P (query_entry number session viewer limit found)
query_such P number holds session viewer limit (Ok stated) = holds.asks session viewer limit stated.plan
query_such P number holds session viewer limit (Err first) = holds.queries first.code first.column

ask_such : (P : Entry → Type 0) (terms : Terms) (number : ℕ) → Holds P number → (parts : AskParts) → P (ask_entry terms number parts)
unfolding ask_entry
ask_such P terms number holds parts =
    either P _ (fault number 61) (id_of parts.viewer) (λ viewer.
    either P _ (fault number 62) (number_between 1 terms.limits.sessions parts.session) (λ session.
    either P _ (fault number 63) (number_between 1 (most_hits terms) parts.limit) (λ limit.
    query_such P number holds session viewer limit (query_of terms parts.query)) (holds.faults 63)) (holds.faults 62)) (holds.faults 61)

compact_such : (P : Entry → Type 0) (schema : Declarations) (number : ℕ) → Holds P number → (fields : List (List ℕ)) → P (compact_entry schema number fields)
compact_such P schema number holds fields =
    either P (named_stack schema number) (refused number 11) (stack_of fields) (λ (stack : WrittenStack).
    either P (λ vertical. option_map_or (stack_entry number stack vertical) (vertical_at schema vertical) (refused number 12)) (refused number 12) (vertical_no schema stack.vertical) (λ vertical.
    either P (stack_entry number stack vertical) (refused number 12) (vertical_at schema vertical) (λ (def : VerticalDef).
    chosen P (nat_lt stack.shard def.shards && nat_lt stack.replica def.replicas) (compact number vertical stack.shard stack.replica) (refused number 12)
    (holds.compacts vertical stack.shard stack.replica) (holds.refusals 12)) (holds.refusals 12)) (holds.refusals 12)) (holds.refusals 11)

form_such : (P : Entry → Type 0) (terms : Terms) (number : ℕ) → Holds P number → (line : List ℕ) → P (feed_entry number (feed_line_of terms.schema line)) → P (form_entry terms number line)
form_such P terms number holds line of_feed =
    let cut = first_field line in
    let feed : Entry = feed_entry number (feed_line_of terms.schema line) in
    let rest : Entry = if same line (codes "stats") then stats number else feed in
    let others : Entry = if same cut.0 (codes "compact") then compact_entry terms.schema number (fields_of cut.1) else rest in
    chosen P (same cut.0 (codes "ask")) (ask_entry terms number (parts_of cut.1)) others (ask_such P terms number holds (parts_of cut.1))
    (chosen P (same cut.0 (codes "compact")) (compact_entry terms.schema number (fields_of cut.1)) rest (compact_such P terms.schema number holds (fields_of cut.1))
    (chosen P (same line (codes "stats")) (stats number) feed holds.shown of_feed))

counted_such : (P : Entry → Type 0) (terms : Terms) (number before : ℕ) → Holds P number → (line : List ℕ) → P (feed_entry number (feed_line_of terms.schema line))
    → P (counted_entry terms number before line)
counted_such P terms number before holds line of_feed =
    let within : Entry = if nat_le terms.limits.round before then fault number 65 else form_entry terms number line in
    chosen P (nat_lt terms.limits.line (length line)) (fault number 64) within (holds.faults 64)
    (chosen P (nat_le terms.limits.round before) (fault number 65) (form_entry terms number line) (holds.faults 65) (form_such P terms number holds line of_feed))

-- something holds of the entry of a line, if it has one
abbrev IsSuch : (Entry → Type 0) → Role → Type 0
IsSuch P go = Unit {0}
IsSuch P skipped = Unit {0}
IsSuch P (counted entry) = P entry

role_such : (P : Entry → Type 0) (terms : Terms) (number before : ℕ) → Holds P number → (line : List ℕ) → P (feed_entry number (feed_line_of terms.schema line))
    → IsSuch P (role_of terms number before line)
unfolding role_of
role_such P terms number before holds line of_feed = by (is_go line) (is_skipped line) (nat_lt terms.limits.round before)
  where
    by : (a b c : Bool) → IsSuch P (if a then go else (if b then skipped else (if c then skipped else counted (counted_entry terms number before line))))
    by true b c = tt
    by false true c = tt
    by false false true = tt
    by false false false = counted_such P terms number before holds line of_feed

-- a line that counts is an entry of its number
abbrev HasNumber : ℕ → Entry → Type 0
HasNumber number entry = line_of entry ≡ number

role_numbered : (terms : Terms) (number before : ℕ) (line : List ℕ) → IsSuch (HasNumber number) (role_of terms number before line)
role_numbered terms number before line =
    role_such (HasNumber number) terms number before
    (record { asks = λ session viewer limit query. refl; queries = λ code column. refl; faults = λ code. refl; compacts = λ vertical shard replica. refl; refusals = λ code. refl; shown = refl })
    line (of_feed (feed_line_of terms.schema line))
  where
    of_feed : (read : Result FeedLine LineFault) → line_of (feed_entry number read) ≡ number
    of_feed (Ok (Change command)) = refl
    of_feed (Ok Publish) = refl
    of_feed (Err first) = refl

-- a line that is a change is read as that change
abbrev IsRead : Result FeedLine LineFault → Entry → Type 0
IsRead read (change line command) = read ≡ Ok (Change command)
IsRead read (publish line) = Unit {0}
IsRead read (ask line session viewer limit query) = Unit {0}
IsRead read (compact line vertical shard replica) = Unit {0}
IsRead read (stats line) = Unit {0}
IsRead read (refused line code) = Unit {0}
IsRead read (fault line code) = Unit {0}
IsRead read (query_fault line code column) = Unit {0}

pub change_is_read : (terms : Terms) (number before : ℕ) (line : List ℕ) (of : ℕ) (command : Command) → role_of terms number before line ≡ counted (change of command)
    → feed_line_of terms.schema line ≡ Ok (Change command)
change_is_read terms number before line of command is =
    let read = feed_line_of terms.schema line in
    subst (IsSuch (IsRead read)) is
    (role_such (IsRead read) terms number before
    (record { asks = λ session viewer limit query. tt; queries = λ code column. tt; faults = λ code. tt; compacts = λ vertical shard replica. tt; refusals = λ code. tt; shown = tt })
    line (of_feed read))
  where
    of_feed : (read : Result FeedLine LineFault) → IsRead read (feed_entry number read)
    of_feed (Ok (Change command)) = refl
    of_feed (Ok Publish) = tt
    of_feed (Err first) = tt

rise-lower : (lower low high : ℕ) (ns : List ℕ) → lower ≤ low → Rise low high ns → Rise lower high ns
rise-lower lower low high [] below rise = omega (arith, below, rise)
rise-lower lower low high (n ∷ ns) below rise = (omega (arith, below, rise.0), rise.1)

-- an entry in front of others whose numbers rise
front_rises : (low high : ℕ) (role : Role) → IsSuch (HasNumber (low + 1)) role → (rest : List Entry) → Rise (low + 1) high (map line_of rest)
    → Rise low high (map line_of (entry_in role ++ rest))
front_rises low high go numbered rest rise = rise-lower low (low + 1) high (map line_of rest) (omega arith) rise
front_rises low high skipped numbered rest rise = rise-lower low (low + 1) high (map line_of rest) (omega arith) rise
front_rises low high (counted entry) numbered rest rise =
    (omega (arith, numbered), subst (λ n. Rise n high (map line_of rest)) (sym numbered) rise)

-- the numbers of the entries of lines rise
pub entries_rise : (terms : Terms) (low before : ℕ) (lines : List (List ℕ)) → Rise low (low + length lines) (map line_of (entries_from terms (low + 1) before lines))
entries_rise terms low before [] = omega arith
entries_rise terms low before (line ∷ lines) =
    let role : Role = role_of terms (low + 1) before line in
    let high : low + 1 + length lines ≡ low + length (line ∷ lines) = omega arith in
    subst (λ h. Rise low h (map line_of (entries_from terms (low + 1) before (line ∷ lines)))) high
    (front_rises low (low + 1 + length lines) role (role_numbered terms (low + 1) before line) (entries_from terms (low + 1 + 1) (counted_after before role) lines)
    (entries_rise terms (low + 1) (counted_after before role) lines))

-- the entries of rounds, with a line in front of them
all_entries-in_front : (role : Role) (rounds : List (List Entry)) → all_entries (in_front role rounds) ≡ entry_in role ++ all_entries rounds
all_entries-in_front go rounds = refl
all_entries-in_front skipped [] = refl
all_entries-in_front skipped (round ∷ rounds) = refl
all_entries-in_front (counted entry) [] = refl
all_entries-in_front (counted entry) (round ∷ rounds) = refl

rounds_rise : (terms : Terms) (low before : ℕ) (lines : List (List ℕ)) → Rise low (low + length lines) (map line_of (all_entries (rounds_from terms (low + 1) before lines)))
rounds_rise terms low before [] = omega arith
rounds_rise terms low before (line ∷ lines) =
    let role : Role = role_of terms (low + 1) before line in
    let rest : List (List Entry) = rounds_from terms (low + 1 + 1) (counted_after before role) lines in
    let high : low + 1 + length lines ≡ low + length (line ∷ lines) = omega arith in
    subst (λ h. Rise low h (map line_of (all_entries (rounds_from terms (low + 1) before (line ∷ lines))))) high
    (subst (λ es. Rise low (low + 1 + length lines) (map line_of es)) (sym (all_entries-in_front role rest))
    (front_rises low (low + 1 + length lines) role (role_numbered terms (low + 1) before line) (all_entries rest)
    (rounds_rise terms (low + 1) (counted_after before role) lines)))

pub numbers_rise : NumbersRise
numbers_rise = record { rise = rounds_rise }

-- lines have no more entries than there are of them
pub entries-few : (terms : Terms) (number before : ℕ) (lines : List (List ℕ)) → length (entries_from terms number before lines) ≤ length lines
entries-few terms number before [] = omega arith
entries-few terms number before (line ∷ lines) =
    let role : Role = role_of terms number before line in
    let rest : List Entry = entries_from terms (number + 1) (counted_after before role) lines in
    omega (arith, length-append (entry_in role) rest, length-entry_in role, entries-few terms (number + 1) (counted_after before role) lines)

-- an item has the number of its entry
item_line-is : (entry : Entry) (item : AnItem) → IsItemOf entry item → item_line item ≡ line_of entry
item_line-is entry (items.Change line command) is = ap line_of (sym is)
item_line-is entry (items.Publish line) is = ap line_of (sym is)
item_line-is entry (items.Ask line viewer session limit query) is = ap line_of (sym is)
item_line-is entry (items.Compact line vertical shard replica) is = ap line_of (sym is)
item_line-is entry (items.Stats line) is = ap line_of (sym is)
item_line-is entry (items.Refused line code) is = ap line_of (sym is)
item_line-is entry (items.Fault line code) is = ap line_of (sym is)
item_line-is entry (items.QueryFault line code column) is = ap line_of (sym is)
item_line-is entry (items.Memory line) is = sym is.1

pub item_lines : (entries : List Entry) (items : List AnItem) → AreItemsOf entries items → map item_line items ≡ map line_of entries
item_lines [] [] are = refl
item_lines [] (item ∷ items) are = absurd are
item_lines (entry ∷ entries) [] are = absurd are
item_lines (entry ∷ entries) (item ∷ items) are =
    ap (λ n. n ∷ map item_line items) (item_line-is entry item are.0) ∙ ap (λ ns. line_of entry ∷ ns) (item_lines entries items are.1)

-- each entry of lines is what some line is
abbrev AreEntries : Terms → List Entry → Type 0
AreEntries terms [] = Unit {0}
AreEntries terms (entry ∷ entries) = ((number : ℕ) × ((before : ℕ) × ((line : List ℕ) × LineIs terms number before line (counted entry)))) × AreEntries terms entries

entries-are : (terms : Terms) (number before : ℕ) (lines : List (List ℕ)) → AreEntries terms (entries_from terms number before lines)
entries-are terms number before [] = tt
entries-are terms number before (line ∷ lines) =
    let role : Role = role_of terms number before line in
    by role refl (entries_from terms (number + 1) (counted_after before role) lines) (entries-are terms (number + 1) (counted_after before role) lines)
  where
    by : (role : Role) → role_of terms number before line ≡ role → (rest : List Entry) → AreEntries terms rest → AreEntries terms (entry_in role ++ rest)
    by go is rest are = are
    by skipped is rest are = are
    by (counted entry) is rest are = ((number, (before, (line, is))), are)

items-are : (terms : Terms) (entries : List Entry) (items : List AnItem) → AreEntries terms entries → AreItemsOf entries items → AreOfLines terms items
items-are terms [] [] are of = tt
items-are terms [] (item ∷ items) are of = absurd of
items-are terms (entry ∷ entries) [] are of = tt
items-are terms (entry ∷ entries) (item ∷ items) are of =
    ((are.0.0, (are.0.1.0, (are.0.1.1.0, (entry, (are.0.1.1.1, of.0))))), items-are terms entries items are.1 of.1)

pub items_of_lines : (terms : Terms) (number before : ℕ) (lines : List (List ℕ)) (items : List AnItem) → AreItemsOf (entries_from terms number before lines) items → AreOfLines terms items
items_of_lines terms number before lines items of = items-are terms (entries_from terms number before lines) items (entries-are terms number before lines) of
