-- What holds of each entry of the rounds of lines.
use Rattle.std.proofs.Common.{◌≡◌, ◌≤◌, ◌+◌, ◌&&◌, ℕ, Bool, true, false, List, [], ◌∷◌, ◌++◌, length, map, codes, nat_lt, nat_le, Option, None, Some, IfSome, if◌then◌else◌, refl, sym, subst, arith}
use Rattle.std.proofs.lemmas.Bool.Decides.{nat_tests}
use Rattle.std.specs.List.{AllByRecursion}
use Rattle.std.specs.Option.{option_and_then, option_map_or}
use Rattle.std.specs.Prelude.{Result, Ok, Err}
use Rattle.uni_base.specs.Fields.{same, fields_of, is_skipped}
use Rattle.uni_base.specs.Numbers.{id_of, number_between, number_of}
use Rattle.uni_base.specs.StandardLimits.{IsWithinStandard}
use Rattle.uni_schema.specs.Schema.{vertical_no, vertical_at}
use Rattle.uni_schema.specs.declared.schema.VerticalDef.{VerticalDef}
use Rattle.query_check.specs.Plan.{Stated}
use Rattle.query_check.specs.Typing.{Mistyped}
use Rattle.feed_reader.specs.Reading.{feed_line_of}
use Rattle.feed_reader.specs.declared.fault.LineFault.{LineFault}
use Rattle.feed_reader.specs.declared.fault.LineFault.TheVariants.{BadLine, UnknownName}
use Rattle.feed_reader.specs.declared.line.FeedLine.{FeedLine}
use Rattle.feed_reader.specs.declared.line.FeedLine.TheVariants.{Change, Publish}
use Rattle.script_rounds.specs.Asks.{AskParts, ask_entry, first_field, most_hits, parts_of, query_entry, query_of}
use Rattle.script_rounds.specs.Compacts.{compact_entry, named_stack, stack_entry, stack_of}
use Rattle.script_rounds.specs.Entries.{Entry, change, publish, ask, compact, stats, refused, fault, query_fault, line_of}
use Rattle.script_rounds.specs.Laws.{WordsAreUnbroken, all_entries}
use Rattle.script_rounds.specs.Roles.{Role, go, skipped, counted, counted_entry, feed_entry, form_entry, role_of, is_go}
use Rattle.script_rounds.specs.RoundReads.{Rise}
use Rattle.script_rounds.specs.Rounds.{counted_after, in_front, rounds_from, entry_in}
use Rattle.script_rounds.specs.Terms.{Terms}
use Rattle.unicorn_round.proofs.Lines.{rise-order}
use Rattle.unicorn_round.proofs.QueryFaults.{IsNear, field-short, query-short}
use Rattle.unicorn_round.proofs.Wholes.{IsWhole}

-- no word of a change holds an LF
abbrev pub HasWhole : Entry → Type 0
HasWhole (change line command) = IsWhole command
HasWhole (publish line) = Unit {0}
HasWhole (ask line session viewer limit query) = Unit {0}
HasWhole (compact line vertical shard replica) = Unit {0}
HasWhole (stats line) = Unit {0}
HasWhole (refused line code) = Unit {0}
HasWhole (fault line code) = Unit {0}
HasWhole (query_fault line code column) = Unit {0}

-- an `ask` wants no more hits than it may, codes are small, and so are columns, which stand in a line
abbrev pub IsInRange : Terms → Entry → Type 0
IsInRange terms (change line command) = Unit {0}
IsInRange terms (publish line) = Unit {0}
IsInRange terms (ask line session viewer limit query) = limit ≤ most_hits terms
IsInRange terms (compact line vertical shard replica) = Unit {0}
IsInRange terms (stats line) = Unit {0}
IsInRange terms (refused line code) = code ≤ 99
IsInRange terms (fault line code) = code ≤ 99
IsInRange terms (query_fault line code column) = (code ≤ 99) × (column ≤ 65537)

-- what holds of both holds of the one that is chosen
either : {A : Type 0} (P : Entry → Type 0) (f : A → Entry) (none : Entry) (found : Option A) → ((x : A) → P (f x)) → P none → P (option_map_or f found none)
either P f none None some lacking = lacking
either P f none (Some x) some lacking = some x

chosen : (P : Entry → Type 0) (test : Bool) (one other : Entry) → P one → P other → P (if test then one else other)
chosen P true one other first second = first
chosen P false one other first second = second

between-high : (low high : ℕ) (text : List ℕ) → IfSome (number_between low high text) (λ n. n ≤ high)
between-high low high text = by (number_of text)
  where
    within : (n : ℕ) (b : Bool) → (nat_le low n && nat_le n high) ≡ b → IfSome (if b then Some n else None) (λ k. k ≤ high)
    within n true e = grind (arith, nat_tests)
    within n false e = tt

    by : (o : Option ℕ) → IfSome (option_and_then (λ n. if nat_le low n && nat_le n high then Some n else None) o) (λ n. n ≤ high)
    by None = tt
    by (Some n) = within n (nat_le low n && nat_le n high) refl

module _ (terms : Terms) where
  compact-range : (number : ℕ) (fields : List (List ℕ)) → IsInRange terms (compact_entry terms.schema number fields)
  compact-range number fields =
      let unknown : 12 ≤ 99 = omega arith in
      let bad : 11 ≤ 99 = omega arith in
      either (IsInRange terms) (named_stack terms.schema number) (refused number 11) (stack_of fields) (λ stack.
      either (IsInRange terms) (λ vertical. option_map_or (stack_entry number stack vertical) (vertical_at terms.schema vertical) (refused number 12)) (refused number 12) (vertical_no terms.schema stack.vertical) (λ vertical.
      either (IsInRange terms) (stack_entry number stack vertical) (refused number 12) (vertical_at terms.schema vertical) (λ (def : VerticalDef).
      chosen (IsInRange terms) (nat_lt stack.shard def.shards && nat_lt stack.replica def.replicas) (compact number vertical stack.shard stack.replica) (refused number 12) tt unknown) unknown) unknown) bad

  feed-range : (number : ℕ) (read : Result FeedLine LineFault) → IsInRange terms (feed_entry number read)
  feed-range number (Ok (Change command)) = tt
  feed-range number (Ok Publish) = tt
  feed-range number (Err BadLine) = omega arith
  feed-range number (Err UnknownName) = omega arith

  -- something holds of the entry of a line, if it has one
  abbrev IsSuch : (Entry → Type 0) → Role → Type 0
  IsSuch P go = Unit {0}
  IsSuch P skipped = Unit {0}
  IsSuch P (counted entry) = P entry

  role-whole : WordsAreUnbroken → (number before : ℕ) (line : List ℕ) → IsSuch HasWhole (role_of terms number before line)
  role-whole words number before line = by (role_of terms number before line) refl
    where
      by : (role : Role) → role_of terms number before line ≡ role → IsSuch HasWhole role
      by go is = tt
      by skipped is = tt
      by (counted (change of command)) is = words.changes terms number before line of command is
      by (counted (publish of)) is = tt
      by (counted (ask of session viewer limit query)) is = tt
      by (counted (compact of vertical shard replica)) is = tt
      by (counted (stats of)) is = tt
      by (counted (refused of code)) is = tt
      by (counted (fault of code)) is = tt
      by (counted (query_fault of code column)) is = tt

  -- the entries of rounds, with a line in front of them
  in_front-entries : (role : Role) (rounds : List (List Entry)) → all_entries (in_front role rounds) ≡ entry_in role ++ all_entries rounds
  in_front-entries go rounds = refl
  in_front-entries skipped [] = refl
  in_front-entries skipped (round ∷ rounds) = refl
  in_front-entries (counted entry) [] = refl
  in_front-entries (counted entry) (round ∷ rounds) = refl

  such : (P : Entry → Type 0) → ((number before : ℕ) (line : List ℕ) → IsSuch P (role_of terms number before line))
      → (number before : ℕ) (lines : List (List ℕ)) → AllByRecursion P (all_entries (rounds_from terms number before lines))
  such P of number before [] = tt
  such P of number before (line ∷ lines) =
      let role : Role = role_of terms number before line in
      let rest : List (List Entry) = rounds_from terms (number + 1) (counted_after before role) lines in
      subst (AllByRecursion P) (sym (in_front-entries role rest)) (front role (of number before line) (all_entries rest) (such P of (number + 1) (counted_after before role) lines))
    where
      front : (role : Role) → IsSuch P role → (entries : List Entry) → AllByRecursion P entries → AllByRecursion P (entry_in role ++ entries)
      front go one entries all = all
      front skipped one entries all = all
      front (counted entry) one entries all = (one, all)

  pub all-whole : WordsAreUnbroken → (number before : ℕ) (lines : List (List ℕ)) → AllByRecursion HasWhole (all_entries (rounds_from terms number before lines))
  all-whole words number before lines = such HasWhole (role-whole words) number before lines

  -- a query's first fault is small, where its text is no longer than a line may be
  module _ (small : (text : List ℕ) → length text ≤ 65536 → IsNear (query_of terms text)) (standard : IsWithinStandard terms.limits) where
    query-range : (number session viewer limit : ℕ) (found : Result Stated Mistyped) → limit ≤ most_hits terms → IsNear found
        → IsInRange terms (query_entry number session viewer limit found)
    query-range number session viewer limit (Ok stated) few bounds = few
    query-range number session viewer limit (Err first) few bounds = bounds

    ask-range : (number : ℕ) (parts : AskParts) → length parts.query ≤ 65536 → IsInRange terms (ask_entry terms number parts)
    unfolding ask_entry
    ask-range number parts short =
        by (id_of parts.viewer) (number_between 1 terms.limits.sessions parts.session) (number_between 1 (most_hits terms) parts.limit) (between-high 1 (most_hits terms) parts.limit)
      where
        by : (v s l : Option ℕ) → IfSome l (λ n. n ≤ most_hits terms)
            → IsInRange terms (option_map_or (λ viewer. option_map_or (λ session. option_map_or (λ limit. query_entry number session viewer limit (query_of terms parts.query)) l (fault number 63)) s (fault number 62)) v (fault number 61))
        by None s l few = omega arith
        by (Some v) None l few = omega arith
        by (Some v) (Some s) None few = omega arith
        by (Some v) (Some s) (Some l) few = query-range number s v l (query_of terms parts.query) few (small parts.query short)

    form-range : (number : ℕ) (line : List ℕ) → length line ≤ 65536 → IsInRange terms (form_entry terms number line)
    form-range number line short =
        let cut = first_field line in
        let feed : Entry = feed_entry number (feed_line_of terms.schema line) in
        let rest : Entry = if same line (codes "stats") then stats number else feed in
        let others : Entry = if same cut.0 (codes "compact") then compact_entry terms.schema number (fields_of cut.1) else rest in
        chosen (IsInRange terms) (same cut.0 (codes "ask")) (ask_entry terms number (parts_of cut.1)) others
        (ask-range number (parts_of cut.1) (omega (arith, field-short line, query-short cut.1, short)))
        (chosen (IsInRange terms) (same cut.0 (codes "compact")) (compact_entry terms.schema number (fields_of cut.1)) rest (compact-range number (fields_of cut.1))
        (chosen (IsInRange terms) (same line (codes "stats")) (stats number) feed tt (feed-range number (feed_line_of terms.schema line))))

    counted-range : (number before : ℕ) (line : List ℕ) → IsInRange terms (counted_entry terms number before line)
    counted-range number before line = by (nat_lt terms.limits.line (length line)) refl
      where
        by : (long : Bool) → nat_lt terms.limits.line (length line) ≡ long
            → IsInRange terms (if long then fault number 64 else (if nat_le terms.limits.round before then fault number 65 else form_entry terms number line))
        by true is_long = omega arith
        by false is_short =
            let short : length line ≤ terms.limits.line = grind (arith, nat_tests) in
            chosen (IsInRange terms) (nat_le terms.limits.round before) (fault number 65) (form_entry terms number line) (omega arith)
            (form-range number line (omega (arith, short, standard.line)))

    role-range : (number before : ℕ) (line : List ℕ) → IsSuch (IsInRange terms) (role_of terms number before line)
    unfolding role_of
    role-range number before line = by (is_go line) (is_skipped line) (nat_lt terms.limits.round before)
      where
        by : (a b c : Bool) → IsSuch (IsInRange terms) (if a then go else (if b then skipped else (if c then skipped else counted (counted_entry terms number before line))))
        by true b c = tt
        by false true c = tt
        by false false true = tt
        by false false false = counted-range number before line

    pub all-range : (number before : ℕ) (lines : List (List ℕ)) → AllByRecursion (IsInRange terms) (all_entries (rounds_from terms number before lines))
    all-range number before lines = such (IsInRange terms) role-range number before lines

-- numbers that rise are not above the high one
pub rise-below : (low high : ℕ) (entries : List Entry) → Rise low high (map line_of entries) → AllByRecursion (λ entry. line_of entry ≤ high) entries
rise-below low high [] rise = tt
rise-below low high (entry ∷ entries) rise = (rise-order (line_of entry) high (map line_of entries) rise.1, rise-below (line_of entry) high entries rise.1)
