-- The lines that ask.
use Rattle.std.specs.Prelude.{ℕ, ◌==◌, if◌then◌else◌, List, [], unwrap_or, Result, Ok, Err}
use Rattle.std.specs.Option.{option_map_or}
use Rattle.uni_base.specs.Fields.{cut_at}
use Rattle.uni_base.specs.Numbers.{id_of, number_between}
use Rattle.query_tree.specs.Dialects.{dialect_of}
use Rattle.query_tree.specs.Tree.{Tree}
use Rattle.query_reader.specs.Reading.{text_read, Refused}
use Rattle.query_check.specs.Plan.{Stated}
use Rattle.query_check.specs.Typing.{Mistyped, mistyped, typed}
use Rattle.script_rounds.specs.Entries.{Entry, ask, fault, query_fault}
use Rattle.script_rounds.specs.Terms.{Terms}

-- what stands before the first space of a text, and what after it: all of it, and nothing, where it has
-- none
abbrev pub first_field : List ℕ → List ℕ × List ℕ
first_field text = unwrap_or (cut_at 32 text) (text, [])

-- what follows `ask` and a space, cut at its first three spaces
pub record AskParts : Type 0 where
  pub viewer : List ℕ
  pub session : List ℕ
  pub limit : List ℕ
  pub query : List ℕ

abbrev pub parts_of : List ℕ → AskParts
parts_of text =
    let one = first_field text in
    let two = first_field one.1 in
    let three = first_field two.1 in
    record { viewer = one.0; session = two.0; limit = three.0; query = three.1 }

-- how many hits an `ask` may want: in format 2 more
abbrev pub most_hits : Terms → ℕ
most_hits terms = if terms.schema.format == 2 then terms.limits.ask_limit_2 else terms.limits.ask_limit

-- the query that a text is under terms, or its first fault: one of its grammar, or else one of its types
abbrev pub typed_read : Terms → Result Tree Refused → Result Stated Mistyped
typed_read terms (Ok tree) = typed terms.schema terms.limits.joins 0 tree
typed_read terms (Err first) = mistyped first.code first.column

abbrev pub query_of : Terms → List ℕ → Result Stated Mistyped
query_of terms text = typed_read terms (text_read (dialect_of terms.limits terms.schema.format) text)

abbrev pub query_entry : ℕ → ℕ → ℕ → ℕ → Result Stated Mistyped → Entry
query_entry number session viewer limit (Ok stated) = ask number session viewer limit stated.plan
query_entry number session viewer limit (Err first) = query_fault number first.code first.column

-- An `ask`: 61 where its viewer is no id, 62 where its session is no number of one, 63 where its limit is no
-- number of hits that it may want, and then the faults of its query.
unfoldable pub ask_entry : Terms → ℕ → AskParts → Entry
ask_entry terms number parts =
    option_map_or (λ viewer.
    option_map_or (λ session.
    option_map_or (λ limit.
    query_entry number session viewer limit (query_of terms parts.query))
    (number_between 1 (most_hits terms) parts.limit) (fault number 63))
    (number_between 1 terms.limits.sessions parts.session) (fault number 62))
    (id_of parts.viewer) (fault number 61)
