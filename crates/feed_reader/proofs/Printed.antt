-- The text of a line is read as that line, and the line that was read off a text has that text.
use Rattle.std.proofs.Common.{◌≡◌, ℕ, zero, suc, ◌^◌, ◌<◌, ◌≤◌, ◌==◌, ◌&&◌, Bool, true, false, if◌then◌else◌, List, Option, None, Some, Ok, refl, ap, sym, ◌∙◌, arith, length, unwrap_or}
use Rattle.std.specs.Cmp.Derive.{both_true}
use Rattle.std.specs.Option.{option_map, option_and_then}
use Rattle.std.proofs.lemmas.Bool.{and_parts}
use Rattle.std.proofs.lemmas.Bool.Decides.{nat_tests}
use Rattle.uni_base.specs.Words.{is_word, is_name}
use Rattle.uni_schema.specs.Schema.{Declarations, IsSchema, vertical_no, type_no}
use Rattle.uni_table.specs.Commands.{IsDeclaredAudience}
use Rattle.uni_table.specs.declared.command.AudienceText.{AudienceText}
use Rattle.uni_table.specs.declared.command.AudienceText.TheVariants.{Public, Only, Circle}
use Rattle.uni_table.specs.declared.command.Command.TheVariants.{Entity, Gone, Edge, Cut}
use Rattle.feed_reader.specs.FeedText.{WrittenAudience, public_audience, only_audience, circle_audience, WrittenLine, entity_line, gone_line, edge_line, cut_line, publish_line, is_between, is_id, is_audience, is_until, is_written, written_text, audience_meant, line_meant, Spells}
use Rattle.feed_reader.specs.Printing.{LineIsDeclared, HasUntil, IsIdNumber, LineFits, HasWord, until_of, type_name, audience_written, line_written, line_text, TextIsRead, ReadIsPrinted}
use Rattle.feed_reader.specs.Reading.{written_of, answer, known, feed_line_of}
use Rattle.feed_reader.specs.declared.line.FeedLine.{FeedLine}
use Rattle.feed_reader.specs.declared.line.FeedLine.TheVariants.{Change, Publish}
use Rattle.feed_reader.proofs.Places.{vertical_found, type_found, vertical_has_name, type_has_name}
use Rattle.feed_reader.proofs.Texts.{text_given, spells}

not_zero : (n : ℕ) → (suc n == 0) ≡ false
not_zero n = grind (arith, nat_tests)

until_again : (until : ℕ) → unwrap_or (until_of until) 0 ≡ until
until_again zero = refl
until_again (suc until) = ap (λ b. unwrap_or (if b then None else Some (suc until)) 0) (not_zero until)

until_kept : (format : ℕ) (until : Option ℕ) → is_until format until ≡ true → until_of (unwrap_or until 0) ≡ until
until_kept format None is = refl
until_kept format (Some zero) is = absurd (by (format == 2) is)
  where
    by : (second : Bool) → (second && is_between 1 1048576 zero) ≡ true → ⊥
    by true e = cc
    by false e = cc
until_kept format (Some (suc until)) is = ap (λ b. if b then None else Some (suc until)) (not_zero until)

-- what is meant by a line as it is written is that line
audience_again : (schema : Declarations) → IsSchema schema → (number : ℕ) (key : List ℕ) → number < length schema.types
    → audience_meant schema (circle_audience (type_name schema number) key) ≡ Some (Circle number key)
audience_again schema kept number key h = ap (option_map (λ n. Circle n key)) (type_found schema kept number h).0

edge_again : (schema : Declarations) → IsSchema schema → (number : ℕ) (key : List ℕ) (target : ℕ) (audience : AudienceText) (until : ℕ) → number < length schema.types
    → audience_meant schema (audience_written schema audience) ≡ Some audience
    → line_meant schema (line_written schema (Change (Edge number key target audience until))) ≡ Some (Change (Edge number key target audience until))
edge_again schema kept number key target audience until h again =
    ap (option_and_then (λ n. option_map (λ a. Change (Edge n key target a (unwrap_or (until_of until) 0))) (audience_meant schema (audience_written schema audience)))) (type_found schema kept number h).0
    ∙ ap (option_map (λ a. Change (Edge number key target a (unwrap_or (until_of until) 0)))) again
    ∙ ap (λ u. Some (Change (Edge number key target audience u))) (until_again until)

meant_again : (schema : Declarations) (line : FeedLine) → IsSchema schema → LineIsDeclared schema line → line_meant schema (line_written schema line) ≡ Some line
meant_again schema (Change (Entity vertical id rank)) kept h = ap (option_map (λ n. Change (Entity n id rank))) (vertical_found schema kept vertical h).0
meant_again schema (Change (Gone id)) kept h = refl
meant_again schema (Change (Edge number key target Public until)) kept h = edge_again schema kept number key target Public until h.0 refl
meant_again schema (Change (Edge number key target Only until)) kept h = edge_again schema kept number key target Only until h.0 refl
meant_again schema (Change (Edge number key target (Circle circle text) until)) kept h =
    edge_again schema kept number key target (Circle circle text) until h.0 (audience_again schema kept circle text h.1)
meant_again schema (Change (Cut number key target)) kept h = ap (option_map (λ n. Change (Cut n key target))) (type_found schema kept number h).0
meant_again schema Publish kept h = refl

pub read_again : (schema : Declarations) (line : FeedLine) → IsSchema schema → LineIsDeclared schema line → is_written schema.format (line_written schema line) ≡ true
    → feed_line_of schema (line_text schema line) ≡ Ok line
read_again schema line kept declared written =
    ap (answer schema) (text_given schema.format (line_written schema line) written) ∙ ap known (meant_again schema line kept declared)

pub text_is_read : TextIsRead
text_is_read = record { is = read_again }

-- a line whose fields hold what they may is one that may be written
within : (low high n : ℕ) → low ≤ n → n ≤ high → is_between low high n ≡ true
within low high n above below = grind (arith, nat_tests)

id_within : (id : ℕ) → IsIdNumber id → is_id id ≡ true
id_within id fits = within 1 18446744073709551615 id (omega (arith, fits.0)) (omega (arith, fits.1))

audience_fits : (schema : Declarations) → IsSchema schema → (audience : AudienceText) → IsDeclaredAudience schema audience → HasWord audience
    → is_audience (audience_written schema audience) ≡ true
audience_fits schema kept Public declared word = refl
audience_fits schema kept Only declared word = refl
audience_fits schema kept (Circle number key) declared word = both_true (type_found schema kept number declared).1 word

pub fields_fit : (schema : Declarations) (line : FeedLine) → IsSchema schema → LineIsDeclared schema line → HasUntil schema line
    → LineFits line → is_written schema.format (line_written schema line) ≡ true
fields_fit schema (Change (Entity vertical id rank)) kept declared until fits =
    both_true (both_true (vertical_found schema kept vertical declared).1 (id_within id fits.0)) (within 0 4294967295 rank.0 (omega arith) (omega (arith, fits.1)))
fields_fit schema (Change (Gone id)) kept declared until fits = id_within id fits
fields_fit schema (Change (Edge number key target audience end)) kept declared until fits =
    both_true (both_true (both_true (both_true (type_found schema kept number declared.0).1 fits.0) (id_within target fits.1)) (audience_fits schema kept audience declared.1 fits.2)) until
fields_fit schema (Change (Cut number key target)) kept declared until fits =
    both_true (both_true (type_found schema kept number declared).1 fits.0) (id_within target fits.1)
fields_fit schema Publish kept declared until fits = refl

-- what was read is written as it was
audience_back : (schema : Declarations) (written : WrittenAudience) (audience : AudienceText) → audience_meant schema written ≡ Some audience → audience_written schema audience ≡ written
audience_back schema public_audience audience e = let one : Public ≡ audience = cc in ap (audience_written schema) (sym one)
audience_back schema only_audience audience e = let one : Only ≡ audience = cc in ap (audience_written schema) (sym one)
audience_back schema (circle_audience name key) audience e = by (type_no schema name) refl e
  where
    by : (found : Option ℕ) → type_no schema name ≡ found → option_map (λ n. Circle n key) found ≡ Some audience → audience_written schema audience ≡ circle_audience name key
    by None is e = cc
    by (Some n) is e =
        let one : Circle n key ≡ audience = cc in
        ap (audience_written schema) (sym one) ∙ ap (λ t. circle_audience t key) (type_has_name schema name n is)

written_back : (schema : Declarations) (written : WrittenLine) (line : FeedLine) → is_written schema.format written ≡ true → line_meant schema written ≡ Some line
    → line_written schema line ≡ written
written_back schema (entity_line vertical id rank) line form e = by (vertical_no schema vertical) refl e
  where
    by : (found : Option ℕ) → vertical_no schema vertical ≡ found → option_map (λ n. Change (Entity n id (record { 0 = rank }))) found ≡ Some line
        → line_written schema line ≡ entity_line vertical id rank
    by None is e = cc
    by (Some n) is e =
        let one : Change (Entity n id (record { 0 = rank })) ≡ line = cc in
        ap (line_written schema) (sym one) ∙ ap (λ v. entity_line v id rank) (vertical_has_name schema vertical n is)
written_back schema (gone_line id) line form e = let one : Change (Gone id) ≡ line = cc in ap (line_written schema) (sym one)
written_back schema (edge_line name key target audience until) line form e = by (type_no schema name) (audience_meant schema audience) refl refl e
  where
    by : (found : Option ℕ) (meant : Option AudienceText) → type_no schema name ≡ found → audience_meant schema audience ≡ meant
        → option_and_then (λ n. option_map (λ a. Change (Edge n key target a (unwrap_or until 0))) meant) found ≡ Some line
        → line_written schema line ≡ edge_line name key target audience until
    by None meant is-n is-a e = cc
    by (Some n) None is-n is-a e = cc
    by (Some n) (Some a) is-n is-a e =
        let one : Change (Edge n key target a (unwrap_or until 0)) ≡ line = cc in
        let last = and_parts (is_name name && is_word key && is_id target && is_audience audience) (is_until schema.format until) form in
        ap (line_written schema) (sym one)
        ∙ ap (λ t. edge_line t key target (audience_written schema a) (until_of (unwrap_or until 0))) (type_has_name schema name n is-n)
        ∙ ap (λ w. edge_line name key target w (until_of (unwrap_or until 0))) (audience_back schema audience a is-a)
        ∙ ap (λ u. edge_line name key target audience u) (until_kept schema.format until last.1)
written_back schema (cut_line name key target) line form e = by (type_no schema name) refl e
  where
    by : (found : Option ℕ) → type_no schema name ≡ found → option_map (λ n. Change (Cut n key target)) found ≡ Some line → line_written schema line ≡ cut_line name key target
    by None is e = cc
    by (Some n) is e =
        let one : Change (Cut n key target) ≡ line = cc in
        ap (line_written schema) (sym one) ∙ ap (λ t. cut_line t key target) (type_has_name schema name n is)
written_back schema publish_line line form e = let one : Publish ≡ line = cc in ap (line_written schema) (sym one)

pub read_is_printed : ReadIsPrinted
read_is_printed = record { is = λ schema text line e. by schema text line (written_of schema.format text) refl e }
  where
    told : (schema : Declarations) (text : List ℕ) (line : FeedLine) (written : WrittenLine) (meant : Option FeedLine) → Spells schema.format text written
        → line_meant schema written ≡ meant → known meant ≡ Ok line → line_text schema line ≡ text
    told schema text line written None spell is e = cc
    told schema text line written (Some read) spell is e =
        let one : read ≡ line = cc in
        ap written_text (written_back schema written line spell.form (is ∙ ap Some one)) ∙ sym spell.text

    by : (schema : Declarations) (text : List ℕ) (line : FeedLine) (written : Option WrittenLine) → written_of schema.format text ≡ written → answer schema written ≡ Ok line
        → line_text schema line ≡ text
    by schema text line None is e = cc
    by schema text line (Some written) is e = told schema text line written (line_meant schema written) (spells schema.format text written is) refl e
