-- Words hold no LF.
use Rattle.std.proofs.Common.{◌≡◌, ℕ, ◌==◌, ◌&&◌, nat_le, Bool, true, false, List, [], ◌∷◌, length, Option, None, Some, Ok, refl, subst, arith}
use Rattle.std.specs.Prelude.{unwrap_or}
use Rattle.std.specs.List.{list_all, list_any}
use Rattle.std.specs.Option.{option_map, option_and_then}
use Rattle.std.proofs.lemmas.Bool.{and_parts}
use Rattle.std.proofs.lemmas.Bool.Decides.{nat_tests}
use Rattle.uni_base.specs.Words.{is_word, is_word_byte, is_name}
use Rattle.uni_schema.specs.Schema.{Declarations, is_vertical_name, vertical_no, type_no, vertical_names, type_names}
use Rattle.uni_table.specs.declared.command.AudienceText.{AudienceText}
use Rattle.uni_table.specs.declared.command.AudienceText.TheVariants.{Public, Only, Circle}
use Rattle.uni_table.specs.declared.command.Command.{Command}
use Rattle.uni_table.specs.declared.command.Command.TheVariants.{Entity, Gone, Edge, Cut}
use Rattle.feed_reader.specs.FeedText.{WrittenAudience, public_audience, only_audience, circle_audience, WrittenLine, entity_line, gone_line, edge_line, cut_line, publish_line, is_id, is_audience, is_until, is_written, audience_meant, line_meant}
use Rattle.feed_reader.specs.Reading.{LinesByText}
use Rattle.feed_reader.specs.declared.line.FeedLine.TheVariants.{Change}
use Rattle.script_rounds.specs.Laws.{WordsAreUnbroken, audience_words, words_of}
use Rattle.uni_base.specs.Lines.{has_lf}
use Rattle.uni_base.proofs.LineLaws.{unbroken-word}
use Rattle.script_rounds.proofs.Numbering.{change_is_read}

-- names that pass a test of words
unbroken-names : (test : List ℕ → Bool) → ((name : List ℕ) → test name ≡ true → is_word name ≡ true) → (names : List (List ℕ)) → list_all test names ≡ true → list_any has_lf names ≡ false
unbroken-names test are [] all = refl
unbroken-names test are (name ∷ names) all =
    let parts = and_parts (test name) (list_all test names) all in
    rw (unbroken-word name (are name parts.0), unbroken-names test are names parts.1) refl

-- the words of an audience and of a line that is meant
audience_unbroken : (schema : Declarations) (written : WrittenAudience) (audience : AudienceText) → is_audience written ≡ true → audience_meant schema written ≡ Some audience
    → list_any has_lf (audience_words audience) ≡ false
audience_unbroken schema public_audience audience form is = let one : Public ≡ audience = cc in subst (λ a. list_any has_lf (audience_words a) ≡ false) one refl
audience_unbroken schema only_audience audience form is = let one : Only ≡ audience = cc in subst (λ a. list_any has_lf (audience_words a) ≡ false) one refl
audience_unbroken schema (circle_audience type_name key) audience form is = by (type_no schema type_name) is
  where
    word : is_word key ≡ true
    word = (and_parts (is_name type_name) (is_word key) form).1

    by : (number : Option ℕ) → option_map (λ n. Circle n key) number ≡ Some audience → list_any has_lf (audience_words audience) ≡ false
    by None is = cc
    by (Some number) is =
        let one : Circle number key ≡ audience = cc in
        subst (λ a. list_any has_lf (audience_words a) ≡ false) one (rw (unbroken-word key word) refl)

meant_unbroken : (schema : Declarations) (written : WrittenLine) (command : Command) → is_written schema.format written ≡ true → line_meant schema written ≡ Some (Change command)
    → list_any has_lf (words_of command) ≡ false
meant_unbroken schema (entity_line vertical id rank) command form is = by (vertical_no schema vertical) is
  where
    by : (number : Option ℕ) → option_map (λ n. Change (Entity n id (record { 0 = rank }))) number ≡ Some (Change command) → list_any has_lf (words_of command) ≡ false
    by None is = cc
    by (Some number) is = let one : Entity number id (record { 0 = rank }) ≡ command = cc in subst (λ c. list_any has_lf (words_of c) ≡ false) one refl
meant_unbroken schema (gone_line id) command form is = let one : Gone id ≡ command = cc in subst (λ c. list_any has_lf (words_of c) ≡ false) one refl
meant_unbroken schema (edge_line type_name key target audience until) command form is = by (type_no schema type_name) (audience_meant schema audience) refl is
  where
    part : is_name type_name && is_word key && is_id target && is_audience audience ≡ true
    part = (and_parts (is_name type_name && is_word key && is_id target && is_audience audience) (is_until schema.format until) form).0

    circle : is_audience audience ≡ true
    circle = (and_parts (is_name type_name && is_word key && is_id target) (is_audience audience) part).1

    word : is_word key ≡ true
    word = (and_parts (is_name type_name) (is_word key) (and_parts (is_name type_name && is_word key) (is_id target) (and_parts (is_name type_name && is_word key && is_id target) (is_audience audience) part).0).0).1

    by : (number : Option ℕ) (meant : Option AudienceText) → audience_meant schema audience ≡ meant
        → option_and_then (λ n. option_map (λ a. Change (Edge n key target a (unwrap_or until 0))) meant) number ≡ Some (Change command) → list_any has_lf (words_of command) ≡ false
    by None meant known is = cc
    by (Some number) None known is = cc
    by (Some number) (Some a) known is =
        let one : Edge number key target a (unwrap_or until 0) ≡ command = cc in
        subst (λ c. list_any has_lf (words_of c) ≡ false) one (rw (unbroken-word key word) (audience_unbroken schema audience a circle known))
meant_unbroken schema (cut_line type_name key target) command form is = by (type_no schema type_name) is
  where
    word : is_word key ≡ true
    word = (and_parts (is_name type_name) (is_word key) (and_parts (is_name type_name && is_word key) (is_id target) form).0).1

    by : (number : Option ℕ) → option_map (λ n. Change (Cut n key target)) number ≡ Some (Change command) → list_any has_lf (words_of command) ≡ false
    by None is = cc
    by (Some number) is =
        let one : Cut number key target ≡ command = cc in
        subst (λ c. list_any has_lf (words_of c) ≡ false) one (rw (unbroken-word key word) refl)
meant_unbroken schema publish_line command form is = cc

pub words_are_unbroken : LinesByText → WordsAreUnbroken
words_are_unbroken by_text = record {
  words = unbroken-word;
  verticals = λ schema is. unbroken-names is_vertical_name vertical (vertical_names schema) is.verticals_named;
  types = λ schema is. unbroken-names is_name name (type_names schema) is.types_named;
  changes = λ terms number before line of command is.
      let read = (by_text.is terms.schema line (Ok (Change command))).0 (change_is_read terms number before line of command is) in
      meant_unbroken terms.schema read.0 command read.1.form read.2;
}
  where
    name : (text : List ℕ) → is_name text ≡ true → is_word text ≡ true
    name text is = (and_parts (is_word text) _ is).0

    vertical : (text : List ℕ) → is_vertical_name text ≡ true → is_word text ≡ true
    vertical text is = name text (and_parts (is_name text) _ is).0
