-- Lines by their texts.
use Rattle.std.proofs.Common.{◌≡◌, ◌↔◌, ℕ, ◌&&◌, Bool, true, false, if◌then◌else◌, List, [], ◌∷◌, Option, None, Some, Result, Ok, Err, refl, ap, sym, subst, ◌∙◌, codes, arith}
use Rattle.std.specs.Cmp.Derive.{both_true}
use Rattle.std.specs.Cmp.Lexicographic.{same_text}
use Rattle.std.specs.Fmt.{decimal}
use Rattle.std.specs.List.{list_all}
use Rattle.std.specs.Option.{option_map, option_and_then}
use Rattle.std.proofs.lemmas.Bool.{and_parts}
use Rattle.uni_base.specs.Fields.{same, fields_of, spaced}
use Rattle.uni_base.specs.Numbers.{id_of, number_between}
use Rattle.uni_base.specs.Words.{is_word, is_name}
use Rattle.uni_base.proofs.FieldLemmas.{spaced-fields_of, fields_of-spaced}
use Rattle.uni_schema.specs.Lines.{name_of}
use Rattle.uni_schema.specs.Schema.{Declarations}
use Rattle.feed_reader.specs.FeedText.{WrittenAudience, WrittenLine, entity_line, gone_line, edge_line, cut_line, publish_line, audience_text, until_fields, written_fields, is_id, is_rank, is_audience, is_until, is_written, Spells, line_meant, ReadsAs}
use Rattle.feed_reader.specs.Reading.{word_of, audience_in, until_in, entity_in, gone_in, edge_in, cut_in, publish_in, written_in, written_of, known, answer, feed_line_of, LinesByText}
use Rattle.feed_reader.specs.declared.line.FeedLine.{FeedLine}
use Rattle.feed_reader.specs.declared.fault.LineFault.{LineFault}
use Rattle.feed_reader.specs.declared.fault.LineFault.TheVariants.{BadLine, UnknownName}
use Rattle.feed_reader.proofs.Numerals.{between_read, between_given}
use Rattle.feed_reader.proofs.Parts.{is_other, name_read, name_given, name_solid, word_read, word_given, word_solid, number_solid, audience_read, audience_given, audience_solid, until_read, until_given, until_solid}

-- fields are those of a line that may be written
abbrev Writes : ℕ → List (List ℕ) → WrittenLine → Type 0
Writes format fields written = (fields ≡ written_fields written) × (is_written format written ≡ true)

-- what is read off the fields of each form is what they write
entity_read : (format : ℕ) (fields : List (List ℕ)) (written : WrittenLine) → entity_in fields ≡ Some written → Writes format (codes "entity" ∷ fields) written
entity_read format [] written e = cc
entity_read format (a ∷ []) written e = cc
entity_read format (a ∷ b ∷ []) written e = cc
entity_read format (a ∷ b ∷ c ∷ []) written e = by (name_of a) (id_of b) (number_between 0 4294967295 c) refl refl refl e
  where
    by : (v : Option (List ℕ)) (i r : Option ℕ) → name_of a ≡ v → id_of b ≡ i → number_between 0 4294967295 c ≡ r
        → option_and_then (λ v. option_and_then (λ i. option_map (λ r. entity_line v i r) r) i) v ≡ Some written → Writes format (codes "entity" ∷ a ∷ b ∷ c ∷ []) written
    by None i r is-v is-i is-r e = cc
    by (Some v) None r is-v is-i is-r e = cc
    by (Some v) (Some i) None is-v is-i is-r e = cc
    by (Some v) (Some i) (Some r) is-v is-i is-r e =
        let one : entity_line v i r ≡ written = cc in
        let named = name_read a v is-v in
        let id = between_read 1 18446744073709551615 b i (omega arith) is-i in
        let rank = between_read 0 4294967295 c r (omega arith) is-r in
        subst (Writes format (codes "entity" ∷ a ∷ b ∷ c ∷ [])) one (
          ap (λ x. codes "entity" ∷ x ∷ b ∷ c ∷ []) named.0 ∙ ap (λ x. codes "entity" ∷ v ∷ x ∷ c ∷ []) id.0 ∙ ap (λ x. codes "entity" ∷ v ∷ decimal i ∷ x ∷ []) rank.0,
          both_true (both_true named.1 id.1) rank.1,
        )
entity_read format (a ∷ b ∷ c ∷ d ∷ fields) written e = cc

gone_read : (format : ℕ) (fields : List (List ℕ)) (written : WrittenLine) → gone_in fields ≡ Some written → Writes format (codes "gone" ∷ fields) written
gone_read format [] written e = cc
gone_read format (a ∷ []) written e = by (id_of a) refl e
  where
    by : (i : Option ℕ) → id_of a ≡ i → option_map gone_line i ≡ Some written → Writes format (codes "gone" ∷ a ∷ []) written
    by None is e = cc
    by (Some i) is e =
        let one : gone_line i ≡ written = cc in
        let id = between_read 1 18446744073709551615 a i (omega arith) is in
        subst (Writes format (codes "gone" ∷ a ∷ [])) one (ap (λ x. codes "gone" ∷ x ∷ []) id.0, id.1)
gone_read format (a ∷ b ∷ fields) written e = cc

edge_read : (format : ℕ) (fields : List (List ℕ)) (written : WrittenLine) → edge_in format fields ≡ Some written → Writes format (codes "edge" ∷ fields) written
edge_read format [] written e = cc
edge_read format (a ∷ []) written e = cc
edge_read format (a ∷ b ∷ []) written e = cc
edge_read format (a ∷ b ∷ c ∷ []) written e = cc
edge_read format (a ∷ b ∷ c ∷ d ∷ end) written e = by (name_of a) (word_of b) (id_of c) (audience_in d) (until_in format end) refl refl refl refl refl e
  where
    by : (n k : Option (List ℕ)) (t : Option ℕ) (s : Option WrittenAudience) (u : Option (Option ℕ))
        → name_of a ≡ n → word_of b ≡ k → id_of c ≡ t → audience_in d ≡ s → until_in format end ≡ u
        → option_and_then (λ n. option_and_then (λ k. option_and_then (λ t. option_and_then (λ s. option_map (λ u. edge_line n k t s u) u) s) t) k) n ≡ Some written
        → Writes format (codes "edge" ∷ a ∷ b ∷ c ∷ d ∷ end) written
    by None k t s u is-n is-k is-t is-s is-u e = cc
    by (Some n) None t s u is-n is-k is-t is-s is-u e = cc
    by (Some n) (Some k) None s u is-n is-k is-t is-s is-u e = cc
    by (Some n) (Some k) (Some t) None u is-n is-k is-t is-s is-u e = cc
    by (Some n) (Some k) (Some t) (Some s) None is-n is-k is-t is-s is-u e = cc
    by (Some n) (Some k) (Some t) (Some s) (Some u) is-n is-k is-t is-s is-u e =
        let one : edge_line n k t s u ≡ written = cc in
        let named = name_read a n is-n in
        let key = word_read b k is-k in
        let target = between_read 1 18446744073709551615 c t (omega arith) is-t in
        let audience = audience_read d s is-s in
        let until = until_read format end u is-u in
        subst (Writes format (codes "edge" ∷ a ∷ b ∷ c ∷ d ∷ end)) one (
          ap (λ x. codes "edge" ∷ x ∷ b ∷ c ∷ d ∷ end) named.0
              ∙ ap (λ x. codes "edge" ∷ n ∷ x ∷ c ∷ d ∷ end) key.0
              ∙ ap (λ x. codes "edge" ∷ n ∷ k ∷ x ∷ d ∷ end) target.0
              ∙ ap (λ x. codes "edge" ∷ n ∷ k ∷ decimal t ∷ x ∷ end) audience.0
              ∙ ap (λ x. codes "edge" ∷ n ∷ k ∷ decimal t ∷ audience_text s ∷ x) until.0,
          both_true (both_true (both_true (both_true named.1 key.1) target.1) audience.1) until.1,
        )

cut_read : (format : ℕ) (fields : List (List ℕ)) (written : WrittenLine) → cut_in fields ≡ Some written → Writes format (codes "cut" ∷ fields) written
cut_read format [] written e = cc
cut_read format (a ∷ []) written e = cc
cut_read format (a ∷ b ∷ []) written e = cc
cut_read format (a ∷ b ∷ c ∷ []) written e = by (name_of a) (word_of b) (id_of c) refl refl refl e
  where
    by : (n k : Option (List ℕ)) (t : Option ℕ) → name_of a ≡ n → word_of b ≡ k → id_of c ≡ t
        → option_and_then (λ n. option_and_then (λ k. option_map (λ t. cut_line n k t) t) k) n ≡ Some written → Writes format (codes "cut" ∷ a ∷ b ∷ c ∷ []) written
    by None k t is-n is-k is-t e = cc
    by (Some n) None t is-n is-k is-t e = cc
    by (Some n) (Some k) None is-n is-k is-t e = cc
    by (Some n) (Some k) (Some t) is-n is-k is-t e =
        let one : cut_line n k t ≡ written = cc in
        let named = name_read a n is-n in
        let key = word_read b k is-k in
        let target = between_read 1 18446744073709551615 c t (omega arith) is-t in
        subst (Writes format (codes "cut" ∷ a ∷ b ∷ c ∷ [])) one (
          ap (λ x. codes "cut" ∷ x ∷ b ∷ c ∷ []) named.0 ∙ ap (λ x. codes "cut" ∷ n ∷ x ∷ c ∷ []) key.0 ∙ ap (λ x. codes "cut" ∷ n ∷ k ∷ x ∷ []) target.0,
          both_true (both_true named.1 key.1) target.1,
        )
cut_read format (a ∷ b ∷ c ∷ d ∷ fields) written e = cc

publish_read : (format : ℕ) (fields : List (List ℕ)) (written : WrittenLine) → publish_in fields ≡ Some written → Writes format (codes "publish" ∷ fields) written
publish_read format [] written e = let one : publish_line ≡ written = cc in subst (Writes format (codes "publish" ∷ [])) one (refl, refl)
publish_read format (a ∷ fields) written e = cc

fields_read : (format : ℕ) (fields : List (List ℕ)) (written : WrittenLine) → written_in format fields ≡ Some written → Writes format fields written
fields_read format [] written e = cc
fields_read format (word ∷ fields) written e =
    by (same word (codes "edge")) (same word (codes "entity")) (same word (codes "cut")) (same word (codes "gone")) (same word (codes "publish")) refl refl refl refl refl e
  where
    at : (text : List ℕ) → same word text ≡ true → Writes format (text ∷ fields) written → Writes format (word ∷ fields) written
    at text is h = subst (λ w. Writes format (w ∷ fields) written) (sym (same_text word text (sym is))) h

    by : (d n c g p : Bool) → same word (codes "edge") ≡ d → same word (codes "entity") ≡ n → same word (codes "cut") ≡ c → same word (codes "gone") ≡ g → same word (codes "publish") ≡ p
        → (if d then edge_in format fields else (if n then entity_in fields else (if c then cut_in fields else (if g then gone_in fields else (if p then publish_in fields else None))))) ≡ Some written
        → Writes format (word ∷ fields) written
    by true n c g p is-d is-n is-c is-g is-p e = at (codes "edge") is-d (edge_read format fields written e)
    by false true c g p is-d is-n is-c is-g is-p e = at (codes "entity") is-n (entity_read format fields written e)
    by false false true g p is-d is-n is-c is-g is-p e = at (codes "cut") is-c (cut_read format fields written e)
    by false false false true p is-d is-n is-c is-g is-p e = at (codes "gone") is-g (gone_read format fields written e)
    by false false false false true is-d is-n is-c is-g is-p e = at (codes "publish") is-p (publish_read format fields written e)
    by false false false false false is-d is-n is-c is-g is-p e = cc

pub spells : (format : ℕ) (line : List ℕ) (written : WrittenLine) → written_of format line ≡ Some written → Spells format line written
spells format line written e =
    let read = fields_read format (fields_of line) written e in
    record { form = read.1; text = sym (spaced-fields_of line) ∙ ap spaced read.0 }

-- the fields of a line that may be written hold no space, and are read as that line
solid : (format : ℕ) (written : WrittenLine) → is_written format written ≡ true → list_all (list_all (is_other 32)) (written_fields written) ≡ true
solid format (entity_line vertical id rank) is =
    let parts = and_parts (is_name vertical && is_id id) (is_rank rank) is in
    let first = and_parts (is_name vertical) (is_id id) parts.0 in
    both_true (name_solid vertical first.0) (both_true (number_solid 1 18446744073709551615 id (omega arith) first.1) (both_true (number_solid 0 4294967295 rank (omega arith) parts.1) refl))
solid format (gone_line id) is = both_true (number_solid 1 18446744073709551615 id (omega arith) is) refl
solid format (edge_line type_name key target audience until) is =
    let fifth = and_parts (is_name type_name && is_word key && is_id target && is_audience audience) (is_until format until) is in
    let fourth = and_parts (is_name type_name && is_word key && is_id target) (is_audience audience) fifth.0 in
    let third = and_parts (is_name type_name && is_word key) (is_id target) fourth.0 in
    let second = and_parts (is_name type_name) (is_word key) third.0 in
    both_true (name_solid type_name second.0) (both_true (word_solid key second.1) (both_true (number_solid 1 18446744073709551615 target (omega arith) third.1)
    (both_true (audience_solid audience fourth.1) (until_solid format until fifth.1))))
solid format (cut_line type_name key target) is =
    let third = and_parts (is_name type_name && is_word key) (is_id target) is in
    let second = and_parts (is_name type_name) (is_word key) third.0 in
    both_true (name_solid type_name second.0) (both_true (word_solid key second.1) (both_true (number_solid 1 18446744073709551615 target (omega arith) third.1) refl))
solid format publish_line is = refl

fields_given : (format : ℕ) (written : WrittenLine) → is_written format written ≡ true → written_in format (written_fields written) ≡ Some written
fields_given format (entity_line vertical id rank) is =
    let parts = and_parts (is_name vertical && is_id id) (is_rank rank) is in
    let first = and_parts (is_name vertical) (is_id id) parts.0 in
    let v = name_given vertical first.0 in
    let i = between_given 1 18446744073709551615 id (omega arith) first.1 in
    let r = between_given 0 4294967295 rank (omega arith) parts.1 in
    rw (v, i, r) refl
fields_given format (gone_line id) is = ap (option_map gone_line) (between_given 1 18446744073709551615 id (omega arith) is)
fields_given format (edge_line type_name key target audience until) is =
    let fifth = and_parts (is_name type_name && is_word key && is_id target && is_audience audience) (is_until format until) is in
    let fourth = and_parts (is_name type_name && is_word key && is_id target) (is_audience audience) fifth.0 in
    let third = and_parts (is_name type_name && is_word key) (is_id target) fourth.0 in
    let second = and_parts (is_name type_name) (is_word key) third.0 in
    ap (option_and_then (λ n. option_and_then (λ k. option_and_then (λ t. option_and_then (λ s. option_map (λ u. edge_line n k t s u) (until_in format (until_fields until)))
    (audience_in (audience_text audience))) (id_of (decimal target))) (word_of key))) (name_given type_name second.0)
    ∙ ap (option_and_then (λ k. option_and_then (λ t. option_and_then (λ s. option_map (λ u. edge_line type_name k t s u) (until_in format (until_fields until)))
    (audience_in (audience_text audience))) (id_of (decimal target)))) (word_given key second.1)
    ∙ ap (option_and_then (λ t. option_and_then (λ s. option_map (λ u. edge_line type_name key t s u) (until_in format (until_fields until)))
    (audience_in (audience_text audience)))) (between_given 1 18446744073709551615 target (omega arith) third.1)
    ∙ ap (option_and_then (λ s. option_map (λ u. edge_line type_name key target s u) (until_in format (until_fields until)))) (audience_given audience fourth.1)
    ∙ ap (option_map (λ u. edge_line type_name key target audience u)) (until_given format until fifth.1)
fields_given format (cut_line type_name key target) is =
    let third = and_parts (is_name type_name && is_word key) (is_id target) is in
    let second = and_parts (is_name type_name) (is_word key) third.0 in
    let n = name_given type_name second.0 in
    let k = word_given key second.1 in
    let t = between_given 1 18446744073709551615 target (omega arith) third.1 in
    rw (n, k, t) refl
fields_given format publish_line is = refl

pub text_given : (format : ℕ) (written : WrittenLine) → is_written format written ≡ true → written_of format (spaced (written_fields written)) ≡ Some written
text_given format written is = by (written_fields written) refl
  where
    by : (fields : List (List ℕ)) → written_fields written ≡ fields → written_of format (spaced fields) ≡ Some written
    by [] e = none written e
      where
        none : (w : WrittenLine) → written_fields w ≡ [] → written_of format (spaced []) ≡ Some written
        none (entity_line vertical id rank) e = cc
        none (gone_line id) e = cc
        none (edge_line type_name key target audience until) e = cc
        none (cut_line type_name key target) e = cc
        none publish_line e = cc
    by (field ∷ fields) e =
        ap (written_in format) (fields_of-spaced field fields (ap (list_all (list_all (is_other 32))) (sym e) ∙ solid format written is))
        ∙ ap (written_in format) (sym e) ∙ fields_given format written is

pub spelt : (format : ℕ) (line : List ℕ) (written : WrittenLine) → Spells format line written → written_of format line ≡ Some written
spelt format line written spell = ap (written_of format) spell.text ∙ text_given format written spell.form

-- what a line reads as, by what is read off it
answers : (schema : Declarations) (line : List ℕ) (written : Option WrittenLine) → written_of schema.format line ≡ written → ReadsAs schema line (answer schema written)
answers schema line None is = λ written spell. let read = spelt schema.format line written spell in absurd cc
answers schema line (Some written) is = by (line_meant schema written) refl
  where
    by : (meant : Option FeedLine) → line_meant schema written ≡ meant → ReadsAs schema line (known meant)
    by None e = (written, spells schema.format line written is, e)
    by (Some read) e = (written, spells schema.format line written is, e)

only : (schema : Declarations) (line : List ℕ) (read : Result FeedLine LineFault) → ReadsAs schema line read → feed_line_of schema line ≡ read
only schema line (Ok read) (written, spell, meant) = ap (answer schema) (spelt schema.format line written spell) ∙ ap known meant
only schema line (Err UnknownName) (written, spell, meant) = ap (answer schema) (spelt schema.format line written spell) ∙ ap known meant
only schema line (Err BadLine) none = by (written_of schema.format line) refl
  where
    by : (written : Option WrittenLine) → written_of schema.format line ≡ written → feed_line_of schema line ≡ Err BadLine
    by None is = ap (answer schema) is
    by (Some written) is = absurd (none written (spells schema.format line written is))

pub lines_by_text : LinesByText
lines_by_text = record {
  is = λ schema line read.
      (λ e. subst (ReadsAs schema line) e (answers schema line (written_of schema.format line) refl), only schema line read);
}

-- so what was read off a line is exactly that
pub exactly : (schema : Declarations) (line : List ℕ) (result : Result FeedLine LineFault) → result ≡ feed_line_of schema line
    → (read : Result FeedLine LineFault) → (result ≡ read) ↔ ReadsAs schema line read
exactly schema line result is read =
    let law = lines_by_text.is schema line read in
    (λ e. law.0 (sym is ∙ e), λ reads. is ∙ law.1 reads)
