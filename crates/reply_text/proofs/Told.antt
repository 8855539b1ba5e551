-- The text of answers tells what their first lines say.
use Rattle.std.proofs.Common.{◌≡◌, ℕ, ◌+◌, ◌<◌, ◌^◌, ◌==◌, not, true, if◌then◌else◌, List, [], ◌∷◌, length, map, filter, codes, get_or, refl, sym, ap, ◌∙◌, arith}
use Rattle.std.proofs.lemmas.Bool.Decides.{nat_tests}
use Rattle.std.proofs.lemmas.List.Elements.{recursion_from_All}
use Rattle.std.specs.Fmt.{decimal}
use Rattle.std.specs.List.{All, AllByRecursion, prefix_len}
use Rattle.uni_base.specs.Fields.{same, fields_of}
use Rattle.uni_base.specs.Words.{is_digit}
use Rattle.uni_base.proofs.FieldLemmas.{fields_of-spaced}
use Rattle.uni_schema.specs.Schema.{Declarations, IsSchema}
use Rattle.uni_schema.specs.Print.{vertical_name}
use Rattle.reply_text.specs.declared.answer.Answer.{Answer}
use Rattle.reply_text.specs.declared.answer.Answer.TheVariants.{Published, Reply, Compacted, Stats, Refused, Fault, QueryFault, Memory, Tidied, Untidied}
use Rattle.reply_text.specs.FirstWords.{first_words, head_words}
use Rattle.reply_text.specs.Heads.{Head, published, replied, compacted, counted, refused, fault, query_fault, lacking, tidied, untidied, head_of, head_fields, head_line}
use Rattle.reply_text.specs.Laws.{is_head_line, numbers_of, HeadsByText}
use Rattle.reply_text.specs.Printed.{lines_of_answers, AnswerIsDeclared}
use Rattle.reply_text.proofs.Decimals.{decimal_tells}
use Rattle.reply_text.proofs.Leading.{heads_kept}
use Rattle.reply_text.proofs.Names.{is_solid, all_pass, solid-vertical, vertical_told}
use Rattle.uni_base.proofs.LineLaws.{all_digits-decimal}
use Rattle.reply_text.proofs.Texts.{cons_parts, same_lines}

digit-solid : (c : ℕ) → is_digit c ≡ true → not (c == 32) ≡ true
digit-solid c digit = grind (arith, nat_tests)

solid-decimal : (n : ℕ) → is_solid (decimal n) ≡ true
solid-decimal n = all_pass is_digit (λ c. not (c == 32)) digit-solid (decimal n) (all_digits-decimal n)

number_told : (n m : ℕ) → n < 2 ^ 64 → decimal n ≡ decimal m → n ≡ m
number_told n m small e = sym (decimal_tells m n small (sym e))

-- the place of a line's first word among those of heads, and ten more where three fields follow it
abbrev kind_in : List (List ℕ) → ℕ
kind_in [] = 99
kind_in (word ∷ fields) = prefix_len (λ w. not (same word w)) head_words + (if length fields == 3 then 10 else 0)

abbrev kind_of : Head → ℕ
kind_of (published line number) = 0
kind_of (replied line number count) = 1
kind_of (compacted line number) = 2
kind_of (counted line number count) = 3
kind_of (refused line code) = 4
kind_of (fault line code) = 5
kind_of (query_fault line code column) = 15
kind_of (lacking line) = 6
kind_of (tidied vertical shard replica number) = 7
kind_of (untidied vertical shard replica) = 18

kind_told : (schema : Declarations) (head : Head) → kind_in (head_fields schema head) ≡ kind_of head
kind_told schema (published line number) = refl
kind_told schema (replied line number count) = refl
kind_told schema (compacted line number) = refl
kind_told schema (counted line number count) = refl
kind_told schema (refused line code) = refl
kind_told schema (fault line code) = refl
kind_told schema (query_fault line code column) = refl
kind_told schema (lacking line) = refl
kind_told schema (tidied vertical shard replica number) = refl
kind_told schema (untidied vertical shard replica) = refl

-- a field of a line
abbrev field : ℕ → List (List ℕ) → List ℕ
field place fields = get_or fields place []

-- the numbers of a head, one by one
abbrev IsSmall : Head → Type 0
IsSmall head = AllByRecursion (λ n. n < 2 ^ 64) (numbers_of head)

-- the vertical of a head is declared
abbrev IsPlaced : Declarations → Head → Type 0
IsPlaced schema (tidied vertical shard replica number) = vertical < length schema.verticals
IsPlaced schema (untidied vertical shard replica) = vertical < length schema.verticals
IsPlaced schema head = Unit {0}

module _ (schema : Declarations) (is : IsSchema schema) where
  -- the fields of the line of a head are read off it
  fields_again : (head : Head) → fields_of (head_line schema head) ≡ head_fields schema head
  fields_again (published line number) = fields_of-spaced first_words.published (decimal line ∷ decimal number ∷ []) (rw (solid-decimal line, solid-decimal number) refl)
  fields_again (replied line number count) =
      fields_of-spaced first_words.reply (decimal line ∷ codes "at" ∷ decimal number ∷ codes "hits" ∷ decimal count ∷ []) (rw (solid-decimal line, solid-decimal number, solid-decimal count) refl)
  fields_again (compacted line number) = fields_of-spaced first_words.compacted (decimal line ∷ decimal number ∷ []) (rw (solid-decimal line, solid-decimal number) refl)
  fields_again (counted line number count) =
      fields_of-spaced first_words.stats (decimal line ∷ codes "at" ∷ decimal number ∷ codes "stacks" ∷ decimal count ∷ []) (rw (solid-decimal line, solid-decimal number, solid-decimal count) refl)
  fields_again (refused line code) = fields_of-spaced first_words.refused (decimal line ∷ decimal code ∷ []) (rw (solid-decimal line, solid-decimal code) refl)
  fields_again (fault line code) = fields_of-spaced first_words.error (decimal line ∷ decimal code ∷ []) (rw (solid-decimal line, solid-decimal code) refl)
  fields_again (query_fault line code column) =
      fields_of-spaced first_words.error (decimal line ∷ decimal code ∷ decimal column ∷ []) (rw (solid-decimal line, solid-decimal code, solid-decimal column) refl)
  fields_again (lacking line) = fields_of-spaced first_words.memory (decimal line ∷ []) (rw (solid-decimal line) refl)
  fields_again (tidied vertical shard replica number) =
      fields_of-spaced first_words.tidied (vertical_name schema vertical ∷ decimal shard ∷ decimal replica ∷ decimal number ∷ [])
      (rw (solid-vertical schema is vertical, solid-decimal shard, solid-decimal replica, solid-decimal number) refl)
  fields_again (untidied vertical shard replica) =
      fields_of-spaced first_words.untidied (vertical_name schema vertical ∷ decimal shard ∷ decimal replica ∷ [])
      (rw (solid-vertical schema is vertical, solid-decimal shard, solid-decimal replica) refl)

  -- and they tell the head
  fields_tell : (head other : Head) → IsSmall head → IsPlaced schema head → IsPlaced schema other → kind_of head ≡ kind_of other → head_fields schema head ≡ head_fields schema other → head ≡ other
  fields_tell (published line number) (published line' number') small placed also kind e =
      cc (number_told line line' small.0 (ap (field 1) e), number_told number number' small.1.0 (ap (field 2) e))
  fields_tell (published line number) other small placed also kind e = absurd (omega (arith, kind))
  fields_tell (replied line number count) (replied line' number' count') small placed also kind e =
      cc (number_told line line' small.0 (ap (field 1) e), number_told number number' small.1.0 (ap (field 3) e), number_told count count' small.1.1.0 (ap (field 5) e))
  fields_tell (replied line number count) other small placed also kind e = absurd (omega (arith, kind))
  fields_tell (compacted line number) (compacted line' number') small placed also kind e =
      cc (number_told line line' small.0 (ap (field 1) e), number_told number number' small.1.0 (ap (field 2) e))
  fields_tell (compacted line number) other small placed also kind e = absurd (omega (arith, kind))
  fields_tell (counted line number count) (counted line' number' count') small placed also kind e =
      cc (number_told line line' small.0 (ap (field 1) e), number_told number number' small.1.0 (ap (field 3) e), number_told count count' small.1.1.0 (ap (field 5) e))
  fields_tell (counted line number count) other small placed also kind e = absurd (omega (arith, kind))
  fields_tell (refused line code) (refused line' code') small placed also kind e =
      cc (number_told line line' small.0 (ap (field 1) e), number_told code code' small.1.0 (ap (field 2) e))
  fields_tell (refused line code) other small placed also kind e = absurd (omega (arith, kind))
  fields_tell (fault line code) (fault line' code') small placed also kind e =
      cc (number_told line line' small.0 (ap (field 1) e), number_told code code' small.1.0 (ap (field 2) e))
  fields_tell (fault line code) other small placed also kind e = absurd (omega (arith, kind))
  fields_tell (query_fault line code column) (query_fault line' code' column') small placed also kind e =
      cc (number_told line line' small.0 (ap (field 1) e), number_told code code' small.1.0 (ap (field 2) e), number_told column column' small.1.1.0 (ap (field 3) e))
  fields_tell (query_fault line code column) other small placed also kind e = absurd (omega (arith, kind))
  fields_tell (lacking line) (lacking line') small placed also kind e = cc (number_told line line' small.0 (ap (field 1) e))
  fields_tell (lacking line) other small placed also kind e = absurd (omega (arith, kind))
  fields_tell (tidied vertical shard replica number) (tidied vertical' shard' replica' number') small placed also kind e =
      cc (
        vertical_told schema is vertical vertical' placed also (ap (field 1) e),
        number_told shard shard' small.0 (ap (field 2) e),
        number_told replica replica' small.1.0 (ap (field 3) e),
        number_told number number' small.1.1.0 (ap (field 4) e),
      )
  fields_tell (tidied vertical shard replica number) other small placed also kind e = absurd (omega (arith, kind))
  fields_tell (untidied vertical shard replica) (untidied vertical' shard' replica') small placed also kind e =
      cc (
        vertical_told schema is vertical vertical' placed also (ap (field 1) e),
        number_told shard shard' small.0 (ap (field 2) e),
        number_told replica replica' small.1.0 (ap (field 3) e),
      )
  fields_tell (untidied vertical shard replica) other small placed also kind e = absurd (omega (arith, kind))

  head_told : (head other : Head) → IsSmall head → IsPlaced schema head → IsPlaced schema other → head_line schema head ≡ head_line schema other → head ≡ other
  head_told head other small placed also e =
      let fields : head_fields schema head ≡ head_fields schema other = sym (fields_again head) ∙ ap fields_of e ∙ fields_again other in
      fields_tell head other small placed also (sym (kind_told schema head) ∙ ap kind_in fields ∙ kind_told schema other) fields

  placed : (answer : Answer) → AnswerIsDeclared schema answer → IsPlaced schema (head_of answer)
  placed (Published line number) declared = tt
  placed (Reply line reply) declared = tt
  placed (Compacted line number) declared = tt
  placed (Stats line publishes stacks) declared = tt
  placed (Refused line code) declared = tt
  placed (Fault line code) declared = tt
  placed (QueryFault line code column) declared = tt
  placed (Memory line) declared = tt
  placed (Tidied vertical shard replica number) declared = declared
  placed (Untidied vertical shard replica) declared = declared

  abbrev lead : Answer → List ℕ
  lead answer = head_line schema (head_of answer)

  heads_told : (answers others : List Answer) → AllByRecursion (AnswerIsDeclared schema) answers → AllByRecursion (AnswerIsDeclared schema) others
      → AllByRecursion (λ answer. All (λ n. n < 2 ^ 64) (numbers_of (head_of answer))) answers → map lead answers ≡ map lead others → map head_of answers ≡ map head_of others
  heads_told [] [] declared also small e = refl
  heads_told [] (other ∷ others) declared also small e = cc
  heads_told (answer ∷ answers) [] declared also small e = cc
  heads_told (answer ∷ answers) (other ∷ others) declared also small e =
      let parts = cons_parts (lead answer) (lead other) (map lead answers) (map lead others) e in
      let first = head_told (head_of answer) (head_of other) (recursion_from_All (λ n. n < 2 ^ 64) (numbers_of (head_of answer)) small.0) (placed answer declared.0) (placed other also.0) parts.0 in
      let rest = heads_told answers others declared.1 also.1 small.1 parts.1 in
      cc (first, rest)

pub heads_by_text : HeadsByText
heads_by_text = record {
  same = λ schema answers others is declared also unbroken so small e.
      let lines = same_lines (lines_of_answers schema answers) (lines_of_answers schema others) unbroken so e in
      heads_told schema is answers others
      (recursion_from_All (AnswerIsDeclared schema) answers declared)
      (recursion_from_All (AnswerIsDeclared schema) others also)
      (recursion_from_All (λ answer. All (λ n. n < 2 ^ 64) (numbers_of (head_of answer))) answers small)
      (sym (heads_kept schema answers) ∙ ap (filter is_head_line) lines ∙ heads_kept schema others);
}
