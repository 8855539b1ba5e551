-- Lines by their texts.
use Rattle.std.proofs.Common.{◌≡◌, ℕ, ◌==◌, ◌||◌, ◌&&◌, nat_le, length, Bool, true, false, not, List, [], ◌∷◌, ◌++◌, Option, None, Some, refl, sym, ◌∙◌, ap, subst, arith}
use Rattle.std.specs.Prelude.{if◌then◌else◌, unwrap_or}
use Rattle.std.specs.List.{list_all}
use Rattle.std.specs.Option.{option_map, option_and_then}
use Rattle.std.specs.Cmp.Derive.{both_true}
use Rattle.std.specs.Str.Parse.{digits_value}
use Rattle.std.proofs.lemmas.Bool.{and_parts, or_parts}
use Rattle.std.proofs.lemmas.Bool.Decides.{nat_tests}
use Rattle.uni_base.proofs.FieldLemmas.{spaced-fields_of, fields_of-spaced}
use Rattle.uni_base.specs.Fields.{cut_at, fields_of, spaced}
use Rattle.uni_base.specs.Numbers.{number_of, is_number, starts_with_zero}
use Rattle.uni_base.specs.Words.{is_digit, is_name}
use Rattle.feed_reader.proofs.Parts.{name_given, name_read, name_solid}
use Rattle.uni_schema.specs.Lines.{name_of}
use Rattle.script_rounds.specs.declared.compact.WrittenStack.{WrittenStack}
use Rattle.script_rounds.specs.Asks.{first_field}
use Rattle.script_rounds.specs.Compacts.{stack_of}
use Rattle.script_rounds.specs.Laws.{has_space, PartsByText, StacksByText, Writes}
use Rattle.script_rounds.proofs.Asked.{parts_of-cut}

-- a text is cut at its first space
cut_at-space : (front rest : List ℕ) → has_space front ≡ false → cut_at 32 (front ++ 32 ∷ rest) ≡ Some (front, rest)
cut_at-space [] rest none = refl
cut_at-space (c ∷ front) rest none =
    let parts = or_parts (c == 32) (has_space front) none in
    ap (λ b. if b then Some ([], front ++ 32 ∷ rest) else option_map (λ (p : List ℕ × List ℕ). (c ∷ p.0, p.1)) (cut_at 32 (front ++ 32 ∷ rest))) parts.0
    ∙ ap (option_map (λ (p : List ℕ × List ℕ). (c ∷ p.0, p.1))) (cut_at-space front rest parts.1)

-- or not at all
cut_at-none : (text : List ℕ) → has_space text ≡ false → cut_at 32 text ≡ None
cut_at-none [] none = refl
cut_at-none (c ∷ text) none =
    let parts = or_parts (c == 32) (has_space text) none in
    ap (λ b. if b then Some ([], text) else option_map (λ (p : List ℕ × List ℕ). (c ∷ p.0, p.1)) (cut_at 32 text)) parts.0
    ∙ ap (option_map (λ (p : List ℕ × List ℕ). (c ∷ p.0, p.1))) (cut_at-none text parts.1)

first_field-space : (front rest : List ℕ) → has_space front ≡ false → (front, rest) ≡ first_field (front ++ 32 ∷ rest)
first_field-space front rest none = sym (ap (λ o. unwrap_or o (front ++ 32 ∷ rest, [])) (cut_at-space front rest none))

first_field-none : (text : List ℕ) → has_space text ≡ false → (text, []) ≡ first_field text
first_field-none text none = sym (ap (λ o. unwrap_or o (text, [])) (cut_at-none text none))

pub parts_by_text : PartsByText
parts_by_text = record {
  four = λ viewer session limit query a b c.
      parts_of-cut (viewer ++ 32 ∷ (session ++ 32 ∷ (limit ++ 32 ∷ query))) viewer session limit query (session ++ 32 ∷ (limit ++ 32 ∷ query)) (limit ++ 32 ∷ query)
      (first_field-space viewer (session ++ 32 ∷ (limit ++ 32 ∷ query)) a) (first_field-space session (limit ++ 32 ∷ query) b) (first_field-space limit query c);
  three = λ viewer session limit a b c.
      parts_of-cut (viewer ++ 32 ∷ (session ++ 32 ∷ limit)) viewer session limit [] (session ++ 32 ∷ limit) limit
      (first_field-space viewer (session ++ 32 ∷ limit) a) (first_field-space session limit b) (first_field-none limit c);
  two = λ viewer session a b.
      parts_of-cut (viewer ++ 32 ∷ session) viewer session [] [] session [] (first_field-space viewer session a) (first_field-none session b) refl;
  one = λ viewer a. parts_of-cut viewer viewer [] [] [] [] [] (first_field-none viewer a) refl refl;
}

stack_read : (fields : List (List ℕ)) (stack : WrittenStack) → stack_of fields ≡ Some stack
    → (shard : List ℕ) × ((replica : List ℕ) × ((fields ≡ stack.vertical ∷ shard ∷ replica ∷ []) × (is_name stack.vertical ≡ true) × (number_of shard ≡ Some stack.shard) × (number_of replica ≡ Some stack.replica)))
stack_read [] stack e = cc
stack_read (a ∷ []) stack e = cc
stack_read (a ∷ b ∷ []) stack e = cc
stack_read (a ∷ b ∷ c ∷ []) stack e = by (name_of a) (number_of b) (number_of c) refl refl refl e
  where
    by : (v : Option (List ℕ)) (s r : Option ℕ) → name_of a ≡ v → number_of b ≡ s → number_of c ≡ r
        → option_and_then (λ v. option_and_then (λ s. option_map (λ r. let built : WrittenStack = record { vertical = v; shard = s; replica = r } in built) r) s) v ≡ Some stack
        → (shard : List ℕ) × ((replica : List ℕ) × ((a ∷ b ∷ c ∷ [] ≡ stack.vertical ∷ shard ∷ replica ∷ []) × (is_name stack.vertical ≡ true) × (number_of shard ≡ Some stack.shard) × (number_of replica ≡ Some stack.replica)))
    by None s r is-v is-s is-r e = cc
    by (Some v) None r is-v is-s is-r e = cc
    by (Some v) (Some s) None is-v is-s is-r e = cc
    by (Some v) (Some s) (Some r) is-v is-s is-r e =
        let built : WrittenStack = record { vertical = v; shard = s; replica = r } in
        let same : built ≡ stack = cc in
        let named = name_read a v is-v in (
          b,
          (
            c,
            (
              ap (λ x. x ∷ b ∷ c ∷ []) (named.0 ∙ ap (λ (w : WrittenStack). w.vertical) same),
              subst (λ (w : WrittenStack). is_name w.vertical ≡ true) same named.1,
              is-s ∙ ap (λ (w : WrittenStack). Some w.shard) same,
              is-r ∙ ap (λ (w : WrittenStack). Some w.replica) same,
            ),
          ),
        )
stack_read (a ∷ b ∷ c ∷ d ∷ fields) stack e = cc

stack_given : (v s r : List ℕ) (stack : WrittenStack) → v ≡ stack.vertical → is_name stack.vertical ≡ true → number_of s ≡ Some stack.shard → number_of r ≡ Some stack.replica
    → stack_of (v ∷ s ∷ r ∷ []) ≡ Some stack
stack_given v s r stack is named shard replica =
    let name : name_of v ≡ Some stack.vertical = ap name_of is ∙ name_given stack.vertical named in
    rw (name, shard, replica) refl

-- digits are no spaces
digits_solid : (text : List ℕ) → list_all is_digit text ≡ true → list_all (λ c. not (c == 32)) text ≡ true
digits_solid [] digits = refl
digits_solid (c ∷ text) digits =
    let parts = and_parts (is_digit c) (list_all is_digit text) digits in
    rw (no_space c parts.0) (digits_solid text parts.1)
  where
    no_space : (c : ℕ) → is_digit c ≡ true → not (c == 32) ≡ true
    no_space c digit = grind (arith, nat_tests)

numeral_solid : (text : List ℕ) (n : ℕ) → number_of text ≡ Some n → list_all (λ c. not (c == 32)) text ≡ true
numeral_solid text n is = by (is_number text) refl is
  where
    by : (test : Bool) → is_number text ≡ test → (if test then Some (digits_value 10 text) else None) ≡ Some n → list_all (λ c. not (c == 32)) text ≡ true
    by true is e =
        let front = (and_parts (nat_le 1 (length text) && nat_le (length text) 20 && list_all is_digit text) (not (starts_with_zero text) || (length text == 1)) is).0 in
        digits_solid text (and_parts (nat_le 1 (length text) && nat_le (length text) 20) (list_all is_digit text) front).1
    by false is e = cc

pub stacks_by_text : StacksByText
stacks_by_text = record {
  is = λ text stack. (
    (λ e.
        let read = stack_read (fields_of text) stack e in
        let w : Writes text stack = record {
          shard = read.0;
          replica = read.1.0;
          is = sym (spaced-fields_of text) ∙ ap spaced read.1.1.0;
          name = read.1.1.1;
          shards = read.1.1.2;
          replicas = read.1.1.3;
        } in w),
    (λ (w : Writes text stack).
        ap (λ t. stack_of (fields_of t)) w.is
        ∙ ap stack_of (fields_of-spaced stack.vertical (w.shard ∷ w.replica ∷ [])
        (both_true (name_solid stack.vertical w.name) (both_true (numeral_solid w.shard stack.shard w.shards) (both_true (numeral_solid w.replica stack.replica w.replicas) refl))))
        ∙ stack_given stack.vertical w.shard w.replica stack refl w.name w.shards w.replicas),
  );
}
