-- What a header that opens declares is a schema.
use Rattle.std.proofs.Common.{◌≡◌, ℕ, ◌+◌, ◌<◌, ◌==◌, ◌&&◌, ◌||◌, not, nat_le, nat_lt, Bool, true, false, cond, if◌then◌else◌, List, [], ◌∷◌, length, Option, None, Some, is_some, is_none, unwrap_or, slice_get, refl, ap, sym, subst, ◌∙◌, arith}
use Rattle.std.specs.List.{position, prefix_len}
use Rattle.std.specs.Option.{option_map_or, option_and_then}
use Rattle.std.proofs.lemmas.Bool.{and_parts, and_from, or_parts, leb-false}
use Rattle.std.proofs.lemmas.List.{length-map}
use Rattle.uni_base.specs.Fields.{same, is_skipped}
use Rattle.uni_base.specs.Words.{is_name}
use Rattle.uni_schema.specs.Header.{HeaderState, opening, passed, Step, goes, refuses, step, step_by, judged, opens, after_step, opening_from, OpenedIsSchema}
use Rattle.uni_schema.specs.Lines.{declaration_of}
use Rattle.uni_schema.specs.Rules.{is_word_name, refused_if, vertical_rules, type_rules, deny_rules, may_deny, rules, is_written, type_told, declares}
use Rattle.uni_schema.specs.Schema.{Declarations, IsSchema, nothing, is_type, starts_below, starts_at_words, is_target_owner, is_index, vertical_no, type_no, type_at, denials, vertical_names, type_names}
use Rattle.uni_schema.specs.declared.line.HeaderLine.{HeaderLine}
use Rattle.uni_schema.specs.declared.line.HeaderLine.TheVariants.{Format, Vertical, EdgeType, Deny, Begin}
use Rattle.uni_schema.specs.declared.refusal.SchemaRefusal.{SchemaRefusal}
use Rattle.uni_schema.specs.declared.refusal.SchemaRefusal.TheVariants.{BadLine, NamedTwice, UnknownVertical, OutOfRange, WordSource, TooMany, BadDeny}
use Rattle.uni_schema.specs.declared.schema.Owner.{Owner}
use Rattle.uni_schema.specs.declared.schema.Store.{Store}
use Rattle.uni_schema.specs.declared.schema.TypeDef.{TypeDef}
use Rattle.uni_schema.specs.declared.schema.VerticalDef.{VerticalDef}
use Rattle.uni_schema.specs.declared.schema.Origin.TheVariants as origins
use Rattle.uni_schema.proofs.Added.{absent}
use Rattle.uni_schema.proofs.Schemas.{with_vertical-kept, with_type-kept, denying-kept, place-position}
use Rattle.uni_schema.proofs.Texts.{written_if}

-- a rule that refuses nothing passes on
unrefused : (test : Bool) (refusal : SchemaRefusal) (others : Option SchemaRefusal) → refused_if test refusal others ≡ None → (test ≡ false) × (others ≡ None)
unrefused true refusal others e = cc
unrefused false refusal others e = (refl, e)

untrue : (b : Bool) → not b ≡ false → b ≡ true
untrue true e = refl
untrue false e = cc

none_is : {X : Type 0} (o : Option X) → is_some o ≡ false → o ≡ None
none_is None e = refl
none_is (Some x) e = cc

some_is : {X : Type 0} (o : Option X) → is_none o ≡ false → (x : X) × (o ≡ Some x)
some_is None e = cc
some_is (Some x) e = (x, refl)

-- what has a position stands within
placed : {X : Type 0} (test : X → Bool) (xs : List X) (i : ℕ) → position test xs ≡ Some i → nat_lt i (length xs) ≡ true
placed test xs i e = by (nat_lt (prefix_len (λ x. not (test x)) xs) (length xs)) refl e
  where
    by : (found : Bool) → nat_lt (prefix_len (λ x. not (test x)) xs) (length xs) ≡ found → cond {A = Option ℕ} found (Some (prefix_len (λ x. not (test x)) xs)) None ≡ Some i → nat_lt i (length xs) ≡ true
    by true is e = let one : prefix_len (λ x. not (test x)) xs ≡ i = cc in subst (λ n. nat_lt n (length xs) ≡ true) one is
    by false is e = cc

-- a vertical that is found by its name is one of those declared
found_below : (s : Declarations) (name : List ℕ) (i : ℕ) → vertical_no s name ≡ Some i → nat_lt i (length s.verticals) ≡ true
found_below s name i e = subst (λ n. nat_lt i n ≡ true) (length-map s.verticals (λ (v : VerticalDef). v.name)) (placed (same name) (vertical_names s) i e)

format-kept : (s : Declarations) (n format : ℕ) (begun : Bool) → IsSchema s → rules n begun s (Format format) ≡ None → IsSchema (record s { format = format })
format-kept s n format begun kept e =
    let test = (unrefused (begun || not ((format == 1) || (format == 2))) (BadLine n) None e).0 in
    record {
      format = untrue _ (or_parts begun (not ((format == 1) || (format == 2))) test).1;
      few_verticals = kept.few_verticals;
      few_types = kept.few_types;
      few_denials = kept.few_denials;
      verticals = kept.verticals;
      types = kept.types;
      verticals_named = kept.verticals_named;
      types_named = kept.types_named;
      verticals_apart = kept.verticals_apart;
      types_apart = kept.types_apart;
    }

vertical-kept : (s : Declarations) (n : ℕ) (name : List ℕ) (shards replicas : ℕ) → IsSchema s → is_name name ≡ true → vertical_rules n s name shards replicas ≡ None
    → IsSchema (declares s (Vertical name shards replicas))
vertical-kept s n name shards replicas kept named e =
    let first = unrefused (is_word_name name || is_some (vertical_no s name)) (NamedTwice n) _ e in
    let second = unrefused (not (nat_le 1 shards && nat_le shards 64) || not (nat_le 1 replicas && nat_le replicas 4)) (OutOfRange n) _ first.1 in
    let third = unrefused (nat_le 16 (length s.verticals)) (TooMany n) None second.1 in
    let apart = or_parts (is_word_name name) (is_some (vertical_no s name)) first.0 in
    let ranges = or_parts (not (nat_le 1 shards && nat_le shards 64)) (not (nat_le 1 replicas && nat_le replicas 4)) second.0 in
    let new : VerticalDef = record { name = name; shards = shards; replicas = replicas } in
    let copies = and_parts (nat_le 1 replicas) (nat_le replicas 4) (untrue _ ranges.1) in
    with_vertical-kept s new kept (leb-false 16 (length s.verticals) third.0)
    (and_from _ _ (and_from _ _ (untrue _ ranges.0) copies.0) copies.1)
    (and_from _ _ named (ap not apart.0))
    (absent (same name) (vertical_names s) (none_is (vertical_no s name) apart.1))

-- a type that no rule refuses lies among the verticals
told_fits : (s : Declarations) (n : ℕ) (name source target : List ℕ) (owner : Owner) (store : Store) → type_rules n s name source target owner store ≡ None
    → is_type (length s.verticals) (type_told s name source target owner store) ≡ true
told_fits s n name source target owner store e =
    let first = unrefused (is_some (type_no s name)) (NamedTwice n) _ e in
    let second = unrefused (not (is_word_name source || is_some (vertical_no s source)) || is_none (vertical_no s target)) (UnknownVertical n) _ first.1 in
    let third = unrefused (is_word_name source && (not (is_target_owner owner) || not (is_index store))) (WordSource n) _ second.1 in
    let known = or_parts (not (is_word_name source || is_some (vertical_no s source))) (is_none (vertical_no s target)) second.0 in
    let to = some_is (vertical_no s target) known.1 in
    let below : nat_lt (unwrap_or (vertical_no s target) 0) (length s.verticals) ≡ true =
    ap (λ (o : Option ℕ). nat_lt (unwrap_or o 0) (length s.verticals)) to.1 ∙ found_below s target to.0 to.1 in
    by (is_word_name source) (vertical_no s source) refl (is_target_owner owner) (is_index store) (untrue _ known.0) third.0 below
  where
    by : (word : Bool) (from : Option ℕ) → vertical_no s source ≡ from → (o i : Bool) → (word || is_some from) ≡ true → (word && (not o || not i)) ≡ false
        → nat_lt (unwrap_or (vertical_no s target) 0) (length s.verticals) ≡ true
        → (starts_below (length s.verticals) (if word then origins.Words else origins.Vertical (unwrap_or from 0)) && nat_lt (unwrap_or (vertical_no s target) 0) (length s.verticals)
        && (not (starts_at_words (if word then origins.Words else origins.Vertical (unwrap_or from 0))) || (o && i)) && true) ≡ true
    by true from is true true known rule below = rw below refl
    by true from is true false known rule below = cc
    by true from is false i known rule below = cc
    by false None is o i known rule below = cc
    by false (Some k) is o i known rule below = rw (found_below s source k is, below) refl

type-kept : (s : Declarations) (n : ℕ) (name source target : List ℕ) (owner : Owner) (store : Store) → IsSchema s → is_name name ≡ true → type_rules n s name source target owner store ≡ None
    → IsSchema (declares s (EdgeType name source target owner store))
type-kept s n name source target owner store kept named e =
    let first = unrefused (is_some (type_no s name)) (NamedTwice n) _ e in
    let second = unrefused (not (is_word_name source || is_some (vertical_no s source)) || is_none (vertical_no s target)) (UnknownVertical n) _ first.1 in
    let third = unrefused (is_word_name source && (not (is_target_owner owner) || not (is_index store))) (WordSource n) _ second.1 in
    let fourth = unrefused (nat_le 256 (length s.types)) (TooMany n) None third.1 in
    with_type-kept s (type_told s name source target owner store) kept (leb-false 256 (length s.types) fourth.0) (told_fits s n name source target owner store e) refl named
    (absent (same name) (type_names s) (none_is (type_no s name) first.0))

deny-kept : (s : Declarations) (n : ℕ) (name : List ℕ) → IsSchema s → deny_rules n s name ≡ None → IsSchema (declares s (Deny name))
deny-kept s n name kept e =
    let first = unrefused (nat_le 8 (denials s.types)) (TooMany n) _ e in
    let second = unrefused (not (option_map_or may_deny (option_and_then (type_at s) (type_no s name)) false)) (BadDeny n) None first.1 in
    by (type_no s name) refl (untrue _ second.0) (leb-false 8 (denials s.types) first.0)
  where
    at : (k : ℕ) → type_no s name ≡ Some k → (found : Option TypeDef) → type_at s k ≡ found → option_map_or may_deny found false ≡ true → denials s.types < 8 → IsSchema (declares s (Deny name))
    at k is None there may room = cc
    at k is (Some t) there may room = denying-kept s name t kept room (ap (slice_get s.types) (place-position name (type_names s) k is) ∙ there) may

    by : (found : Option ℕ) → type_no s name ≡ found → option_map_or may_deny (option_and_then (type_at s) found) false ≡ true → denials s.types < 8 → IsSchema (declares s (Deny name))
    by None is may room = cc
    by (Some k) is may room = at k is (type_at s k) refl may room

-- what a line that no rule refuses declares
declares-kept : (s : Declarations) (n : ℕ) (begun : Bool) (said : HeaderLine) → IsSchema s → is_written said ≡ true → rules n begun s said ≡ None → IsSchema (declares s said)
declares-kept s n begun (Format format) kept written e = format-kept s n format begun kept e
declares-kept s n begun (Vertical name shards replicas) kept written e = vertical-kept s n name shards replicas kept written (unrefused (not begun) (BadLine n) _ e).1
declares-kept s n begun (EdgeType name source target owner store) kept written e = type-kept s n name source target owner store kept written (unrefused (not begun) (BadLine n) _ e).1
declares-kept s n begun (Deny name) kept written e = deny-kept s n name kept (unrefused (not begun) (BadLine n) _ e).1
declares-kept s n begun Begin kept written e = kept

-- what a step leads to
Keeps : Step → Type 0
Keeps (goes next) = IsSchema next.schema
Keeps (refuses refusal) = Unit {0}

said-keeps : (state : HeaderState) (line : List ℕ) (said : HeaderLine) → IsSchema state.schema → is_written said ≡ true → Keeps (step_by state (Some said))
unfolding Keeps
said-keeps state line said kept written = by (rules (state.taken + 1) state.begun state.schema said) refl
  where
    by : (rule : Option SchemaRefusal) → rules (state.taken + 1) state.begun state.schema said ≡ rule → Keeps (judged state said rule)
    by None is = declares-kept state.schema (state.taken + 1) state.begun said kept written is
    by (Some refusal) is = tt

step-keeps : (state : HeaderState) (line : List ℕ) → IsSchema state.schema → Keeps (step state line)
unfolding Keeps
step-keeps state line kept = by (is_skipped line) (nat_le (length line) state.longest) (declaration_of line) refl
  where
    by : (skip short : Bool) (said : Option HeaderLine) → declaration_of line ≡ said → Keeps (if skip then goes (passed state) else step_by state (if short then said else None))
    by true short said is = kept
    by false false said is = tt
    by false true None is = tt
    by false true (Some said) is = said-keeps state line said kept (written_if line (Some said) (sym is))

opened : (state : HeaderState) (lines : List (List ℕ)) (schema : Declarations) (number : ℕ) (rest : List (List ℕ)) → IsSchema state.schema
    → opening_from state lines ≡ opens schema number rest → IsSchema schema
unfolding Keeps
opened state [] schema number rest kept e = cc
opened state (line ∷ lines) schema number rest kept e = by (step state line) (step-keeps state line kept) (λ next is. opened next lines schema number rest is) e
  where
    by : (made : Step) → Keeps made → ((next : HeaderState) → IsSchema next.schema → opening_from next lines ≡ opens schema number rest → IsSchema schema)
        → after_step lines (λ next. opening_from next lines) made ≡ opens schema number rest → IsSchema schema
    by (refuses refusal) keeps later e = cc
    by (goes next) keeps later e = over next.ended e
      where
        over : (ended : Bool) → elim ended [ true ↦ opens next.schema (next.taken + 1) lines | false ↦ opening_from next lines ] ≡ opens schema number rest → IsSchema schema
        over true e = let one : next.schema ≡ schema = cc in subst IsSchema one keeps
        over false e = later next keeps e

nothing-kept : IsSchema nothing
nothing-kept = record {
  format = refl;
  few_verticals = omega arith;
  few_types = omega arith;
  few_denials = omega arith;
  verticals = refl;
  types = refl;
  verticals_named = refl;
  types_named = refl;
  verticals_apart = refl;
  types_apart = refl;
}

pub opened_is_schema : OpenedIsSchema
opened_is_schema = record { is = λ longest lines schema number rest e. opened (opening longest) lines schema number rest nothing-kept e }
