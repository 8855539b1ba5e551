-- What a parse gives for one argument that takes a value and has an entry: its first value, which passed its parser.
use Rattle.std.proofs.Common.{◌≡◌, ◌∙◌, ◌<◌, ◌≤◌, ℕ, zero, suc, Bool, true, false, cond, List, [], ◌∷◌, length, Option, Some, None, is_some, refl, sym, ap, subst, inl, inr, arith}
use Rattle.std.specs.Prelude.{find, option_map}
use Rattle.std.specs.List.{All, slice_index_or}
use Rattle.std.specs.Str.{bytes_eq}
use Rattle.std.specs.Borrow.{Bor}
use Rattle.std.proofs.lemmas.List.Elements.{All-get_or}
use Rattle.std.proofs.lemmas.Slice.Eq.{bytes_eq-Decides}
use Rattle.clap.specs.Built.{IsAuto, IsParsedFrom, IsPlain, SameRules}
use Rattle.clap.specs.Facts.{Entry, EntryPasses, args_of, least_values, parser_of, parser_of_value}
use Rattle.clap.specs.Values.{Accepts, read_as, reading_of}
use Rattle.clap.specs.Matches.{first_value, found_of, matched_of, one_text}
use Rattle.clap.specs.Walk.{Text}
use Rattle.clap.proofs.CallerLemmas.{entry_by_id, same_rules_by_id}
use Rattle.clap.specs.declared.builder.action.ArgAction.TheVariants.{Count, Set}
use Rattle.clap.specs.declared.builder.arg.Arg.{Arg}
use Rattle.clap.specs.declared.builder.command.Command.{Command}
use Rattle.clap.specs.declared.builder.command.Command.TheViews.{out-Command}
use Rattle.clap.specs.declared.builder.value_parser.ValueParser.{ValueParser}
use Rattle.clap.specs.declared.parser.matches.ArgMatches.{ArgMatches}
use Rattle.clap.specs.declared.parser.matches.Found.{Found}
use Rattle.clap.specs.declared.parser.matches.MatchedArg.{MatchedArg}

-- some entry has this id, so there is a first one
pub has_entry : (xs : List Entry) (id : Text) (i : ℕ) → i < length xs → ((d : Entry) → bytes_eq (slice_index_or xs i d).0.now id ≡ true)
    → is_some (option_map (λ (e : Entry). e.1) (find (λ (e : Entry). bytes_eq e.0.now id) xs)) ≡ true
has_entry [] id i lt at = absurd (omega arith)
has_entry (x ∷ xs) id zero lt at = ap (λ t. is_some (option_map (λ (e : Entry). e.1) (cond t (Some x) (find (λ (e : Entry). bytes_eq e.0.now id) xs)))) (at x)
has_entry (x ∷ xs) id (suc i) lt at = go (bytes_eq x.0.now id) (has_entry xs id i (omega arith) at)
  where
    go : (t : Bool) → is_some (option_map (λ (e : Entry). e.1) (find (λ (e : Entry). bytes_eq e.0.now id) xs)) ≡ true
        → is_some (option_map (λ (e : Entry). e.1) (cond t (Some x) (find (λ (e : Entry). bytes_eq e.0.now id) xs))) ≡ true
    go true rest = refl
    go false rest = rest

-- what is given for an id: a text that passed the parser, read as the parser says
abbrev pub IsGiven : Found → Text → Bool → ValueParser → Type 0
IsGiven f id ignore_case q =
    (t : Text) × (first_value f id ≡ Some t) × (one_text f id ≡ Some (read_as (reading_of q) t)) × Accepts ignore_case q t

first_given : (f : Found) (id : Text) (ignore_case : Bool) (q : ValueParser) (x : MatchedArg) → matched_of f id ≡ Some x → x.reading ≡ reading_of q
    → (vs : List (Bor Text)) → x.vals.items ≡ vs → 0 < length vs → All (λ (v : Bor Text). Accepts ignore_case q v.now) vs → IsGiven f id ignore_case q
first_given f id ignore_case q x found read [] is lt all = absurd (omega arith)
first_given f id ignore_case q x found read (v ∷ vs) is lt all =
    (v.now, rw (found, is) refl, rw (found, is, read) refl, All-get_or (λ (w : Bor Text). Accepts ignore_case q w.now) (v ∷ vs) 0 v (omega arith) all)

-- an argument of the command that takes a value by a parser, where no other has its id
pub record TakesBy (old : Command) (k : ℕ) (d : Arg) (q : ValueParser) : Type 0 where
  pub within : k < length (args_of old)
  pub set : (slice_index_or (args_of old) k d).action ≡ Some Set
  pub delimiter : (slice_index_or (args_of old) k d).val_delim ≡ None
  pub least : 1 ≤ least_values (slice_index_or (args_of old) k d)
  pub unique : (j : ℕ) (e : Arg) → j < length (args_of old)
      → bytes_eq (slice_index_or (args_of old) j e).id.now (slice_index_or (args_of old) k d).id.now ≡ true → j ≡ k
  pub named : (slice_index_or (args_of old) k d).id.now ≡ [] → ⊥
  pub own : IsAuto (slice_index_or (args_of old) k d) → ⊥
  pub parser : (slice_index_or (args_of old) k d).value_parser ≡ Some q

module _ (old : Command) (m : ArgMatches) (p : IsParsedFrom old m) (plain : IsPlain old) (k : ℕ) (d : Arg) (q : ValueParser) (takes : TakesBy old k d q) where
  abbrev arg : Arg
  arg = slice_index_or (args_of old) k d

  -- the argument of the built command with the id of an entry of ours
  rules_at : (id : Text) → id ≡ arg.id.now → (j : ℕ) (x : Arg) → j < length (args_of p.built) → slice_index_or (args_of p.built) j x ≡ x
      → bytes_eq x.id.now id ≡ true → SameRules arg x
  rules_at id is j x high at same =
      same_rules_by_id old m p k d takes.within takes.unique takes.own j x high at (subst (λ (w : Text). bytes_eq x.id.now w ≡ true) is same)

  module _ (e : Entry) (key : e.0.now ≡ arg.id.now) (pass : EntryPasses p.built e) where
    no_group : e.1.is_group ≡ true → ⊥
    no_group g = elim (pass.3 g) [
      | inl empty ↦ takes.named (sym key ∙ empty)
      | inr lots ↦
          let bad : 0 < 0 = subst (λ (l : List _). 0 < length l) (p.from.plain plain).1 lots in
          absurd (omega arith)
    ]

    filled : 0 < length e.1.vals.items
    filled = elim pass.1 [
      | inl g ↦ absurd (no_group g.0)
      | inr (inl v) ↦ v
      | inr (inr (inl h)) ↦
          let any = h.1 in
          let s = rules_at e.0.now key any.0 any.1 any.2 any.3 any.4.0 in
          let is_set : any.1.action ≡ Some Set = s.action Set takes.set in
          let bad : Set ≡ Count = rw is_set at any.4.1 in
          cc
      | inr (inr (inr h)) ↦
          let s = rules_at e.0.now key h.0 h.1 h.2 h.3 h.4.0 in
          elim h.4.1 [
            | inl none ↦
                let one = s.least takes.set takes.least in
                absurd (omega arith)
            | inr has ↦
                let bad : false ≡ true = rw (s.val_delim, takes.delimiter) at has in
                cc
          ]
    ]

    passes : All (λ (v : Bor Text). Accepts arg.ignore_case q v.now) e.1.vals.items
    passes = elim pass.0 [
      | inl g ↦ absurd (no_group g)
      | inr all ↦ λ i v lt.
          let any = all i v lt in
          let s = rules_at e.0.now key any.0 any.1 any.2 any.3 any.4.0 in
          let is_q : parser_of any.1 ≡ q = ap parser_of_value (s.parser q takes.parser) in
          let as_q = subst (λ (w : ValueParser). Accepts any.1.ignore_case w (slice_index_or e.1.vals.items i v).now) is_q any.4.1 in
          subst (λ (b : Bool). Accepts b q (slice_index_or e.1.vals.items i v).now) s.ignore_case as_q
    ]

    read : e.1.reading ≡ reading_of q
    read = elim pass.4 [
      | inl g ↦ absurd (no_group g)
      | inr any ↦
          let s = rules_at e.0.now key any.0 any.1 any.2 any.3 any.4.0 in
          let is_q : parser_of any.1 ≡ q = ap parser_of_value (s.parser q takes.parser) in
          sym any.4.1 ∙ ap reading_of is_q
    ]

  pub is_given : (out-Command old).has_globals ≡ false → is_some (matched_of (found_of m) arg.id.now) ≡ true
      → IsGiven (found_of m) arg.id.now arg.ignore_case q
  is_given globals has = go (matched_of (found_of m) arg.id.now) refl has
    where
      step : (x : MatchedArg) → matched_of (found_of m) arg.id.now ≡ Some x
          → ((e : Entry) × (e.1 ≡ x) × (bytes_eq e.0.now arg.id.now ≡ true) × EntryPasses p.built e) → IsGiven (found_of m) arg.id.now arg.ignore_case q
      step x found got =
          let key = (bytes_eq-Decides got.0.0.now arg.id.now).0 got.2 in
          first_given (found_of m) arg.id.now arg.ignore_case q got.0.1 (found ∙ ap (λ (y : MatchedArg). Some y) (sym got.1)) (read got.0 key got.3)
          got.0.1.vals.items refl (filled got.0 key got.3) (passes got.0 key got.3)

      go : (o : Option MatchedArg) → matched_of (found_of m) arg.id.now ≡ o → is_some (matched_of (found_of m) arg.id.now) ≡ true
          → IsGiven (found_of m) arg.id.now arg.ignore_case q
      go None is h =
          let bad : false ≡ true = rw is at h in
          cc
      go (Some x) is h =
          step x is (entry_by_id (EntryPasses p.built) (found_of m).entries.items arg.id.now x (p.parsed (p.from.globals ∙ globals)).values is)
