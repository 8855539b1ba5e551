-- What a parse by the command finds: a mode, and a number in the range of each option.
use Rattle.std.proofs.Common.{cond, ◌==◌, ◌≡◌, ◌∙◌, ◌<◌, ◌≤◌, ◌||◌, ◌^◌, ℕ, zero, suc, Bool, true, false, List, [], ◌∷◌, length, map, Option, Some, None, is_some, refl, sym, ap, subst, inl, inr, arith, codes, slice_index}
use Rattle.std.specs.Prelude.{MatchOption, Ok, Result, option_map, pos, unwrap_or}
use Rattle.std.specs.List.{All, list_all, list_any, slice_index_or}
use Rattle.std.specs.Str.{bytes_eq}
use Rattle.std.specs.Str.Parse.{ParsesUnsigned, digits_value, without_leading_plus}
use Rattle.std.specs.Borrow.{Bor}
use Rattle.std.proofs.lemmas.Int.{ints}
use Rattle.std.proofs.lemmas.List.{get_or-map, length-map}
use Rattle.std.proofs.lemmas.Slice.Eq.{bytes_eq-Decides}
use Rattle.clap.specs.Built.{IsParsedFrom, IsPlain}
use Rattle.clap.specs.Facts.{WantsDefault, args_of, unwrap_or_range}
use Rattle.clap.specs.Lexer.{without_minus}
use Rattle.clap.specs.Matches.{ReadsOne, first_value, found_of, one_text}
use Rattle.clap.specs.Simple.{App, IsSimple, is_ready, is_ready_leaf}
use Rattle.clap.specs.Texts.{items_of}
use Rattle.clap.specs.Valid.{IsFreeArg}
use Rattle.clap.specs.Values.{IsSignedIn, same_text}
use Rattle.clap.specs.Faults.{has_free_rules}
use Rattle.clap.specs.Walk.{Rule, Text, first_of, rows_of, rule_of}
use Rattle.clap.proofs.CallerLemmas.{default_present, present_has_entry, required_present}
use Rattle.clap.proofs.CallerReads.{signed_reads}
use Rattle.clap.proofs.FaultLemmas.{free_args}
use Rattle.clap.proofs.SimpleLemmas.{all_simple, ready_simple, simple_groups}
use Rattle.clap.proofs.WalkLemmas.{first_value-rows, list_any-map}
use Rattle.clap.specs.declared.builder.action.ArgAction.TheVariants.{Set}
use Rattle.clap.specs.declared.builder.arg.Arg.{Arg}
use Rattle.clap.specs.declared.builder.command.Command.{Command}
use Rattle.clap.specs.declared.builder.range.ValueRange.{ValueRange}
use Rattle.clap.specs.declared.builder.value_parser.ValueParser.{ValueParser}
use Rattle.clap.specs.declared.builder.value_parser.ValueParser.TheVariants as vp
use Rattle.clap.specs.declared.parser.matches.ArgMatches.{ArgMatches}
use Rattle.clap.specs.declared.parser.matches.Found.{Found}
use Rattle.unicorn_words.specs.CommandLine.{IsUnicorn, mode_argument, options}
use Rattle.unicorn_words.specs.Asked.{mode_text, number_in}
use Rattle.unicorn_words.specs.declared.words.Mode.{Mode}
use Rattle.unicorn_words.specs.declared.words.Mode.TheVariants.{Serve, Plain, Check, Bench}
use Rattle.unicorn_words.proofs.Given.{TakesBy, has_entry, is_given}

abbrev rules : Bor (List (Bor Text)) → List Rule
rules names = mode_argument (vp.Names names) ∷ options

-- no two arguments have one id
distinct : (names : Bor (List (Bor Text))) (j k : ℕ) (x y : Rule) → j < 4 → k < 4
    → bytes_eq (slice_index_or (rules names) j x).id (slice_index_or (rules names) k y).id ≡ true → j ≡ k
distinct names zero zero x y lj lk h = refl
distinct names zero (suc zero) x y lj lk h = cc
distinct names zero (suc (suc zero)) x y lj lk h = cc
distinct names zero (suc (suc (suc zero))) x y lj lk h = cc
distinct names zero (suc (suc (suc (suc k)))) x y lj lk h = absurd (omega arith)
distinct names (suc zero) zero x y lj lk h = cc
distinct names (suc zero) (suc zero) x y lj lk h = refl
distinct names (suc zero) (suc (suc zero)) x y lj lk h = cc
distinct names (suc zero) (suc (suc (suc zero))) x y lj lk h = cc
distinct names (suc zero) (suc (suc (suc (suc k)))) x y lj lk h = absurd (omega arith)
distinct names (suc (suc zero)) zero x y lj lk h = cc
distinct names (suc (suc zero)) (suc zero) x y lj lk h = cc
distinct names (suc (suc zero)) (suc (suc zero)) x y lj lk h = refl
distinct names (suc (suc zero)) (suc (suc (suc zero))) x y lj lk h = cc
distinct names (suc (suc zero)) (suc (suc (suc (suc k)))) x y lj lk h = absurd (omega arith)
distinct names (suc (suc (suc zero))) zero x y lj lk h = cc
distinct names (suc (suc (suc zero))) (suc zero) x y lj lk h = cc
distinct names (suc (suc (suc zero))) (suc (suc zero)) x y lj lk h = cc
distinct names (suc (suc (suc zero))) (suc (suc (suc zero))) x y lj lk h = refl
distinct names (suc (suc (suc zero))) (suc (suc (suc (suc k)))) x y lj lk h = absurd (omega arith)
distinct names (suc (suc (suc (suc j)))) k x y lj lk h = absurd (omega arith)

-- a text that is a number in a range from 1 on has no minus
as_written : (low high : ℕ) (t : Text) → 1 ≤ low → IsSignedIn (pos low) (pos high) t → without_minus t ≡ t
as_written low high [] some h = refl
as_written low high (x ∷ xs) some h = go (x == 45) refl
  where
    go : (b : Bool) → (x == 45) ≡ b → unwrap_or (cond b (Some xs) None) (x ∷ xs) ≡ x ∷ xs
    go true minus =
        let low_ok = rw minus at h.2 in
        absurd (omega (arith, ints))
    go false minus = refl

-- what is found for an option: the text of a number in its range
abbrev IsNumberText : Found → Text → ℕ → ℕ → Type 0
IsNumberText f id low high =
    (t : Text) × (first_value f id ≡ Some t) × (one_text f id ≡ Some t) × IsSignedIn (pos low) (pos high) t

head_of : (xs : List Arg) → length xs ≡ 4 → Arg
head_of [] e = absurd (omega arith)
head_of (x ∷ xs) e = x

module _ (c : Command) (u : IsUnicorn c) (m : ArgMatches) (p : IsParsedFrom c m) where
  are : map rule_of (args_of c) ≡ rules u.0
  are = ap (λ (a : App). a.top.rules) u.2

  four : length (args_of c) ≡ 4
  four = sym (length-map (args_of c) rule_of) ∙ ap length are

  d : Arg
  d = head_of (args_of c) four

  rule_at : (k : ℕ) (e : Arg) → k < 4 → rule_of (slice_index_or (args_of c) k e) ≡ slice_index_or (rules u.0) k (rule_of e)
  rule_at k e lt =
      let within : k < length (args_of c) = omega (arith, four) in
      sym (get_or-map rule_of (args_of c) k e (rule_of e) within) ∙ ap (λ l. slice_index_or l k (rule_of e)) are

  simple : IsSimple c
  simple = ready_simple c (ap (λ (a : App). is_ready a.top) u.2) (ap (λ (a : App). list_all is_ready_leaf a.subs) u.2)

  free : All IsFreeArg (args_of c)
  free = free_args c simple (ap (λ (a : App). has_free_rules a.top) u.2)

  groupless : All (λ a. a.groups.items ≡ []) (args_of c)
  groupless = simple_groups c (ap (λ (a : App). all_simple a.top.rules) u.2)

  plain : IsPlain c
  plain = (
    λ k e lt. ((free k e lt).exclusive, (free k e lt).conflicts, (free k e lt).overrides, groupless k e lt),
    simple.groups,
  )

  id_at : (k : ℕ) (e : Arg) → k < 4 → (slice_index_or (args_of c) k e).id.now ≡ (slice_index_or (rules u.0) k (rule_of e)).id
  id_at k e lt = ap (λ (r : Rule). r.id) (rule_at k e lt)

  -- the k-th argument takes a value by this parser, where its name does not begin as `help` and `version` do
  takes_by : (k n : ℕ) (q : ValueParser) → k < 4 → (slice_index_or (rules u.0) k (rule_of d)).action ≡ Some Set
      → (slice_index_or (rules u.0) k (rule_of d)).range ≡ None → (slice_index_or (rules u.0) k (rule_of d)).parser ≡ Some q
      → slice_index (slice_index_or (rules u.0) k (rule_of d)).id 0 ≡ n → (n ≡ 0 → ⊥) → (n ≡ 104 → ⊥) → (n ≡ 118 → ⊥) → TakesBy c k d q
  takes_by k n q lt set range parser first some no_help no_version =
      let within : k < length (args_of c) = omega (arith, four) in
      let begins : (t : Text) → (slice_index_or (args_of c) k d).id.now ≡ t → n ≡ slice_index t 0 =
      λ t e. sym first ∙ ap (λ (l : Text). slice_index l 0) (sym (id_at k d lt) ∙ e) in
      record {
        within = within;
        set = ap (λ (r : Rule). r.action) (rule_at k d lt) ∙ set;
        delimiter = (simple.args k d within).delimiter;
        least = subst (λ (r : Option ValueRange). 1 ≤ (unwrap_or_range r).start_inclusive) (sym (ap (λ (r : Rule). r.range) (rule_at k d lt) ∙ range)) (omega arith);
        unique = λ j e low same.
            let lj : j < 4 = omega (arith, four) in
            distinct u.0 j k (rule_of e) (rule_of d) lj lt (sym (λ i. bytes_eq (id_at j e lj i) (id_at k d lt i)) ∙ same);
        named = λ e. some (begins [] e);
        own = λ auto. elim auto [ inl h ↦ no_help (begins _ h) | inr h ↦ no_version (begins _ h) ];
        parser = ap (λ (r : Rule). r.parser) (rule_at k d lt) ∙ parser;
      }

  -- an option with a default is given a text of a number in its range
  option_given : (k low high : ℕ) → k < 4 → 1 ≤ low → TakesBy c k d (vp.Signed (pos low) (pos high))
      → length (slice_index_or (rules u.0) k (rule_of d)).defaults ≡ 1
      → IsNumberText (found_of m) (slice_index_or (rules u.0) k (rule_of d)).id low high
  option_given k low high lt some takes default =
      let within : k < length (args_of c) = omega (arith, four) in
      let a = slice_index_or (args_of c) k d in
      let defaults : length (items_of a.default_vals) ≡ 1 =
      sym (length-map (items_of a.default_vals) (λ (s : Bor Text). s.now)) ∙ ap (λ (r : Rule). length r.defaults) (rule_at k d lt) ∙ default in
      let wants : WantsDefault a = ((simple.args k d within).default_ifs, omega arith) in
      let has = default_present c m p simple.globals k d within wants in
      let given = is_given c m p plain k d (vp.Signed (pos low) (pos high)) takes simple.globals (has_entry (found_of m).entries.items a.id.now has.0 has.1 has.2) in
      let read : one_text (found_of m) a.id.now ≡ Some given.0 = rw (as_written low high given.0 some given.3) at given.2 in (
        given.0,
        subst (λ (id : Text). first_value (found_of m) id ≡ Some given.0) (id_at k d lt) given.1,
        subst (λ (id : Text). one_text (found_of m) id ≡ Some given.0) (id_at k d lt) read,
        given.3,
      )

  workers_given : IsNumberText (found_of m) (codes "workers") 1 64
  workers_given = option_given 1 1 64 (omega arith) (omega arith)
      (takes_by 1 119 (vp.Signed (pos 1) (pos 64)) (omega arith) refl refl refl refl (λ e. absurd (omega arith)) (λ e. absurd (omega arith)) (λ e. absurd (omega arith))) refl

  seed_given : IsNumberText (found_of m) (codes "seed") 1 2147483646
  seed_given = option_given 2 1 2147483646 (omega arith) (omega arith)
      (takes_by 2 115 (vp.Signed (pos 1) (pos 2147483646)) (omega arith) refl refl refl refl (λ e. absurd (omega arith)) (λ e. absurd (omega arith)) (λ e. absurd (omega arith))) refl

  people_given : IsNumberText (found_of m) (codes "people") 2 100000
  people_given = option_given 3 2 100000 (omega arith) (omega arith)
      (takes_by 3 112 (vp.Signed (pos 2) (pos 100000)) (omega arith) refl refl refl refl (λ e. absurd (omega arith)) (λ e. absurd (omega arith)) (λ e. absurd (omega arith))) refl

  -- a text that is one of the modes' names is the name of a mode
  mode_among : (t : Text) → list_any (λ (name : Bor Text). same_text false name.now t) u.0.now ≡ true → (mode : Mode) × (t ≡ mode_text mode)
  mode_among t among = go (bytes_eq (codes "serve") t) refl (bytes_eq (codes "plain") t) refl (bytes_eq (codes "check") t) refl (bytes_eq (codes "bench") t) refl
      (sym (list_any-map (λ s. same_text false s t) (λ (name : Bor Text). name.now) u.0.now ∙ ap (list_any (λ s. same_text false s t)) u.1) ∙ among)
    where
      is : (s : Text) → bytes_eq s t ≡ true → t ≡ s
      is s e = sym ((bytes_eq-Decides s t).0 e)

      go : (x : Bool) → bytes_eq (codes "serve") t ≡ x → (y : Bool) → bytes_eq (codes "plain") t ≡ y → (z : Bool) → bytes_eq (codes "check") t ≡ z
          → (w : Bool) → bytes_eq (codes "bench") t ≡ w
          → (bytes_eq (codes "serve") t || (bytes_eq (codes "plain") t || (bytes_eq (codes "check") t || (bytes_eq (codes "bench") t || false)))) ≡ true → (mode : Mode) × (t ≡ mode_text mode)
      go true ex y ey z ez w ew h = (Serve, is (codes "serve") ex)
      go false ex true ey z ez w ew h = (Plain, is (codes "plain") ey)
      go false ex false ey true ez w ew h = (Check, is (codes "check") ez)
      go false ex false ey false ez true ew h = (Bench, is (codes "bench") ew)
      go false ex false ey false ez false ew h =
          let bad : false ≡ true = rw (ex, ey, ez, ew) at h in
          cc

  pub mode_given : (mode : Mode) × (first_value (found_of m) (codes "MODE") ≡ Some (mode_text mode))
  mode_given =
      let lt : 0 < 4 = omega arith in
      let within : 0 < length (args_of c) = omega (arith, four) in
      let a = slice_index_or (args_of c) 0 d in
      let takes = takes_by 0 77 (vp.Names u.0) lt refl refl refl refl (λ e. absurd (omega arith)) (λ e. absurd (omega arith)) (λ e. absurd (omega arith)) in
      let present = required_present c m p plain simple.globals (ap (λ (x : App). x.top.subcommand_negates_reqs) u.2) 0 d within (ap (λ (r : Rule). r.required) (rule_at 0 d lt)) in
      let given = is_given c m p plain 0 d (vp.Names u.0) takes simple.globals (present_has_entry (found_of m) a.id.now present) in
      let exact : a.ignore_case ≡ false = ap (λ (r : Rule). r.ignore_case) (rule_at 0 d lt) in
      let found = mode_among given.0 (subst (λ (b : Bool). list_any (λ (name : Bor Text). same_text b name.now given.0) u.0.now ≡ true) exact given.3) in
      let is : first_value (found_of m) a.id.now ≡ Some (mode_text found.0) = rw (found.1) at given.1 in
      (found.0, subst (λ (id : Text). first_value (found_of m) id ≡ Some (mode_text found.0)) (id_at 0 d lt) is)

-- what `get_one` gives for an option: a number in its range, the one that is found for it
abbrev pub IsNumber : Found → Text → ℕ → ℕ → Option ℕ → Type 0
IsNumber f id low high r = (n : ℕ) × (r ≡ Some n) × (low ≤ n) × (n ≤ high) × (number_in (rows_of f) id ≡ Some n)

pub is_number : (f : Found) (id : Text) (low high v : ℕ) (r : Option ℕ) → IsNumber f id low high r → r ≡ Some v
    → (low ≤ v) × (v ≤ high) × (number_in (rows_of f) id ≡ Some v)
is_number f id low high v r n is =
    subst (λ (k : ℕ). (low ≤ k) × (k ≤ high) × (number_in (rows_of f) id ≡ Some k)) (ap (λ (o : Option ℕ). unwrap_or o 0) (sym n.1 ∙ is)) (n.2, n.3, n.4)

module _ {E : Type 0} (G : Text → Result ℕ E → Type 0) (only : (s : Text) (x : Result ℕ E) → G s x → ParsesUnsigned 32 10 s x) where
  number_read : (f : Found) (id : Text) (low high : ℕ) (r : Option ℕ) → 1 ≤ low → high < 2 ^ 32 → IsNumberText f id low high
      → ((t : Text) → one_text f id ≡ Some t → ReadsOne G t r) → IsNumber f id low high r
  number_read f id low high r some fits h reads =
      let read = reads h.0 h.2 in
      let got = signed_reads E G 32 low high h.0 r (subst (λ (t : Text). ReadsOne G t r) (sym (as_written low high h.0 some h.3)) read) only fits h.3 in
      let at = only h.0 (Ok got.0) (subst (ReadsOne G h.0) got.1 read) in (
        got.0,
        got.1,
        got.2,
        got.3,
        ap (option_map (λ s. digits_value 10 (without_leading_plus s))) (sym (first_value-rows f id) ∙ h.1) ∙ ap (λ (n : ℕ). Some n) (sym at.1),
      )

  module _ (c : Command) (u : IsUnicorn c) (m : ArgMatches) (p : IsParsedFrom c m) (r : Option ℕ) where
    abbrev Reads : Text → Type 0
    Reads id = (t : Text) → one_text (found_of m) id ≡ Some t → ReadsOne G t r

    pub workers_read : Reads (codes "workers") → IsNumber (found_of m) (codes "workers") 1 64 r
    workers_read = number_read (found_of m) (codes "workers") 1 64 r (omega arith) (omega arith) (workers_given c u m p)

    pub seed_read : Reads (codes "seed") → IsNumber (found_of m) (codes "seed") 1 2147483646 r
    seed_read = number_read (found_of m) (codes "seed") 1 2147483646 r (omega arith) (omega arith) (seed_given c u m p)

    pub people_read : Reads (codes "people") → IsNumber (found_of m) (codes "people") 2 100000 r
    people_read = number_read (found_of m) (codes "people") 2 100000 r (omega arith) (omega arith) (people_given c u m p)

-- a text that is a mode's name has a mode
pub some_mode : (o : Option Mode) (t : Text) (mode : Mode) → t ≡ mode_text mode
    → MatchOption o ((x : Mode) → t ≡ mode_text x → ⊥) (λ x. t ≡ mode_text x) → is_some o ≡ true
some_mode None t mode is h = absurd (h mode is)
some_mode (Some x) t mode is h = refl

pub mode_found : (f : Found) (t : Text) → first_value f (codes "MODE") ≡ Some t → first_of (codes "MODE") (rows_of f) ≡ Some t
mode_found f t is = sym (first_value-rows f (codes "MODE")) ∙ is
