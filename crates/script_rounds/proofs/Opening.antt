-- From the lines that were taken of a header to the script that was opened.
use Rattle.std.proofs.Common.{◌≡◌, ℕ, ◌+◌, ◌<◌, ◌≤◌, ◌⊎◌, inl, inr, Bool, true, false, List, [], ◌∷◌, ◌++◌, length, take, max, Option, None, sym, ◌∙◌, ap, subst, refl, arith, append-nil, length-append}
use Rattle.std.proofs.lemmas.List.{length-map}
use Rattle.uni_base.specs.declared.limits.Limits.{Limits}
use Rattle.uni_schema.specs.Header.{HeaderState, Step, goes, refuses, opening, step, Opening, opens, refused, after_step, opening_from, opening_of}
use Rattle.uni_schema.specs.Schema.{Declarations}
use Rattle.uni_schema.specs.declared.refusal.SchemaRefusal.{SchemaRefusal}
use Rattle.uni_schema.specs.declared.refusal.SchemaRefusal.TheVariants.{NoBegin}
use Rattle.uni_schema.specs.declared.refusal.SchemaRefusal.TheVariants as schema_refusals
use Rattle.script_rounds.specs.declared.header.OpenRefusal.{OpenRefusal}
use Rattle.script_rounds.specs.declared.header.OpenRefusal.TheVariants as open_refusals
use Rattle.script_rounds.specs.declared.lines.ScriptRefusal.{ScriptRefusal}
use Rattle.script_rounds.specs.declared.lines.ScriptRefusal.TheVariants.{ReadFault, TooLong, Memory}
use Rattle.script_rounds.specs.Entries.{Entry}
use Rattle.script_rounds.specs.Headers.{HeaderFaults, TookHeader, FaultyHeader, BrokenHeader}
use Rattle.script_rounds.specs.Lines.{whole_lines, lines_so_far, cut}
use Rattle.script_rounds.specs.Reading.{LineState, Place, at, Gave, Went, IsOut, StopsBy, to_come}
use Rattle.script_rounds.specs.Rounds.{opened, rounds_from, closed_from, script_by, script_of, closed_script_of}
use Rattle.script_rounds.specs.RoundsState.{RoundsState, Opened, HeaderRefused, HeaderStopped, IsUnfinished, OpenRefused}
use Rattle.script_rounds.specs.Terms.{Terms, under}
use Rattle.script_rounds.proofs.HeaderSteps.{goes-longest, step-cut}
use Rattle.script_rounds.proofs.ReadSteps.{gave-append, lines_went}
use Rattle.script_rounds.proofs.RoundSteps.{rounds_from-cut, closed_from-cut}
use Rattle.uni_base.specs.Lines.{lines_of}
use Rattle.script_rounds.proofs.Whole.{whole_come, whole_lines-unbroken}

-- an opening, of whose further lines no more than so many bytes are kept
cut_opening : ℕ → Opening → Opening
cut_opening kept (opens schema number lines) = opens schema number (cut kept lines)
cut_opening kept (refused refusal) = refused refusal

-- of header lines it is enough to see that they are too long
opening_from-cut : (kept : ℕ) (state : HeaderState) (lines : List (List ℕ)) → state.longest < kept → opening_from state (cut kept lines) ≡ cut_opening kept (opening_from state lines)
unfolding cut_opening
opening_from-cut kept state [] long = refl
opening_from-cut kept state (line ∷ lines) long =
    ap (after_step (cut kept lines) (λ (next : HeaderState). opening_from next (cut kept lines))) (step-cut state kept line long)
    ∙ by (step state line) refl (λ next shorter. opening_from-cut kept next lines shorter)
  where
    ended : (next : HeaderState) (b : Bool) → opening_from next (cut kept lines) ≡ cut_opening kept (opening_from next lines)
        → (elim b [ true ↦ opens next.schema (next.taken + 1) (cut kept lines) | false ↦ opening_from next (cut kept lines) ])
        ≡ cut_opening kept (elim b [ true ↦ opens next.schema (next.taken + 1) lines | false ↦ opening_from next lines ])
    ended next true later = refl
    ended next false later = later

    by : (s : Step) → step state line ≡ s
        → ((next : HeaderState) → next.longest < kept → opening_from next (cut kept lines) ≡ cut_opening kept (opening_from next lines))
        → after_step (cut kept lines) (λ (next : HeaderState). opening_from next (cut kept lines)) s ≡ cut_opening kept (after_step lines (λ (next : HeaderState). opening_from next lines) s)
    by (goes next) is later = ended next next.ended (later next (omega (arith, long, goes-longest state next line is)))
    by (refuses refusal) is later = refl

-- a script by its lines, cut
script_by-cut : (kept : ℕ) (rounds : Declarations → ℕ → List (List ℕ) → List (List Entry))
    → ((schema : Declarations) (number : ℕ) (lines : List (List ℕ)) → rounds schema number (cut kept lines) ≡ rounds schema number lines) → (o : Opening)
    → script_by rounds (cut_opening kept o) ≡ script_by rounds o
unfolding cut_opening
script_by-cut kept rounds same (opens schema number lines) = ap (opened schema) (same schema number lines)
script_by-cut kept rounds same (refused refusal) = refl

module _ (limits : Limits) (kept : ℕ) (long : limits.line < kept) (enough : 3 ≤ kept) where
  rounds_same : (schema : Declarations) (number : ℕ) (lines : List (List ℕ)) → rounds_from (under limits schema) number 0 (cut kept lines) ≡ rounds_from (under limits schema) number 0 lines
  rounds_same schema number lines = rounds_from-cut (under limits schema) kept long enough number 0 lines

  closed_same : (schema : Declarations) (number : ℕ) (lines : List (List ℕ)) → closed_from (under limits schema) number 0 (cut kept lines) ≡ closed_from (under limits schema) number 0 lines
  closed_same schema number lines = closed_from-cut (under limits schema) kept long enough number 0 lines

  pub script_cut : (bytes : List ℕ)
      → script_of limits bytes ≡ script_by (λ schema number lines. rounds_from (under limits schema) number 0 lines) (opening_of limits.line (cut kept (lines_of bytes)))
  script_cut bytes =
      sym (script_by-cut kept (λ schema number lines. rounds_from (under limits schema) number 0 lines) rounds_same (opening_of limits.line (lines_of bytes)))
      ∙ ap (script_by (λ schema number lines. rounds_from (under limits schema) number 0 lines)) (sym (opening_from-cut kept (opening limits.line) (lines_of bytes) long))

  pub closed_script_cut : (bytes : List ℕ)
      → closed_script_of limits bytes ≡ script_by (λ schema number lines. closed_from (under limits schema) number 0 lines) (opening_of limits.line (cut kept (whole_lines bytes)))
  closed_script_cut bytes =
      sym (script_by-cut kept (λ schema number lines. closed_from (under limits schema) number 0 lines) closed_same (opening_of limits.line (whole_lines bytes)))
      ∙ ap (script_by (λ schema number lines. closed_from (under limits schema) number 0 lines)) (sym (opening_from-cut kept (opening limits.line) (whole_lines bytes) long))

  -- a refusal is of the lines, cut or whole
  uncut : (o : Opening) (refusal : SchemaRefusal) → cut_opening kept o ≡ refused refusal → o ≡ refused refusal
  unfolding cut_opening
  uncut (opens schema number lines) refusal is = cc
  uncut (refused other) refusal is = is

  pub refused_cut : (lines : List (List ℕ)) (refusal : SchemaRefusal) → opening_of limits.line (cut kept lines) ≡ refused refusal → opening_of limits.line lines ≡ refused refusal
  refused_cut lines refusal is = uncut (opening_of limits.line lines) refusal (sym (opening_from-cut kept (opening limits.line) lines long) ∙ is)

-- where reading begins
abbrev pub start : Limits → LineState
start limits = record { ahead = []; lines = 0; taken = 0; limit = limits.script; ended = false; kept = max (limits.line + 1) 3 }

module _ (limits : Limits) where
  kept_long : limits.line < max (limits.line + 1) 3
  kept_long = omega arith

  kept_enough : 3 ≤ max (limits.line + 1) 3
  kept_enough = omega arith

  -- the lines of the bytes that were taken from the beginning on
  first_lines : (left : Option (List ℕ)) (after : Place) (lines : List (List ℕ)) (w : Went (at (start limits) left) after lines) (rest : List ℕ) → (after.reader.ended ≡ true → rest ≡ [])
      → cut (max (limits.line + 1) 3) (lines_of (w.more ++ rest)) ≡ lines ++ to_come after.reader rest
  first_lines left after lines w rest stops = w.same rest stops

  first_whole : (left : Option (List ℕ)) (after : Place) (lines : List (List ℕ)) (w : Went (at (start limits) left) after lines) → after.reader.ended ≡ false → (rest : List ℕ)
      → cut (max (limits.line + 1) 3) (whole_lines (w.more ++ rest)) ≡ lines ++ cut after.reader.kept (whole_lines (after.reader.ahead ++ rest))
  first_whole left after lines w unended rest = whole_come (at (start limits) left) after lines w unended rest

  -- a script was opened
  pub script_opened : (rounds : RoundsState) (schema : Declarations) (left_before left_after : Option (List ℕ)) → rounds.terms ≡ under limits schema → rounds.refusal ≡ None
      → TookHeader limits schema (at (start limits) left_before) (at rounds.reader left_after) → Opened limits rounds schema left_before left_after
  script_opened rounds schema left_before left_after terms ready t = record {
    more = t.went.more;
    gave = t.went.gave;
    taken = omega (arith, t.went.taken);
    terms = terms;
    ready = ready;
    script = λ rest stops.
        script_cut limits (max (limits.line + 1) 3) kept_long kept_enough (t.went.more ++ rest)
        ∙ ap (λ ls. script_by (λ d number lines. rounds_from (under limits d) number 0 lines) (opening_of limits.line ls)) (first_lines left_before (at rounds.reader left_after) t.lines t.went rest stops)
        ∙ ap (script_by (λ d number lines. rounds_from (under limits d) number 0 lines)) (t.opening (to_come rounds.reader rest))
        ∙ ap (opened schema) (rounds_from-cut (under limits schema) rounds.reader.kept long enough (length t.lines + 1) 0 (lines_of (rounds.reader.ahead ++ rest)))
        ∙ ap (λ n. opened schema (rounds_from (under limits schema) n 0 (lines_of (rounds.reader.ahead ++ rest)))) number
        ∙ ap (λ (u : Terms). opened schema (rounds_from u (rounds.reader.lines + 1) 0 (lines_of (rounds.reader.ahead ++ rest)))) (sym terms);
    closed = λ unended rest.
        closed_script_cut limits (max (limits.line + 1) 3) kept_long kept_enough (t.went.more ++ rest)
        ∙ ap (λ ls. script_by (λ d number lines. closed_from (under limits d) number 0 lines) (opening_of limits.line ls)) (first_whole left_before (at rounds.reader left_after) t.lines t.went unended rest)
        ∙ ap (script_by (λ d number lines. closed_from (under limits d) number 0 lines)) (t.opening (cut rounds.reader.kept (whole_lines (rounds.reader.ahead ++ rest))))
        ∙ ap (opened schema) (closed_from-cut (under limits schema) rounds.reader.kept long enough (length t.lines + 1) 0 (whole_lines (rounds.reader.ahead ++ rest)))
        ∙ ap (λ n. opened schema (closed_from (under limits schema) n 0 (whole_lines (rounds.reader.ahead ++ rest)))) number
        ∙ ap (λ (u : Terms). opened schema (closed_from u (rounds.reader.lines + 1) 0 (whole_lines (rounds.reader.ahead ++ rest)))) (sym terms);
    lines = λ rest stops. all_lines (lines_went (at (start limits) left_before) (at rounds.reader left_after) t.lines t.went rest stops);
    end = t.went.end (λ ended. cc);
  }
    where
      all_lines : {n m : ℕ} → 0 + n ≡ m → n ≡ m
      all_lines is = omega (arith, is)

      long : limits.line < rounds.reader.kept
      long = omega (arith, t.went.kept)

      enough : 3 ≤ rounds.reader.kept
      enough = omega (arith, t.went.kept)

      number : length t.lines + 1 ≡ rounds.reader.lines + 1
      number = omega (arith, t.went.lines)

  -- the lines so far, by those that were gone past
  first_so_far : (left : Option (List ℕ)) (after : Place) (lines : List (List ℕ)) (w : Went (at (start limits) left) after lines) (ended : Bool) → after.reader.ended ≡ ended
      → cut (max (limits.line + 1) 3) (lines_so_far ended w.more) ≡ lines ++ cut after.reader.kept (lines_so_far ended after.reader.ahead)
  first_so_far left after lines w true is =
      ap (λ bytes. cut (max (limits.line + 1) 3) (lines_of bytes)) (sym (append-nil w.more))
      ∙ first_lines left after lines w [] (λ ended. refl)
      ∙ ap (λ bytes. lines ++ cut after.reader.kept (lines_of bytes)) (append-nil after.reader.ahead)
  first_so_far left after lines w false is =
      ap (λ bytes. cut (max (limits.line + 1) 3) (whole_lines bytes)) (sym (append-nil w.more))
      ∙ first_whole left after lines w is []
      ∙ ap (λ bytes. lines ++ cut after.reader.kept (whole_lines bytes)) (append-nil after.reader.ahead)

  -- a header was refused
  pub script_refused : (after : LineState) (left_before left_after : Option (List ℕ)) (refusal : SchemaRefusal)
      → FaultyHeader limits refusal (at (start limits) left_before) (at after left_after) → HeaderRefused limits refusal left_before left_after
  script_refused after left_before left_after refusal f = record {
    more = f.went.more;
    gave = f.went.gave;
    in_limit = omega (arith, f.went.taken, f.went.limit, f.in_limit);
    ended = after.ended;
    end = f.went.end (λ ended. cc);
    so_far = by_far f.so_far;
    refuses = by f.refuses;
  }
    where
      by_far : (refusal ≡ schema_refusals.Memory) ⊎ (opening_of limits.line (f.lines ++ cut after.kept (lines_so_far after.ended after.ahead)) ≡ refused refusal)
          → (refusal ≡ schema_refusals.Memory) ⊎ (opening_of limits.line (lines_so_far after.ended f.went.more) ≡ refused refusal)
      by_far (inl memory) = inl memory
      by_far (inr is) = inr (refused_cut limits (max (limits.line + 1) 3) kept_long kept_enough (lines_so_far after.ended f.went.more) refusal
          (ap (opening_of limits.line) (first_so_far left_before (at after left_after) f.lines f.went after.ended refl) ∙ is))

      by : (refusal ≡ schema_refusals.Memory) ⊎ ((rest : List ℕ) → (after.ended ≡ true → rest ≡ []) → opening_of limits.line (f.lines ++ to_come after rest) ≡ refused refusal)
          → (refusal ≡ schema_refusals.Memory) ⊎ ((rest : List ℕ) → (after.ended ≡ true → rest ≡ []) → opening_of limits.line (lines_of (f.went.more ++ rest)) ≡ refused refusal)
      by (inl memory) = inl memory
      by (inr is) = inr (λ rest stops. refused_cut limits (max (limits.line + 1) 3) kept_long kept_enough (lines_of (f.went.more ++ rest)) refusal
          (ap (opening_of limits.line) (first_lines left_before (at after left_after) f.lines f.went rest stops) ∙ is rest stops))

  -- the whole lines of a header that is not whole
  unfinished : (left : Option (List ℕ)) (edge : Place) (lines : List (List ℕ)) (w : Went (at (start limits) left) edge lines) → IsOut edge.reader
      → opening_of limits.line lines ≡ refused (NoBegin (length lines + 1)) → IsUnfinished limits w.more
  unfinished left edge lines w out begun =
      refused_cut limits (max (limits.line + 1) 3) kept_long kept_enough (whole_lines w.more) (NoBegin (length (whole_lines w.more) + 1))
      (ap (opening_of limits.line) whole ∙ begun ∙ ap (λ n. refused (NoBegin (n + 1))) (sym (ap (length {A = List ℕ}) whole) ∙ length-map (whole_lines w.more) (take (max (limits.line + 1) 3))))
    where
      whole : cut (max (limits.line + 1) 3) (whole_lines w.more) ≡ lines
      whole =
          ap (λ bytes. cut (max (limits.line + 1) 3) (whole_lines bytes)) (sym (append-nil w.more))
          ∙ first_whole left edge lines w out.unended []
          ∙ ap (λ bytes. lines ++ cut edge.reader.kept (whole_lines bytes)) (append-nil edge.reader.ahead)
          ∙ ap (λ ls. lines ++ cut edge.reader.kept ls) (whole_lines-unbroken edge.reader.ahead out.none)
          ∙ append-nil lines

  -- reading stopped within the header
  pub script_stopped : (after : Place) (left : Option (List ℕ)) (refusal : ScriptRefusal)
      → BrokenHeader limits refusal (at (start limits) left) after → HeaderStopped limits refusal left after.left
  script_stopped after left refusal b = by refusal b.stopped.edge b.stopped.went b.stopped.stops
    where
      by : (refusal : ScriptRefusal) (edge : Place) (w : Went (at (start limits) left) edge b.lines) → StopsBy refusal edge after → HeaderStopped limits refusal left after.left
      by ReadFault edge w stops = record {
        more = w.more;
        gave = subst (λ (place : Place). Gave left w.more place.left) (sym stops.0) w.gave;
        none = unfinished left edge b.lines w stops.1 b.begun;
        limit = omega (arith, w.taken, w.limit, stops.1.in_limit);
      }
      by (TooLong count) edge w stops = record {
        more = w.more ++ stops.last ∷ [];
        gave = gave-append left edge.left after.left w.more (stops.last ∷ []) w.gave stops.gave;
        none = (w.more, (stops.last, (refl, unfinished left edge b.lines w stops.out b.begun)));
        limit = (
          omega (arith, w.taken, w.limit, stops.past, stops.full, length-append w.more (stops.last ∷ [])),
          omega (arith, w.taken, w.limit, stops.full, length-append w.more (stops.last ∷ [])),
        );
      }
      by Memory edge w stops = record {
        more = w.more;
        gave = subst (λ (place : Place). Gave left w.more place.left) (sym stops.0) w.gave;
        none = tt;
        limit = omega (arith, w.taken, w.limit, stops.1);
      }

-- a script was not opened
pub header_faults : (limits : Limits) (refusal : OpenRefusal) (after : LineState) (left_before left_after : Option (List ℕ))
    → HeaderFaults limits refusal (at (start limits) left_before) (at after left_after) → OpenRefused limits refusal left_before left_after
header_faults limits (open_refusals.Schema refusal) after left_before left_after f = script_refused limits after left_before left_after refusal f
header_faults limits (open_refusals.Script refusal) after left_before left_after f = script_stopped limits (at after left_after) left_before refusal f
