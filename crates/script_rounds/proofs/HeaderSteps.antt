-- The header of a script, line by line.
use Rattle.std.proofs.Common.{◌≡◌, ℕ, suc, ◌+◌, ◌≤◌, ◌<◌, ◌⊎◌, inl, inr, Bool, true, false, nat_le, List, [], ◌∷◌, ◌++◌, length, take, drop, Option, None, Some, sym, ◌∙◌, ap, subst, refl, arith, append-nil, length-append}
use Rattle.std.specs.Prelude.{if◌then◌else◌}
use Rattle.std.proofs.lemmas.Bool.Decides.{nat_tests}
use Rattle.std.proofs.lemmas.List.{append_assoc, take_all, length-take}
use Rattle.uni_base.specs.Fields.{is_skipped}
use Rattle.uni_base.specs.declared.limits.Limits.{Limits}
use Rattle.uni_schema.specs.Header.{HeaderState, Step, goes, refuses, opening, passed, judged, line_of, step_by, step, opens, refused, after_step, opening_from, opening_of}
use Rattle.uni_schema.specs.Lines.{declaration_of}
use Rattle.uni_schema.specs.Rules.{rules}
use Rattle.uni_schema.specs.Schema.{Declarations}
use Rattle.uni_schema.specs.declared.refusal.SchemaRefusal.{SchemaRefusal}
use Rattle.uni_schema.specs.declared.refusal.SchemaRefusal.TheVariants.{NoBegin, Memory}
use Rattle.script_rounds.specs.declared.lines.ScriptRefusal.{ScriptRefusal}
use Rattle.script_rounds.specs.Headers.{TookHeader, FaultyHeader, BrokenHeader}
use Rattle.script_rounds.specs.Lines.{lines_so_far, cut}
use Rattle.script_rounds.specs.Reading.{LineState, Place, at, Went, IsFront, IsSpent, Stopped, to_come}
use Rattle.script_rounds.proofs.Fronts.{lines_of-front, so_far-front}
use Rattle.script_rounds.proofs.ReadSteps.{went_front, went_more, went_nothing}
use Rattle.uni_base.specs.Lines.{lines_of}
use Rattle.script_rounds.proofs.RoleSteps.{cases_short, is_skipped-take}

-- of a header line it is enough to see that it is too long
pub step-cut : (state : HeaderState) (kept : ℕ) (line : List ℕ) → state.longest < kept → step state (take kept line) ≡ step state line
step-cut state kept line long = by (cases_short kept line)
  where
    by : (length line ≤ kept) ⊎ (kept < length line) → step state (take kept line) ≡ step state line
    by (inl short) = ap (step state) (take_all kept line short)
    by (inr more) =
        let cut_test : nat_le (length (take kept line)) state.longest ≡ false = let fact : state.longest < length (take kept line) = omega (arith, length-take kept line) in grind (arith, nat_tests) in
        let test : nat_le (length line) state.longest ≡ false = let fact : state.longest < length line = omega arith in grind (arith, nat_tests) in
        ap (λ b. if b then goes (passed state) else step_by state (line_of state (take kept line))) (is_skipped-take kept line (omega (arith, long)))
        ∙ ap (λ o. if is_skipped line then goes (passed state) else step_by state o)
        (ap (λ b. if b then declaration_of (take kept line) else None) cut_test ∙ sym (ap (λ b. if b then declaration_of line else None) test))

-- a line leaves how long a line may be
abbrev StaysLong : ℕ → Step → Type 0
StaysLong longest (goes next) = next.longest ≡ longest
StaysLong longest (refuses refusal) = Unit {0}

step_long : (state : HeaderState) (line : List ℕ) → StaysLong state.longest (step state line)
step_long state line =
    elim (is_skipped line) as (λ b. StaysLong state.longest (if b then goes (passed state) else step_by state (line_of state line))) [
      | true ↦ refl
      | false ↦ elim (line_of state line) as (λ o. StaysLong state.longest (step_by state o)) [
        | None ↦ tt
        | Some said ↦ elim (rules (state.taken + 1) state.begun state.schema said) as (λ r. StaysLong state.longest (judged state said r)) [ None ↦ refl | Some refusal ↦ tt ]
      ]
    ]

pub goes-longest : (state next : HeaderState) (line : List ℕ) → step state line ≡ goes next → next.longest ≡ state.longest
goes-longest state next line is = subst (StaysLong state.longest) is (step_long state line)

-- some lines of a header were taken
pub record HeaderSoFar (limits : Limits) (before now : Place) (header : HeaderState) : Type 0 where
  pub lines : List (List ℕ)
  pub went : Went before now lines
  pub count : length lines ≡ header.taken
  pub longest : header.longest ≡ limits.line
  pub unended : header.ended ≡ false
  pub follows : (rest : List (List ℕ)) → opening_of limits.line (lines ++ rest) ≡ opening_from header rest

-- none yet
pub header_start : (limits : Limits) (place : Place) (header : HeaderState) → header ≡ opening limits.line → HeaderSoFar limits place place header
header_start limits place header is = subst (HeaderSoFar limits place place) (sym is) (record {
  lines = [];
  went = went_nothing place;
  count = refl;
  longest = refl;
  unended = refl;
  follows = λ rest. refl;
})

-- a line that a header goes on with
follows-more : (limits : Limits) (header next : HeaderState) (lines : List (List ℕ)) (text : List ℕ)
    → ((rest : List (List ℕ)) → opening_of limits.line (lines ++ rest) ≡ opening_from header rest) → step header text ≡ goes next → (rest : List (List ℕ))
    → opening_of limits.line ((lines ++ text ∷ []) ++ rest) ≡ after_step rest (λ (s : HeaderState). opening_from s rest) (goes next)
follows-more limits header next lines text follows is rest =
    ap (opening_of limits.line) (append_assoc lines (text ∷ []) rest)
    ∙ follows (text ∷ rest)
    ∙ ap (after_step rest (λ (s : HeaderState). opening_from s rest)) is

-- one more, after which a header goes on
pub header_more : (limits : Limits) (before : Place) (now filled after : LineState) (left_now left_after : Option (List ℕ)) (header next : HeaderState) (len : ℕ) (last : Bool)
    → HeaderSoFar limits before (at now left_now) header → limits.line < filled.kept → Went (at now left_now) (at filled left_after) [] → IsFront filled len
    → step header (take len filled.ahead) ≡ goes next → next.taken ≡ header.taken + 1 → next.longest ≡ header.longest → next.ended ≡ false
    → after ≡ record filled { ahead = drop (len + 1) filled.ahead; lines = filled.lines + 1 } → HeaderSoFar limits before (at after left_after) next
header_more limits before now filled after left_now left_after header next len last s long w front is counts longest unended passed_is = record {
  lines = s.lines ++ text ∷ [];
  went = went_more before (at now left_now) (at after left_after) s.lines (text ∷ []) s.went
      (went_more (at now left_now) (at filled left_after) (at after left_after) [] (text ∷ []) w (went_front filled after left_after len front passed_is));
  count = omega (arith, s.count, counts, length-append s.lines (text ∷ []));
  longest = longest ∙ s.longest;
  unended = unended;
  follows = λ rest.
      follows-more limits header next s.lines text s.follows (step-cut header filled.kept (take len filled.ahead) (omega (arith, long, s.longest)) ∙ is) rest
      ∙ ap (λ b. elim b [ true ↦ opens next.schema (next.taken + 1) rest | false ↦ opening_from next rest ]) unended;
}
  where
    text : List ℕ
    text = take filled.kept (take len filled.ahead)

-- one more, which ends it
pub header_opens : (limits : Limits) (before : Place) (now filled after : LineState) (left_now left_after : Option (List ℕ)) (header next : HeaderState) (len : ℕ) (schema : Declarations)
    → HeaderSoFar limits before (at now left_now) header → limits.line < filled.kept → Went (at now left_now) (at filled left_after) [] → IsFront filled len
    → step header (take len filled.ahead) ≡ goes next → next.taken ≡ header.taken + 1 → next.ended ≡ true → schema ≡ next.schema
    → after ≡ record filled { ahead = drop (len + 1) filled.ahead; lines = filled.lines + 1 } → TookHeader limits schema before (at after left_after)
header_opens limits before now filled after left_now left_after header next len schema s long w front is counts ended declares passed_is = record {
  lines = s.lines ++ text ∷ [];
  went = went_more before (at now left_now) (at after left_after) s.lines (text ∷ []) s.went
      (went_more (at now left_now) (at filled left_after) (at after left_after) [] (text ∷ []) w (went_front filled after left_after len front passed_is));
  opening = λ rest.
      follows-more limits header next s.lines text s.follows (step-cut header filled.kept (take len filled.ahead) (omega (arith, long, s.longest)) ∙ is) rest
      ∙ ap (λ b. elim b [ true ↦ opens next.schema (next.taken + 1) rest | false ↦ opening_from next rest ]) ended
      ∙ ap (λ n. opens next.schema n rest) count
      ∙ ap (λ d. opens d (length (s.lines ++ text ∷ []) + 1) rest) (sym declares);
}
  where
    text : List ℕ
    text = take filled.kept (take len filled.ahead)

    count : next.taken + 1 ≡ length (s.lines ++ text ∷ []) + 1
    count = omega (arith, s.count, counts, length-append s.lines (text ∷ []))

went_on : (before now after : Place) (lines : List (List ℕ)) → Went before now lines → Went now after [] → Went before after lines
went_on before now after lines first second = subst (Went before after) (append-nil lines) (went_more before now after lines [] first second)

-- the line at the front is refused
pub header_refused : (limits : Limits) (before : Place) (now filled : LineState) (left_now left_after : Option (List ℕ)) (header : HeaderState) (len : ℕ) (refusal : SchemaRefusal)
    → HeaderSoFar limits before (at now left_now) header → limits.line < filled.kept → Went (at now left_now) (at filled left_after) [] → IsFront filled len
    → filled.taken ≤ filled.limit → (refusal ≡ Memory) ⊎ (step header (take len filled.ahead) ≡ refuses refusal)
    → FaultyHeader limits refusal before (at filled left_after)
header_refused limits before now filled left_now left_after header len refusal s long w front in_limit cause = record {
  lines = s.lines;
  went = went_on before (at now left_now) (at filled left_after) s.lines s.went w;
  in_limit = in_limit;
  so_far = by_far cause;
  refuses = by cause;
}
  where
    by_far : (refusal ≡ Memory) ⊎ (step header (take len filled.ahead) ≡ refuses refusal)
        → (refusal ≡ Memory) ⊎ (opening_of limits.line (s.lines ++ cut filled.kept (lines_so_far filled.ended filled.ahead)) ≡ refused refusal)
    by_far (inl memory) = inl memory
    by_far (inr is) = inr (
        let later : List (List ℕ) = cut filled.kept (lines_so_far filled.ended (drop (suc len) filled.ahead)) in
        ap (λ ls. opening_of limits.line (s.lines ++ cut filled.kept ls)) (so_far-front filled len front)
        ∙ s.follows (take filled.kept (take len filled.ahead) ∷ later)
        ∙ ap (after_step later (λ (next : HeaderState). opening_from next later)) (step-cut header filled.kept (take len filled.ahead) (omega (arith, long, s.longest)) ∙ is))

    by : (refusal ≡ Memory) ⊎ (step header (take len filled.ahead) ≡ refuses refusal)
        → (refusal ≡ Memory) ⊎ ((rest : List ℕ) → (filled.ended ≡ true → rest ≡ []) → opening_of limits.line (s.lines ++ to_come filled rest) ≡ refused refusal)
    by (inl memory) = inl memory
    by (inr is) = inr (λ rest stops.
        let later : List (List ℕ) = cut filled.kept (lines_of (drop (suc len) filled.ahead ++ rest)) in
        ap (λ ls. opening_of limits.line (s.lines ++ cut filled.kept ls)) (lines_of-front filled len front rest stops)
        ∙ s.follows (take filled.kept (take len filled.ahead) ∷ later)
        ∙ ap (after_step later (λ (next : HeaderState). opening_from next later)) (step-cut header filled.kept (take len filled.ahead) (omega (arith, long, s.longest)) ∙ is))

-- no line is left
pub header_short : (limits : Limits) (before : Place) (now filled : LineState) (left_now left_after : Option (List ℕ)) (header : HeaderState) (number : ℕ)
    → HeaderSoFar limits before (at now left_now) header → Went (at now left_now) (at filled left_after) [] → IsSpent filled → filled.taken ≤ filled.limit → number ≡ header.taken + 1
    → FaultyHeader limits (NoBegin number) before (at filled left_after)
header_short limits before now filled left_now left_after header number s w spent in_limit number_is = record {
  lines = s.lines;
  went = went_on before (at now left_now) (at filled left_after) s.lines s.went w;
  in_limit = in_limit;
  so_far = inr (
      ap (λ b. opening_of limits.line (s.lines ++ cut filled.kept (lines_so_far b filled.ahead))) spent.0
      ∙ ap (λ bytes. opening_of limits.line (s.lines ++ cut filled.kept (lines_of bytes))) spent.1
      ∙ s.follows []
      ∙ ap (λ n. refused (NoBegin n)) (sym number_is));
  refuses = inr (λ rest stops.
      ap (λ bytes. opening_of limits.line (s.lines ++ cut filled.kept (lines_of bytes))) (ap (λ bytes. bytes ++ rest) spent.1 ∙ stops spent.0)
      ∙ s.follows []
      ∙ ap (λ n. refused (NoBegin n)) (sym number_is));
}

-- reading stopped
pub header_broke : (limits : Limits) (before now after : Place) (header : HeaderState) (refusal : ScriptRefusal) → HeaderSoFar limits before now header → Stopped now after [] refusal
    → BrokenHeader limits refusal before after
header_broke limits before now after header refusal s stopped = record {
  lines = s.lines;
  stopped = record { edge = stopped.edge; went = went_on before now stopped.edge s.lines s.went stopped.went; stops = stopped.stops };
  begun = ap (opening_of limits.line) (sym (append-nil s.lines)) ∙ s.follows [] ∙ ap (λ n. refused (NoBegin (n + 1))) (sym s.count);
}
