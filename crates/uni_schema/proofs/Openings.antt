-- What lines unended with, by their texts.
use Rattle.std.proofs.Common.{◌≡◌, ◌≤◌, ◌+◌, ℕ, nat_le, Bool, true, false, if◌then◌else◌, List, [], ◌∷◌, ◌++◌, length, Option, None, Some, refl, ap, sym, subst, ◌∙◌, arith, inl, inr, append_assoc, append-nil, length-append, zero-add}
use Rattle.std.proofs.lemmas.Bool.{leb-true, leb-false, le-leb, lt-leb}
use Rattle.uni_base.specs.Fields.{is_skipped}
use Rattle.uni_schema.specs.Lines.{declaration_of}
use Rattle.uni_schema.specs.Rules.{rules}
use Rattle.uni_schema.specs.Header.{HeaderState, opening, passed, told, Step, goes, refuses, step, step_by, judged, line_of, Opening, opens, refused, after_step, opening_from, opening_of}
use Rattle.uni_schema.specs.HeaderText.{Says, Leads, stays, skips, tells, Breaks, HeaderFault, breaks, lacks, IsOpening, OpensByText}
use Rattle.uni_schema.specs.declared.line.HeaderLine.{HeaderLine}
use Rattle.uni_schema.specs.declared.refusal.SchemaRefusal.{SchemaRefusal}
use Rattle.uni_schema.specs.declared.refusal.SchemaRefusal.TheVariants.{BadLine, NoBegin}
use Rattle.uni_schema.proofs.Texts.{says, heard}

-- what a step shows of its line
StepShows : HeaderState → List ℕ → Step → Type 0
StepShows state line (goes next) = Leads state (line ∷ []) next
StepShows state line (refuses refusal) = Breaks state line refusal

judged_shows : (state : HeaderState) (line : List ℕ) (said : HeaderLine) (answer : Step) → state.ended ≡ false → is_skipped line ≡ false → length line ≤ state.longest → Says line said
    → judged state said (rules (state.taken + 1) state.begun state.schema said) ≡ answer → StepShows state line answer
unfolding StepShows
judged_shows state line said answer unended told_line short say e = by (rules (state.taken + 1) state.begun state.schema said) refl e
  where
    by : (rule : Option SchemaRefusal) → rules (state.taken + 1) state.begun state.schema said ≡ rule → judged state said rule ≡ answer → StepShows state line answer
    by None is e = subst (StepShows state line) e (tells state (told state said) line [] said unended told_line short say is (stays (told state said)))
    by (Some refusal) is e = subst (StepShows state line) e (told_line, inr (said, short, say, is))

step_shows : (state : HeaderState) (line : List ℕ) (answer : Step) → state.ended ≡ false → step state line ≡ answer → StepShows state line answer
unfolding StepShows
step_shows state line answer unended e = by (is_skipped line) (nat_le (length line) state.longest) (declaration_of line) refl refl refl e
  where
    by : (skip short : Bool) (said : Option HeaderLine) → is_skipped line ≡ skip → nat_le (length line) state.longest ≡ short → declaration_of line ≡ said
        → (if skip then goes (passed state) else step_by state (if short then said else None)) ≡ answer → StepShows state line answer
    by true short said is-skip is-short is-said e = subst (StepShows state line) e (skips state (passed state) line [] unended is-skip (stays (passed state)))
    by false true None is-skip is-short is-said e =
        subst (StepShows state line) e (is-skip, inl (refl, inr (λ d say. let wrong : None ≡ Some d = sym is-said ∙ heard line d say in cc)))
    by false true (Some d) is-skip is-short is-said e = judged_shows state line d answer unended is-skip (leb-true (length line) state.longest is-short) (says line d is-said) e
    by false false said is-skip is-short is-said e = subst (StepShows state line) e (is-skip, inl (refl, inl (leb-false (length line) state.longest is-short)))

-- a step that is shown is made
step_goes-skip : (state : HeaderState) (line : List ℕ) → is_skipped line ≡ true → step state line ≡ goes (passed state)
step_goes-skip state line skip = ap (λ b. if b then goes (passed state) else step_by state (line_of state line)) skip

step_said : (state : HeaderState) (line : List ℕ) (said : HeaderLine) (rule : Option SchemaRefusal) → is_skipped line ≡ false → length line ≤ state.longest → Says line said
    → rules (state.taken + 1) state.begun state.schema said ≡ rule → step state line ≡ judged state said rule
step_said state line said rule told_line short say is =
    ap (λ b. if b then goes (passed state) else step_by state (line_of state line)) told_line
    ∙ ap (λ b. step_by state (if b then declaration_of line else None)) (le-leb (length line) state.longest short)
    ∙ ap (step_by state) (heard line said say)
    ∙ ap (judged state said) is

leads_count : (a b : HeaderState) (xs : List (List ℕ)) → Leads a xs b → b.taken ≡ a.taken + length xs
leads_count a b xs (stays state) = omega arith
leads_count a b xs (skips state end line lines unended skip rest) = omega (arith, leads_count (passed state) end lines rest)
leads_count a b xs (tells state end line lines said unended told_line short say rule rest) = omega (arith, leads_count (told state said) end lines rest)

pub leads_append : (a b c : HeaderState) (xs ys : List (List ℕ)) → Leads a xs b → Leads b ys c → Leads a (xs ++ ys) c
leads_append a b c xs ys (stays state) more = more
leads_append a b c xs ys (skips state end line lines unended skip rest) more = skips state c line (lines ++ ys) unended skip (leads_append (passed state) end c lines ys rest more)
leads_append a b c xs ys (tells state end line lines said unended told_line short say rule rest) more =
    tells state c line (lines ++ ys) said unended told_line short say rule (leads_append (told state said) end c lines ys rest more)

-- after `begin` no line leads on
ended_last : (a b : HeaderState) (xs : List (List ℕ)) → Leads a xs b → a.ended ≡ true → (xs ≡ []) × (a ≡ b)
ended_last a b xs (stays state) over = (refl, refl)
ended_last a b xs (skips state end line lines unended skip rest) over = let wrong : true ≡ false = sym over ∙ unended in cc
ended_last a b xs (tells state end line lines said unended told_line short say rule rest) over = let wrong : true ≡ false = sym over ∙ unended in cc

-- lines that lead on are passed
leads_run : (a b : HeaderState) (xs rest : List (List ℕ)) → Leads a xs b → b.ended ≡ false → opening_from a (xs ++ rest) ≡ opening_from b rest
leads_run a b xs rest (stays state) going = refl
leads_run a b xs rest (skips state end line lines unended skip more) going =
    ap (after_step (lines ++ rest) (λ next. opening_from next (lines ++ rest))) (step_goes-skip state line skip)
    ∙ ap (λ over. elim over [ true ↦ opens state.schema (state.taken + 1 + 1) (lines ++ rest) | false ↦ opening_from (passed state) (lines ++ rest) ]) unended
    ∙ leads_run (passed state) end lines rest more going
leads_run a b xs rest (tells state end line lines said unended told_line short say rule more) going =
    ap (after_step (lines ++ rest) (λ next. opening_from next (lines ++ rest))) (step_said state line said None told_line short say rule)
    ∙ by (told state said).ended (leads_run (told state said) end lines rest more going) refl
  where
    by : (over : Bool) → opening_from (told state said) (lines ++ rest) ≡ opening_from end rest → (told state said).ended ≡ over
        → elim over [ true ↦ opens (told state said).schema (state.taken + 1 + 1) (lines ++ rest) | false ↦ opening_from (told state said) (lines ++ rest) ] ≡ opening_from end rest
    by true later over = let last = ended_last (told state said) end lines more over in let wrong : true ≡ false = sym over ∙ ap (λ s. s.ended) last.1 ∙ going in cc
    by false later over = later

-- lines that lead to `begin` are a header
leads_end : (a b : HeaderState) (xs rest : List (List ℕ)) → Leads a xs b → a.ended ≡ false → b.ended ≡ true → opening_from a (xs ++ rest) ≡ opens b.schema (b.taken + 1) rest
leads_end a b xs rest (stays state) unended over = let wrong : true ≡ false = sym over ∙ unended in cc
leads_end a b xs rest (skips state end line lines going skip more) unended over =
    ap (after_step (lines ++ rest) (λ next. opening_from next (lines ++ rest))) (step_goes-skip state line skip)
    ∙ ap (λ o. elim o [ true ↦ opens state.schema (state.taken + 1 + 1) (lines ++ rest) | false ↦ opening_from (passed state) (lines ++ rest) ]) going
    ∙ leads_end (passed state) end lines rest more going over
leads_end a b xs rest (tells state end line lines said going told_line short say rule more) unended over =
    ap (after_step (lines ++ rest) (λ next. opening_from next (lines ++ rest))) (step_said state line said None told_line short say rule)
    ∙ by (told state said).ended (λ o. leads_end (told state said) end lines rest more o over) refl
  where
    by : (o : Bool) → ((told state said).ended ≡ false → opening_from (told state said) (lines ++ rest) ≡ opens end.schema (end.taken + 1) rest) → (told state said).ended ≡ o
        → elim o [ true ↦ opens (told state said).schema (state.taken + 1 + 1) (lines ++ rest) | false ↦ opening_from (told state said) (lines ++ rest) ] ≡ opens end.schema (end.taken + 1) rest
    by true later o =
        let last = ended_last (told state said) end lines more o in
        ap (λ ls. opens (told state said).schema (state.taken + 1 + 1) (ls ++ rest)) last.0
        ∙ ap (λ s. opens s.schema (s.taken + 1) rest) last.1
    by false later o = later o

-- a line that breaks a rule is refused
breaks_step : (state : HeaderState) (line : List ℕ) (refusal : SchemaRefusal) → Breaks state line refusal → step state line ≡ refuses refusal
breaks_step state line refusal (told_line, inl (is, inl long)) =
    ap (λ b. if b then goes (passed state) else step_by state (line_of state line)) told_line
    ∙ ap (λ b. step_by state (if b then declaration_of line else None)) (lt-leb (length line) state.longest long)
    ∙ ap refuses (sym is)
breaks_step state line refusal (told_line, inl (is, inr none)) =
    ap (λ b. if b then goes (passed state) else step_by state (line_of state line)) told_line
    ∙ by (nat_le (length line) state.longest) (declaration_of line) refl
    ∙ ap refuses (sym is)
  where
    by : (short : Bool) (said : Option HeaderLine) → declaration_of line ≡ said → step_by state (if short then said else None) ≡ refuses (BadLine (state.taken + 1))
    by false said is-said = refl
    by true None is-said = refl
    by true (Some said) is-said = absurd (none said (says line said is-said))
breaks_step state line refusal (told_line, inr (said, short, say, rule)) = step_said state line said (Some refusal) told_line short say rule

-- a line that leads on, with what the lines after it open with
opened_goes : (longest : ℕ) (front : List (List ℕ)) (state next : HeaderState) (line : List ℕ) (rest : List (List ℕ)) → Leads (opening longest) front state → Leads state (line ∷ []) next
    → (Leads (opening longest) (front ++ line ∷ []) next → next.ended ≡ false → IsOpening longest ((front ++ line ∷ []) ++ rest) (opening_from next rest))
    → (over : Bool) → next.ended ≡ over → IsOpening longest (front ++ line ∷ rest) (elim over [ true ↦ opens next.schema (next.taken + 1) rest | false ↦ opening_from next rest ])
opened_goes longest front state next line rest leads one later true over =
    let all = leads_append (opening longest) state next front (line ∷ []) leads one in
    let count : next.taken + 1 ≡ length (front ++ line ∷ []) + 1 = omega (arith, leads_count (opening longest) next (front ++ line ∷ []) all) in
    (front ++ line ∷ [], sym (append_assoc front (line ∷ []) rest), count, record { last = next; leads = all; begins = over; declares = refl })
opened_goes longest front state next line rest leads one later false over =
    let all = leads_append (opening longest) state next front (line ∷ []) leads one in
    subst (λ ls. IsOpening longest ls (opening_from next rest)) (append_assoc front (line ∷ []) rest) (later all over)

-- what lines open with, from where lines in front of them have led
opened : (longest : ℕ) (front : List (List ℕ)) (state : HeaderState) → Leads (opening longest) front state → state.ended ≡ false → (rest : List (List ℕ))
    → IsOpening longest (front ++ rest) (opening_from state rest)
unfolding StepShows
opened longest front state leads unended [] =
    let count : state.taken + 1 ≡ length (front ++ []) + 1 = omega (arith, leads_count (opening longest) state front leads, length-append front []) in
    rw count (subst (λ ls. HeaderFault longest ls (NoBegin (length ls + 1))) (sym (append-nil front)) (lacks front state leads unended))
opened longest front state leads unended (line ∷ rest) = by (step state line) (λ next all going. opened longest (front ++ line ∷ []) next all going rest) refl
  where
    by : (answer : Step)
        → ((next : HeaderState) → Leads (opening longest) (front ++ line ∷ []) next → next.ended ≡ false → IsOpening longest ((front ++ line ∷ []) ++ rest) (opening_from next rest))
        → step state line ≡ answer → IsOpening longest (front ++ line ∷ rest) (after_step rest (λ next. opening_from next rest) answer)
    by (refuses refusal) later is = breaks front rest line state refusal leads unended (step_shows state line (refuses refusal) unended is)
    by (goes next) later is = opened_goes longest front state next line rest leads (step_shows state line (goes next) unended is) (later next) next.ended refl

-- and there is no other
pub only_opening : (longest : ℕ) (lines : List (List ℕ)) (answer : Opening) → IsOpening longest lines answer → answer ≡ opening_of longest lines
only_opening longest lines (opens schema number rest) (header, is, count, spells) =
    let run = leads_end (opening longest) spells.last header rest spells.leads refl spells.begins in
    let number_is : number ≡ spells.last.taken + 1 = omega (arith, count, leads_count (opening longest) spells.last header spells.leads) in
    ap (λ n. opens schema n rest) number_is
    ∙ ap (λ s. opens s (spells.last.taken + 1) rest) (sym spells.declares)
    ∙ sym run
    ∙ ap (opening_of longest) (sym is)
only_opening longest lines (refused refusal) (breaks front rest line state r leads unended broken) =
    sym (leads_run (opening longest) state front (line ∷ rest) leads unended
    ∙ ap (after_step rest (λ next. opening_from next rest)) (breaks_step state line r broken))
only_opening longest lines (refused refusal) (lacks ls state leads unended) =
    sym (ap (opening_of longest) (sym (append-nil ls))
    ∙ leads_run (opening longest) state ls [] leads unended
    ∙ ap (λ n. refused (NoBegin (n + 1))) (leads_count (opening longest) state ls leads ∙ zero-add (length ls)))

pub opens_by_text : OpensByText
opens_by_text = record {
  is = λ longest lines. opened longest [] (opening longest) (stays (opening longest)) refl lines;
  only = only_opening;
}
