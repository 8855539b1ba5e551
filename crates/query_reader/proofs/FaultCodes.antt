-- Each first fault has the code of its token, by what is written before it.
use Rattle.std.proofs.Common.{◌≡◌, ℕ, ◌+◌, ◌==◌, ◌&&◌, Bool, true, false, cond, List, [], ◌∷◌, ◌++◌, length, map, Option, None, Some, is_some, Result, Ok, Err, refl, sym, ap, ◌∙◌, subst, arith, ◌⊎◌, inl, inr}
use Rattle.std.proofs.lemmas.Bool.{and_parts}
use Rattle.std.specs.Option.{option_map, option_or}
use Rattle.uni_base.specs.Words.{is_word, starts_with_letter, is_name}
use Rattle.uni_base.specs.Numbers.{is_number}
use Rattle.uni_base.specs.Fields.{cut_at}
use Rattle.query_tree.specs.declared.dialect.Dialect.{Dialect}
use Rattle.query_tree.specs.declared.kind.TermKind.TheVariants as terms
use Rattle.query_tree.specs.Tree.{Tree}
use Rattle.query_reader.specs.declared.token.TokenKind.{TokenKind}
use Rattle.query_reader.specs.declared.token.TokenKind.TheVariants as kinds
use Rattle.query_reader.specs.Atoms.{is_empty, starred_word, colon_kind, slash_kind}
use Rattle.query_reader.specs.Tokens.{kind_of}
use Rattle.query_reader.specs.Spans.{AreSpaces}
use Rattle.query_reader.specs.Reading.{Lexeme, Refused, State, start, both_words, front_word, step, ended, go_on, read_from, lexeme_of, tokens_read}
use Rattle.query_reader.specs.Depth.{open_after}
use Rattle.query_reader.specs.FaultCodes.{Outline, nothing, code_in, code_at, written, with_token, is_whole, IsCodedFault, FaultHasItsCode}
use Rattle.query_reader.proofs.Counted.{Fits, StepFits, step_fits}
use Rattle.query_reader.proofs.Runs.{spans_read}
use Rattle.query_reader.proofs.SpelledWithin.{AreFormed, lexemes_formed, HasName, neither, no_slash_kind}
use Rattle.query_reader.proofs.Outlined.{IsShown, StepShown, HasForm, step_shown, whole_is}

-- the words of an atom at its colon, by its kind
abbrev CutHasForm : TokenKind → Option (List ℕ × List ℕ) → Type 0
CutHasForm kinds.Term cut = (pair : List ℕ × List ℕ) × (both_words terms.Whole cut ≡ Some pair)
CutHasForm kinds.Stem cut = (pair : List ℕ × List ℕ) × (both_words terms.Prefix cut ≡ Some pair)
CutHasForm kinds.Prefix cut = (name : List ℕ) × (front_word cut ≡ Some name)
CutHasForm kind cut = Unit {0}

parts_form : (parts : List ℕ × List ℕ) (empty name tail_name tail_empty tail_word two : Bool) (starred : Option (List ℕ)) (kind : TokenKind) (slash : Option (List ℕ × List ℕ))
    → is_name parts.0 ≡ name → is_word parts.1 ≡ tail_word → starred_word parts.1 ≡ starred → HasName kind
    → option_or (cond empty (cond tail_name (Some kinds.Option) None) (cond name (cond tail_empty (Some kinds.Prefix) (cond tail_word (Some kinds.Term) (cond (two && is_some starred) (Some kinds.Stem) None))) None)) (slash_kind slash) ≡ Some kind
    → CutHasForm kind (Some parts)
parts_form parts true name true tail_empty tail_word two starred kind slash is_named is_tail is_starred has_name is_kind =
    let same : kinds.Option ≡ kind = cc in absurd (subst HasName (sym same) has_name)
parts_form parts true name false tail_empty tail_word two starred kind slash is_named is_tail is_starred has_name is_kind =
    absurd (no_slash_kind kind slash has_name is_kind)
parts_form parts false true tail_name true tail_word two starred kind slash is_named is_tail is_starred has_name is_kind =
    let same : kinds.Prefix ≡ kind = cc in
    let word : is_word parts.0 ≡ true = (and_parts (is_word parts.0) (starts_with_letter parts.0) is_named).0 in
    subst (λ (k : TokenKind). CutHasForm k (Some parts)) same (parts.0, ap (λ b. cond b (Some parts.0) None) word)
parts_form parts false true tail_name false true two starred kind slash is_named is_tail is_starred has_name is_kind =
    let same : kinds.Term ≡ kind = cc in
    let word : is_word parts.0 ≡ true = (and_parts (is_word parts.0) (starts_with_letter parts.0) is_named).0 in
    subst (λ (k : TokenKind). CutHasForm k (Some parts)) same (
      (parts.0, parts.1),
      ap (λ b. cond b (option_map (λ (key : List ℕ). (parts.0, key)) (cond (is_word parts.1) (Some parts.1) None)) None) word
          ∙ ap (λ b. option_map (λ (key : List ℕ). (parts.0, key)) (cond b (Some parts.1) None)) is_tail,
    )
parts_form parts false true tail_name false false true (Some key) kind slash is_named is_tail is_starred has_name is_kind =
    let same : kinds.Stem ≡ kind = cc in
    let word : is_word parts.0 ≡ true = (and_parts (is_word parts.0) (starts_with_letter parts.0) is_named).0 in
    subst (λ (k : TokenKind). CutHasForm k (Some parts)) same (
      (parts.0, key),
      ap (λ b. cond b (option_map (λ (key : List ℕ). (parts.0, key)) (starred_word parts.1)) None) word
          ∙ ap (option_map (λ (key : List ℕ). (parts.0, key))) is_starred,
    )
parts_form parts false true tail_name false false true None kind slash is_named is_tail is_starred has_name is_kind =
    absurd (no_slash_kind kind slash has_name is_kind)
parts_form parts false true tail_name false false false starred kind slash is_named is_tail is_starred has_name is_kind =
    absurd (no_slash_kind kind slash has_name is_kind)
parts_form parts false false tail_name tail_empty tail_word two starred kind slash is_named is_tail is_starred has_name is_kind =
    absurd (no_slash_kind kind slash has_name is_kind)

cut_form : (format : ℕ) (cut slash : Option (List ℕ × List ℕ)) (kind : TokenKind) → HasName kind
    → option_or (colon_kind format cut) (slash_kind slash) ≡ Some kind → CutHasForm kind cut
cut_form format None slash kind has_name is_kind = absurd (no_slash_kind kind slash has_name is_kind)
cut_form format (Some parts) slash kind has_name is_kind =
    parts_form parts (is_empty parts.0) (is_name parts.0) (is_name parts.1) (is_empty parts.1) (is_word parts.1) (format == 2) (starred_word parts.1) kind slash refl refl refl has_name is_kind

bytes_form : (format : ℕ) (kind : TokenKind) (bytes : List ℕ) → HasName kind → kind_of format bytes ≡ Some kind → CutHasForm kind (cut_at 58 bytes)
bytes_form format kind [] has_name is_kind = absurd (cc)
bytes_form format kind (c ∷ cs) has_name is_kind =
    cut_form format (cut_at 58 (c ∷ cs)) (cut_at 47 (c ∷ cs)) kind has_name
    (neither (c == 40) (c == 41) (is_name (c ∷ cs)) (is_number (c ∷ cs)) kind
    (option_or (colon_kind format (cut_at 58 (c ∷ cs))) (slash_kind (cut_at 47 (c ∷ cs)))) has_name is_kind)

form_is : (format : ℕ) (kind : TokenKind) (bytes : List ℕ) → kind_of format bytes ≡ Some kind → HasForm kind bytes
form_is format kinds.Term bytes is_kind = bytes_form format kinds.Term bytes tt is_kind
form_is format kinds.Stem bytes is_kind = bytes_form format kinds.Stem bytes tt is_kind
form_is format kinds.Prefix bytes is_kind = bytes_form format kinds.Prefix bytes tt is_kind
form_is format kind bytes is_kind = tt

abbrev HaveForms : List Lexeme → Type 0
HaveForms [] = Unit {0}
HaveForms (token ∷ others) = HasForm token.kind token.bytes × HaveForms others

forms_are : (format : ℕ) (all : List Lexeme) → AreFormed format all → HaveForms all
forms_are format [] formed = tt
forms_are format (token ∷ others) formed = (form_is format token.kind token.bytes formed.0, forms_are format others formed.1)

-- a state of the reading, and what is written there
record Known (dialect : Dialect) (state : State) (outline : Outline) : Type 0 where
  shown : IsShown state.open_lists state.whole outline.own outline.around
  nodes : state.nodes ≡ outline.nodes
  fits : Fits dialect state.open_lists state.whole state.nodes (length state.open_lists)

abbrev StepKnown : Dialect → Lexeme → Outline → Result State Refused → Type 0
StepKnown dialect token outline (Ok next) = (code_at dialect outline token ≡ None) × Known dialect next (with_token outline token)
StepKnown dialect token outline (Err fault) = (code_at dialect outline token ≡ Some fault.code) × (token.column ≡ fault.column)

step_known : (dialect : Dialect) (state : State) (outline : Outline) (token : Lexeme) → HasForm token.kind token.bytes → Known dialect state outline
    → (result : Result State Refused) → step dialect state token ≡ result → StepKnown dialect token outline result
step_known dialect state outline token form known result is_step =
    by result
    (subst (λ (r : Result State Refused). StepShown r (code_at dialect outline token) (with_token outline token)) is_step
    (subst
    (λ (n : ℕ).
    StepShown (step dialect state token) (code_in dialect outline.own outline.around n token.kind token.bytes)
    (written outline.own outline.around n token.kind token.bytes))
    known.nodes
    (step_shown dialect token state.open_lists state.whole outline.own outline.around state.nodes form known.shown)))
    (subst (λ (r : Result State Refused). StepFits dialect token r (open_after (length state.open_lists) token.kind)) is_step
    (step_fits dialect state.open_lists state.whole state.nodes token known.fits))
  where
    by : (result : Result State Refused) → StepShown result (code_at dialect outline token) (with_token outline token)
        → StepFits dialect token result (open_after (length state.open_lists) token.kind) → StepKnown dialect token outline result
    by (Ok next) shown fits = (
      shown.0,
      record {
        shown = shown.1;
        nodes = shown.2;
        fits = subst (λ n. Fits dialect next.open_lists next.whole next.nodes n) (sym fits.are_open) fits;
      },
    )
    by (Err fault) shown fits = (shown, sym fits)

-- the first of some tokens has the code, or goes on
abbrev GoesOn : Dialect → ℕ → Outline → Lexeme → List Lexeme → ℕ → ℕ → Type 0
GoesOn dialect end outline token others code column =
    (code_at dialect outline token ≡ None) × IsCodedFault dialect end (with_token outline token) others code column

later_fault : (dialect : Dialect) (end : ℕ) (outline : Outline) (token : Lexeme) (others : List Lexeme) (code column : ℕ)
    → GoesOn dialect end outline token others code column → IsCodedFault dialect end outline (token ∷ others) code column
later_fault dialect end outline token others code column (goes, inl at_end) = inl ((goes, at_end.0), at_end.1, at_end.2, at_end.3)
later_fault dialect end outline token others code column (goes, inr (front, (at, (rest, (are, all_go, has_code, has_column))))) =
    inr (token ∷ front, (at, (rest, (ap (λ (xs : List Lexeme). token ∷ xs) are, (goes, all_go), has_code, has_column))))

first_or_later : (dialect : Dialect) (end : ℕ) (outline : Outline) (token : Lexeme) (others : List Lexeme) (code column : ℕ)
    → IsCodedFault dialect end outline (token ∷ others) code column
    → ((code_at dialect outline token ≡ Some code) × (token.column ≡ column)) ⊎ GoesOn dialect end outline token others code column
first_or_later dialect end outline token others code column (inl at_end) = inr (at_end.0.0, inl (at_end.0.1, at_end.1, at_end.2, at_end.3))
first_or_later dialect end outline token others code column (inr ([], (at, (rest, (are, all_go, has_code, has_column))))) =
    let same : token ≡ at = cc in
    inl (
      ap (code_at dialect outline) same ∙ has_code,
      ap (λ (t : Lexeme). t.column) same ∙ has_column,
    )
first_or_later dialect end outline token others code column (inr (first ∷ front, (at, (rest, (are, all_go, has_code, has_column))))) =
    let same : token ≡ first = cc in
    let rest_is : others ≡ front ++ at ∷ rest = cc in
    inr (
      ap (code_at dialect outline) same ∙ all_go.0,
      subst (λ (t : Lexeme). IsCodedFault dialect end (with_token outline t) others code column) (sym same)
          (inr (front, (at, (rest, (rest_is, all_go.1, has_code, has_column))))),
    )

-- the end
fault_at_end : (dialect : Dialect) (end : ℕ) (outline : Outline) (whole : Option Tree) (fault : Refused) → is_whole outline.own outline.around ≡ is_some whole
    → ended end whole ≡ Err fault → IsCodedFault dialect end outline [] fault.code fault.column
fault_at_end dialect end outline None fault is_same is_fault =
    let same : fault ≡ record { code = 32; column = end } = cc in
    inl (tt, is_same, ap (λ (f : Refused). f.code) same, ap (λ (f : Refused). f.column) same)
fault_at_end dialect end outline (Some node) fault is_same is_fault = absurd (cc)

end_at_fault : (dialect : Dialect) (end : ℕ) (outline : Outline) (whole : Option Tree) (code column : ℕ) → is_whole outline.own outline.around ≡ is_some whole
    → IsCodedFault dialect end outline [] code column → ended end whole ≡ Err (record { code = code; column = column })
end_at_fault dialect end outline None code column is_same (inl at_end) = cc (sym at_end.2, sym at_end.3)
end_at_fault dialect end outline (Some node) code column is_same (inl at_end) = absurd (cc)
end_at_fault dialect end outline whole code column is_same (inr ([], (at, (rest, (are, all_go, has_code, has_column))))) = absurd (cc)
end_at_fault dialect end outline whole code column is_same (inr (first ∷ front, (at, (rest, (are, all_go, has_code, has_column))))) = absurd (cc)

-- a fault that is read has its code there
coded : (dialect : Dialect) (end : ℕ) (state : State) (outline : Outline) (all : List Lexeme) (fault : Refused) → HaveForms all → Known dialect state outline
    → read_from dialect end state all ≡ Err fault → IsCodedFault dialect end outline all fault.code fault.column
coded dialect end state outline [] fault forms known is_fault =
    fault_at_end dialect end outline state.whole fault (whole_is state.open_lists state.whole outline.own outline.around known.shown) is_fault
coded dialect end state outline (token ∷ others) fault forms known is_fault =
    by (step dialect state token) (step_known dialect state outline token forms.0 known (step dialect state token) refl)
    (λ next next_known is_next. coded dialect end next (with_token outline token) others fault forms.1 next_known is_next) is_fault
  where
    by : (result : Result State Refused) → StepKnown dialect token outline result
        → ((next : State) → Known dialect next (with_token outline token) → read_from dialect end next others ≡ Err fault
        → IsCodedFault dialect end (with_token outline token) others fault.code fault.column)
        → go_on result (λ next. read_from dialect end next others) ≡ Err fault → IsCodedFault dialect end outline (token ∷ others) fault.code fault.column
    by (Ok next) known_step later is_fault =
        later_fault dialect end outline token others fault.code fault.column (known_step.0, later next known_step.1 is_fault)
    by (Err refused) known_step later is_fault =
        let same : refused ≡ fault = cc in
        inr (
          [],
          (
            token,
            (
              others,
              (
                refl,
                tt,
                known_step.0 ∙ ap (λ (f : Refused). Some f.code) same,
                known_step.1 ∙ ap (λ (f : Refused). f.column) same,
              ),
            ),
          ),
        )

-- and a code is read there
read_coded : (dialect : Dialect) (end : ℕ) (state : State) (outline : Outline) (all : List Lexeme) (code column : ℕ) → HaveForms all → Known dialect state outline
    → IsCodedFault dialect end outline all code column → read_from dialect end state all ≡ Err (record { code = code; column = column })
read_coded dialect end state outline [] code column forms known is_coded =
    end_at_fault dialect end outline state.whole code column (whole_is state.open_lists state.whole outline.own outline.around known.shown) is_coded
read_coded dialect end state outline (token ∷ others) code column forms known is_coded =
    by (step dialect state token) (step_known dialect state outline token forms.0 known (step dialect state token) refl)
    (first_or_later dialect end outline token others code column is_coded)
    (λ next next_known is_next. read_coded dialect end next (with_token outline token) others code column forms.1 next_known is_next)
  where
    by : (result : Result State Refused) → StepKnown dialect token outline result
        → ((code_at dialect outline token ≡ Some code) × (token.column ≡ column)) ⊎ GoesOn dialect end outline token others code column
        → ((next : State) → Known dialect next (with_token outline token) → IsCodedFault dialect end (with_token outline token) others code column
        → read_from dialect end next others ≡ Err (record { code = code; column = column }))
        → go_on result (λ next. read_from dialect end next others) ≡ Err (record { code = code; column = column })
    by (Ok next) known_step (inl here) later = absurd (cc (known_step.0, here.0))
    by (Ok next) known_step (inr goes) later = later next known_step.1 goes.1
    by (Err refused) known_step (inl here) later =
        let code_is : refused.code ≡ code = cc (known_step.0, here.0) in
        let column_is : refused.column ≡ column = cc (known_step.1, here.1) in
        λ i. Err (record { code = code_is i; column = column_is i })
    by (Err refused) known_step (inr goes) later = absurd (cc (known_step.0, goes.0))

pub fault_has_its_code : FaultHasItsCode
fault_has_its_code = record {
  codes =
      λ dialect text lexed code column of_text.
      let is_read = ap (tokens_read dialect text) (spans_read dialect.format text lexed of_text) in
      let forms = forms_are dialect.format (map (lexeme_of text) lexed)
      (lexemes_formed dialect.format text 0 text lexed (λ at rest. AreSpaces rest) refl of_text) in
      let known : Known dialect start nothing = record {
        shown = tt;
        nodes = refl;
        fits = record { are_open = refl; deep = omega arith; counted = omega arith; few = omega arith };
      } in (
        λ is_fault. coded dialect (length text + 1) start nothing (map (lexeme_of text) lexed) (record { code = code; column = column }) forms known (sym is_read ∙ is_fault),
        λ is_coded. is_read ∙ read_coded dialect (length text + 1) start nothing (map (lexeme_of text) lexed) code column forms known is_coded,
      );
}
