-- What is read of a script, step by step.
use Rattle.std.proofs.Common.{◌≡◌, ℕ, ◌+◌, ◌≤◌, Bool, true, false, List, [], ◌∷◌, ◌++◌, length, Option, None, Some, sym, ◌∙◌, ap, subst, refl, arith, append-nil, length-append}
use Rattle.std.proofs.Math.Seq.{take-append_seam}
use Rattle.std.proofs.lemmas.List.{append_assoc}
use Rattle.uni_base.specs.declared.limits.Limits.{Limits}
use Rattle.uni_schema.specs.Schema.{Declarations}
use Rattle.script_rounds.specs.declared.item.Item.{Item}
use Rattle.script_rounds.specs.declared.item.Round.{Round}
use Rattle.script_rounds.specs.Entries.{Entry, AreItemsOf}
use Rattle.uni_base.specs.Lines.{lines_of}
use Rattle.script_rounds.specs.Reading.{Gave, NoneLeft, EndFits, IsSpent, at}
use Rattle.script_rounds.specs.Rounds.{Script, opened, rounds_from, script_of, closed_script_of}
use Rattle.script_rounds.specs.RoundsState.{RoundsState, Opened, ReadNext, ReadRound, ReadEnd, rounds_ahead, closed_ahead, lines_in_all}
use Rattle.script_rounds.specs.Terms.{Terms, under}
use Rattle.unicorn_round.specs.Outcome.{Claim, AnswersFirst, script_so_far}
use Rattle.unicorn_round.specs.Reads.{HasRead}

-- first some bytes, then more
pub gave_append : (first second third : Option (List ℕ)) (xs ys : List ℕ) → Gave first xs second → Gave second ys third → Gave first (xs ++ ys) third
gave_append None second third xs ys g h = subst (λ l. Gave l ys third) g h
gave_append (Some left) second third xs ys g h =
    let later : Gave (Some g.0) ys third = subst (λ l. Gave l ys third) g.2 h in
    (later.0, g.1 ∙ ap (λ rest. xs ++ rest) later.1 ∙ sym (append_assoc xs ys later.0), later.2)

-- where nothing is left, nothing is left after nothing was given
pub none_left_after : (before after : Option (List ℕ)) (more : List ℕ) → more ≡ [] → Gave before more after → NoneLeft before → NoneLeft after
none_left_after None after more empty g none = subst NoneLeft (sym g) tt
none_left_after (Some left) after more empty g none =
    subst NoneLeft (sym g.2) (nothing more g.0 (sym g.1 ∙ none))
  where
    nothing : (xs ys : List ℕ) → xs ++ ys ≡ [] → ys ≡ []
    nothing [] ys is = is
    nothing (x ∷ xs) ys is = absurd cc

-- a header was read
pub read_header : (limits : Limits) (state : RoundsState) (schema : Declarations) (left_before left_now : Option (List ℕ)) → Opened limits state schema left_before left_now
    → state.reader.limit ≡ limits.script → state.reader.taken ≤ limits.script → HasRead limits state schema left_before left_now []
read_header limits state schema left_before left_now o limit in_limit = record {
  bytes = o.more;
  gave = o.gave;
  taken = o.taken;
  limit = limit;
  in_limit = in_limit;
  terms = o.terms;
  script = o.script;
  closed = o.closed;
  lines = o.lines;
  end = o.end;
}

-- and a round more
pub read_more : (limits : Limits) (before after : RoundsState) (schema : Declarations) (left_before left_now left_after : Option (List ℕ)) (rounds : List (List Entry)) (items : List Item)
    → HasRead limits before schema left_before left_now rounds → (r : ReadRound before after left_now left_after items) → after.reader.taken ≤ limits.script
    → (after.reader.ended ≡ true → NoneLeft left_after)
    → HasRead limits after schema left_before left_after (rounds ++ r.entries ∷ [])
read_more limits before after schema left_before left_now left_after rounds items h r in_limit end = record {
  bytes = h.bytes ++ r.took.more;
  gave = gave_append left_before left_now left_after h.bytes r.took.more h.gave r.took.gave;
  taken = omega (arith, r.took.taken, h.taken, length-append h.bytes r.took.more);
  limit = r.took.limit ∙ h.limit;
  in_limit = in_limit;
  terms = r.took.terms ∙ h.terms;
  script = λ rest stops.
      ap (script_of limits) (append_assoc h.bytes r.took.more rest)
      ∙ h.script (r.took.more ++ rest) (empty rest stops)
      ∙ ap (λ rs. opened schema (rounds ++ rs)) (r.first rest stops)
      ∙ ap (opened schema) (sym (append_assoc rounds (r.entries ∷ []) (rounds_ahead after rest)));
  closed = λ unended rest.
      ap (closed_script_of limits) (append_assoc h.bytes r.took.more rest)
      ∙ h.closed (unended_before before.reader.ended refl unended) (r.took.more ++ rest)
      ∙ ap (λ rs. opened schema (rounds ++ rs)) (r.closed unended rest)
      ∙ ap (opened schema) (sym (append_assoc rounds (r.entries ∷ []) (closed_ahead after rest)));
  lines = λ rest stops.
      ap (λ bytes. length (lines_of bytes)) (append_assoc h.bytes r.took.more rest)
      ∙ h.lines (r.took.more ++ rest) (empty rest stops)
      ∙ r.lines rest stops;
  end = end;
}
  where
    empty : (rest : List ℕ) → (after.reader.ended ≡ true → rest ≡ []) → before.reader.ended ≡ true → r.took.more ++ rest ≡ []
    empty rest stops ended = ap (λ more. more ++ rest) (r.took.spent ended) ∙ stops (r.took.stays ended)

    unended_before : (ended : Bool) → before.reader.ended ≡ ended → after.reader.ended ≡ false → before.reader.ended ≡ false
    unended_before false is unended = is
    unended_before true is unended = absurd (let ended : after.reader.ended ≡ true = r.took.stays is in cc)

-- the rounds that were read are the first of the script as far as it was taken, with more bytes of it
so_far_more : (limits : Limits) (state : RoundsState) (schema : Declarations) (left_before left_now : Option (List ℕ)) (rounds : List (List Entry)) (more : List ℕ)
    (h : HasRead limits state schema left_before left_now rounds) → (state.reader.ended ≡ true → more ≡ [])
    → (others : List (List Entry)) × (script_so_far limits state.reader.ended (h.bytes ++ more) ≡ opened schema (rounds ++ others))
so_far_more limits state schema left_before left_now rounds more h stops = by state.reader.ended refl
  where
    by : (ended : Bool) → state.reader.ended ≡ ended → (others : List (List Entry)) × (script_so_far limits ended (h.bytes ++ more) ≡ opened schema (rounds ++ others))
    by true is = (rounds_ahead state more, h.script more stops)
    by false is = (closed_ahead state more, h.closed is more)

-- a text that answers some first rounds of a script
first_of : (limits : Limits) (says : Claim) (schema : Declarations) (script : Script) (rounds others : List (List Entry)) (text : List ℕ) → script ≡ opened schema (rounds ++ others)
    → says (under limits schema) rounds text → AnswersFirst limits says script text
first_of limits says schema script rounds others text is told =
    subst (λ s. AnswersFirst limits says s text) (sym is)
    (length rounds, subst (λ rs. says (under limits schema) rs text) (sym (take-append_seam rounds others)) told)

-- so of the rounds that were read
pub all_rounds : (limits : Limits) (says : Claim) (state : RoundsState) (schema : Declarations) (left_before left_now : Option (List ℕ)) (rounds : List (List Entry)) (text more : List ℕ)
    (h : HasRead limits state schema left_before left_now rounds) → (state.reader.ended ≡ true → more ≡ []) → says (under limits schema) rounds text
    → AnswersFirst limits says (script_so_far limits state.reader.ended (h.bytes ++ more)) text
all_rounds limits says state schema left_before left_now rounds text more h stops told =
    let found = so_far_more limits state schema left_before left_now rounds more h stops in
    first_of limits says schema (script_so_far limits state.reader.ended (h.bytes ++ more)) rounds found.0 text found.1 told

-- or of some first ones of them
pub first_rounds : (limits : Limits) (says : Claim) (state : RoundsState) (schema : Declarations) (left_before left_now : Option (List ℕ)) (rounds more_rounds : List (List Entry)) (text more : List ℕ)
    (h : HasRead limits state schema left_before left_now (rounds ++ more_rounds)) → (state.reader.ended ≡ true → more ≡ []) → says (under limits schema) rounds text
    → AnswersFirst limits says (script_so_far limits state.reader.ended (h.bytes ++ more)) text
first_rounds limits says state schema left_before left_now rounds more_rounds text more h stops told =
    let found = so_far_more limits state schema left_before left_now (rounds ++ more_rounds) more h stops in
    first_of limits says schema (script_so_far limits state.reader.ended (h.bytes ++ more)) rounds (more_rounds ++ found.0) text
    (found.1 ∙ ap (opened schema) (append_assoc rounds more_rounds found.0)) told

-- nothing is ahead of a reader that has given all of the input on
none_ahead : (state : RoundsState) → IsSpent state.reader → (rest : List ℕ) → (state.reader.ended ≡ true → rest ≡ []) → state.reader.ahead ++ rest ≡ []
none_ahead state spent rest stops = ap (λ ahead. ahead ++ rest) spent.1 ∙ stops spent.0

pub no_rounds_ahead : (state : RoundsState) → IsSpent state.reader → (rest : List ℕ) → (state.reader.ended ≡ true → rest ≡ []) → rounds_ahead state rest ≡ []
no_rounds_ahead state spent rest stops = ap (λ bytes. rounds_from state.terms (state.reader.lines + 1) 0 (lines_of bytes)) (none_ahead state spent rest stops)

pub no_lines_ahead : (state : RoundsState) → IsSpent state.reader → (rest : List ℕ) → (state.reader.ended ≡ true → rest ≡ []) → lines_in_all state rest ≡ state.reader.lines
no_lines_ahead state spent rest stops =
    ap (λ bytes. state.reader.lines + length (lines_of bytes)) (none_ahead state spent rest stops) ∙ (let none : state.reader.lines + 0 ≡ state.reader.lines = omega arith in none)

-- the end was read
pub read_end : (limits : Limits) (before after : RoundsState) (schema : Declarations) (left_before left_now left_after : Option (List ℕ)) (rounds : List (List Entry))
    → HasRead limits before schema left_before left_now rounds → ReadEnd before after left_now left_after → after.reader.taken ≤ limits.script
    → (after.reader.ended ≡ true → NoneLeft left_after)
    → HasRead limits after schema left_before left_after rounds
read_end limits before after schema left_before left_now left_after rounds h r in_limit end = record {
  bytes = h.bytes ++ r.took.more;
  gave = gave_append left_before left_now left_after h.bytes r.took.more h.gave r.took.gave;
  taken = omega (arith, r.took.taken, h.taken, length-append h.bytes r.took.more);
  limit = r.took.limit ∙ h.limit;
  in_limit = in_limit;
  terms = r.took.terms ∙ h.terms;
  script = λ rest stops.
      ap (λ more. script_of limits ((h.bytes ++ r.took.more) ++ more)) (stops r.spent.0)
      ∙ ap (script_of limits) (append-nil (h.bytes ++ r.took.more))
      ∙ h.script r.took.more r.took.spent
      ∙ ap (λ rs. opened schema (rounds ++ rs)) (r.none ∙ sym (no_rounds_ahead after r.spent rest stops));
  closed = λ unended rest. absurd (let ended : after.reader.ended ≡ true = r.spent.0 in cc);
  lines = λ rest stops.
      ap (λ more. length (lines_of ((h.bytes ++ r.took.more) ++ more))) (stops r.spent.0)
      ∙ ap (λ bytes. length (lines_of bytes)) (append-nil (h.bytes ++ r.took.more))
      ∙ h.lines r.took.more r.took.spent
      ∙ r.lines
      ∙ sym (no_lines_ahead after r.spent rest stops);
  end = end;
}

-- a round was read, of some entries
pub record ReadsOn (limits : Limits) (state : RoundsState) (schema : Declarations) (left_before left_now : Option (List ℕ)) (rounds : List (List Entry)) (items : List Item) : Type 0 where
  pub entries : List Entry
  pub are : AreItemsOf entries items
  pub read : HasRead limits state schema left_before left_now (rounds ++ entries ∷ [])

in_limit : (limits : Limits) (before after : RoundsState) (schema : Declarations) → before.terms ≡ under limits schema → after.terms ≡ before.terms
    → after.reader.taken ≤ after.terms.limits.script → after.reader.taken ≤ limits.script
in_limit limits before after schema is same within = subst (λ (t : Terms). after.reader.taken ≤ t.limits.script) (same ∙ is) within

pub reads_on : (limits : Limits) (before after : RoundsState) (schema : Declarations) (left_before left_now left_after : Option (List ℕ)) (rounds : List (List Entry)) (next : Option Round) (round : Round)
    → next ≡ Some round → HasRead limits before schema left_before left_now rounds → ReadNext before after left_now left_after next → after.terms ≡ before.terms
    → after.reader.taken ≤ after.terms.limits.script → (EndFits (at before.reader left_now) → EndFits (at after.reader left_after))
    → ReadsOn limits after schema left_before left_after rounds round.items
reads_on limits before after schema left_before left_now left_after rounds next round is h read same within end =
    let r = subst (ReadNext before after left_now left_after) is read in record {
      entries = r.entries;
      are = r.gives;
      read = read_more limits before after schema left_before left_now left_after rounds round.items h r (in_limit limits before after schema h.terms same within) (end h.end);
    }

-- the end was read
pub ends_on : (limits : Limits) (before after : RoundsState) (schema : Declarations) (left_before left_now left_after : Option (List ℕ)) (rounds : List (List Entry)) (next : Option Round)
    → next ≡ None → HasRead limits before schema left_before left_now rounds → ReadNext before after left_now left_after next → after.terms ≡ before.terms
    → after.reader.taken ≤ after.terms.limits.script → (EndFits (at before.reader left_now) → EndFits (at after.reader left_after))
    → HasRead limits after schema left_before left_after rounds × IsSpent after.reader
ends_on limits before after schema left_before left_now left_after rounds next is h read same within end =
    let r = subst (ReadNext before after left_now left_after) is read in
    (read_end limits before after schema left_before left_now left_after rounds h r (in_limit limits before after schema h.terms same within) (end h.end), r.spent)
