-- A round, line by line.
use Rattle.std.proofs.Common.{◌≡◌, ℕ, ◌+◌, ◌<◌, ◌≤◌, true, false, List, [], ◌∷◌, ◌++◌, length, take, drop, Option, None, Some, sym, ◌∙◌, ap, subst, refl, arith, append-nil}
use Rattle.std.specs.Prelude.{Result, Ok, Err, OnOk, is_err}
use Rattle.script_rounds.specs.declared.item.Item.{Item as AnItem}
use Rattle.script_rounds.specs.declared.item.RoundLine.{RoundLine}
use Rattle.script_rounds.specs.declared.item.RoundLine.TheVariants.{Go, Skipped, Item}
use Rattle.script_rounds.specs.declared.lines.ScriptRefusal.{ScriptRefusal}
use Rattle.script_rounds.specs.declared.lines.ScriptRefusal.TheVariants.{Memory}
use Rattle.script_rounds.specs.Entries.{Entry, AreItemsOf}
use Rattle.script_rounds.specs.Fits.{ItemsFit, LineFits}
use Rattle.script_rounds.specs.Reading.{LineState, Place, at, Went, IsFront, Stopped}
use Rattle.script_rounds.specs.Roles.{Role, role_of, IsLineOf}
use Rattle.script_rounds.specs.Rounds.{entry_in, entries_from}
use Rattle.script_rounds.specs.RoundReads.{BrokeOff, Keeps, TookLine, SoFar, TookRound, TookNext}
use Rattle.script_rounds.specs.Terms.{Terms}
use Rattle.script_rounds.proofs.ReadSteps.{went_front, went_more, went_nothing}
use Rattle.script_rounds.proofs.RoleSteps.{is_end, is_end-role_of, role_of-cut}
use Rattle.script_rounds.proofs.RoundSteps.{clear_more, entries_from-append}

-- a line was taken, and read as what its first bytes are
pub took_line : (terms : Terms) (before filled after : LineState) (left_before left_after : Option (List ℕ)) (count len number : ℕ) (front : List ℕ) (line : RoundLine)
    → Keeps terms.limits before → Went (at before left_before) (at filled left_after) [] → IsFront filled len
    → after ≡ record filled { ahead = drop (len + 1) filled.ahead; lines = filled.lines + 1 } → number ≡ filled.lines + 1 → front ≡ take len filled.ahead
    → IsLineOf (role_of terms number count front) line → LineFits terms line
    → TookLine terms (at before left_before) (at after left_after) count (Some line)
took_line terms before filled after left_before left_after count len number front line keeps went at_front is number_is front_is role fits = (
  text,
  (
    went_more (at before left_before) (at filled left_after) (at after left_after) [] (text ∷ []) went (went_front filled after left_after len at_front is),
    subst (λ r. IsLineOf r line) same role,
    fits,
  ),
)
  where
    text : List ℕ
    text = take filled.kept (take len filled.ahead)

    number_same : number ≡ before.lines + 1
    number_same = omega (arith, number_is, went.lines)

    same : role_of terms number count front ≡ role_of terms (before.lines + 1) count text
    same =
        ap (λ n. role_of terms n count front) number_same
        ∙ ap (role_of terms (before.lines + 1) count) front_is
        ∙ sym (role_of-cut terms (before.lines + 1) count filled.kept (take len filled.ahead) (omega (arith, keeps.line, went.kept)) (omega (arith, keeps.go, went.kept)))

-- as many items as entries
pub items-length : (entries : List Entry) (items : List AnItem) → AreItemsOf entries items → length items ≡ length entries
items-length [] [] are = refl
items-length [] (item ∷ items) are = absurd are
items-length (entry ∷ entries) [] are = absurd are
items-length (entry ∷ entries) (item ∷ items) are = omega (arith, items-length entries items are.1)

items-append : (entries more : List Entry) (items others : List AnItem) → AreItemsOf entries items → AreItemsOf more others → AreItemsOf (entries ++ more) (items ++ others)
items-append [] more [] others are rest = rest
items-append [] more (item ∷ items) others are rest = absurd are
items-append (entry ∷ entries) more [] others are rest = absurd are
items-append (entry ∷ entries) more (item ∷ items) others are rest = (are.0, items-append entries more items others are.1 rest)

fit-append : (terms : Terms) (items others : List AnItem) → ItemsFit terms items → ItemsFit terms others → ItemsFit terms (items ++ others)
fit-append terms [] others fit rest = rest
fit-append terms (item ∷ items) others fit rest = (fit.0, fit-append terms items others fit.1 rest)

-- no line yet
pub so_far_start : (terms : Terms) (place : Place) → SoFar terms place place []
so_far_start terms place = record { lines = []; went = went_nothing place; clear = refl; gives = tt; fits = tt }

-- what a line adds to the items
added : RoundLine → List AnItem
added Go = []
added Skipped = []
added (Item item) = item ∷ []

added-are : (role : Role) (line : RoundLine) → IsLineOf role line → is_end role ≡ false → AreItemsOf (entry_in role) (added line)
unfolding added
added-are role Go is within = let ends : is_end role ≡ true = ap is_end is in absurd cc
added-are role Skipped is within = subst (λ r. AreItemsOf (entry_in r) []) (sym is) tt
added-are role (Item item) is within = subst (λ r. AreItemsOf (entry_in r) (item ∷ [])) (sym is.1) (is.2, tt)

added-fit : (terms : Terms) (line : RoundLine) → LineFits terms line → ItemsFit terms (added line)
unfolding added
added-fit terms Go fits = tt
added-fit terms Skipped fits = tt
added-fit terms (Item item) fits = (fits, tt)

-- one line more, which does not end its round
so_far_more : (terms : Terms) (before now after : Place) (items : List AnItem) (count : ℕ) (line : RoundLine) (s : SoFar terms before now items) → count ≡ length items
    → (took : TookLine terms now after count (Some line)) → is_end (role_of terms (now.reader.lines + 1) count took.0) ≡ false
    → SoFar terms before after (items ++ added line)
so_far_more terms before now after items count line s counts took within = record {
  lines = s.lines ++ text ∷ [];
  went = went_more before now after s.lines (text ∷ []) s.went took.1.0;
  clear = clear_more s.lines text s.clear (sym (is_end-role_of terms (now.reader.lines + 1) count text) ∙ within);
  gives = subst (λ es. AreItemsOf es (items ++ added line)) (sym grown)
      (items-append entries (entry_in role) items (added line) s.gives (added-are role line took.1.1 within));
  fits = fit-append terms items (added line) s.fits (added-fit terms line took.1.2);
}
  where
    text : List ℕ
    text = took.0

    role : Role
    role = role_of terms (now.reader.lines + 1) count text

    entries : List Entry
    entries = entries_from terms (before.reader.lines + 1) 0 s.lines

    number_is : before.reader.lines + 1 + length s.lines ≡ now.reader.lines + 1
    number_is = omega (arith, s.went.lines)

    count_is : 0 + length entries ≡ count
    count_is = omega (arith, counts, items-length entries items s.gives)

    grown : entries_from terms (before.reader.lines + 1) 0 (s.lines ++ text ∷ []) ≡ entries ++ entry_in role
    grown =
        entries_from-append terms (before.reader.lines + 1) 0 s.lines text s.clear
        ∙ ap (λ n. entries ++ entry_in (role_of terms n (0 + length entries) text)) number_is
        ∙ ap (λ n. entries ++ entry_in (role_of terms (now.reader.lines + 1) n text)) count_is

pub so_far_skipped : (terms : Terms) (before now after : Place) (items : List AnItem) (count : ℕ) → SoFar terms before now items → count ≡ length items
    → TookLine terms now after count (Some Skipped) → SoFar terms before after items
unfolding added
so_far_skipped terms before now after items count s counts took =
    subst (SoFar terms before after) (append-nil items) (so_far_more terms before now after items count Skipped s counts took (ap is_end took.1.1))

pub so_far_item : (terms : Terms) (before now after : Place) (items : List AnItem) (count : ℕ) (item : AnItem) → SoFar terms before now items → count ≡ length items
    → TookLine terms now after count (Some (Item item)) → SoFar terms before after (items ++ item ∷ [])
unfolding added
so_far_item terms before now after items count item s counts took =
    so_far_more terms before now after items count (Item item) s counts took (ap is_end took.1.1.1)

-- the round's end
pub round_go : (terms : Terms) (before now after : Place) (items : List AnItem) (count : ℕ) → SoFar terms before now items
    → TookLine terms now after count (Some Go) → TookRound terms before after items
round_go terms before now after items count s took = record {
  lines = s.lines;
  ending = took.0 ∷ [];
  went = went_more before now after s.lines (took.0 ∷ []) s.went took.1.0;
  ends = (sym (is_end-role_of terms (now.reader.lines + 1) count took.0) ∙ ap is_end took.1.1, refl);
  clear = s.clear;
  gives = s.gives;
  fits = s.fits;
}

went_end : (before now after : Place) (lines : List (List ℕ)) → Went before now lines → Went now after [] → Went before after lines
went_end before now after lines first second = subst (Went before after) (append-nil lines) (went_more before now after lines [] first second)

-- the end of the input, after some line
pub round_last : (terms : Terms) (before now after : Place) (items : List AnItem) (count : ℕ) → SoFar terms before now items → TookLine terms now after count None
    → before.reader.lines < after.reader.lines → TookRound terms before after items
round_last terms before now after items count s took some = record {
  lines = s.lines;
  ending = [];
  went = went_more before now after s.lines [] s.went took.0;
  ends = (took.1, omega (arith, some, s.went.lines, took.0.lines));
  clear = s.clear;
  gives = s.gives;
  fits = s.fits;
}

no_lines : (lines : List (List ℕ)) → length lines ≡ 0 → lines ≡ []
no_lines [] none = refl
no_lines (line ∷ lines) none = absurd (omega (arith, none))

-- the end of the input, after no line
pub round_none : (terms : Terms) (before now after : Place) (items : List AnItem) (count : ℕ) → SoFar terms before now items → TookLine terms now after count None
    → after.reader.lines ≡ before.reader.lines → TookNext terms before after None
round_none terms before now after items count s took none = (
  subst (Went before after) (no_lines s.lines (omega (arith, none, s.went.lines, took.0.lines))) (went_end before now after s.lines s.went took.0),
  took.1,
)

-- reading stopped
pub broke_off : (terms : Terms) (before now after : Place) (items : List AnItem) (refusal : ScriptRefusal) → SoFar terms before now items → Stopped now after [] refusal
    → BrokeOff before after refusal
broke_off terms before now after items refusal s stopped = record {
  lines = s.lines;
  stopped = record { edge = stopped.edge; went = went_end before now stopped.edge s.lines s.went stopped.went; stops = stopped.stops };
  clear = s.clear;
}

-- or memory was wanting for an item
pub broke_off_item : (terms : Terms) (before now after : Place) (items : List AnItem) (count : ℕ) (item : AnItem) → SoFar terms before now items → count ≡ length items
    → TookLine terms now after count (Some (Item item)) → after.reader.taken ≤ after.reader.limit → BrokeOff before after Memory
broke_off_item terms before now after items count item s counts took in_limit =
    let more = so_far_item terms before now after items count item s counts took in
    record {
      lines = more.lines;
      stopped = record { edge = after; went = more.went; stops = (refl, in_limit) };
      clear = more.clear;
    }

-- a line takes a reader on
pub line_onward : (terms : Terms) (before after : Place) (count : ℕ) (line : RoundLine) → TookLine terms before after count (Some line)
    → 1 + length after.reader.ahead + before.reader.taken ≤ length before.reader.ahead + after.reader.taken
line_onward terms before after count line took = omega (arith, took.1.0.bytes, took.1.0.taken)

-- a clause on a result that is Ok
pub at_ok : {T E Q : Type 0} (r : Result T E) → is_err r ≡ false → OnOk r Q → Q
at_ok (Ok x) is q = q
at_ok (Err e) is q = cc
