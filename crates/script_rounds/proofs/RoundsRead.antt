-- From the lines that were taken to the rounds that were read.
use Rattle.std.proofs.Common.{◌≡◌, ℕ, Bool, ◌+◌, ◌<◌, ◌≤◌, true, false, List, [], ◌∷◌, ◌++◌, length, map, Option, None, inl, inr, sym, ◌∙◌, ap, subst, refl, arith, append-nil, length-append}
use Rattle.std.specs.List.{list_any}
use Rattle.script_rounds.specs.declared.item.Item.{Item}
use Rattle.script_rounds.specs.declared.lines.ScriptRefusal.{ScriptRefusal}
use Rattle.script_rounds.specs.declared.lines.ScriptRefusal.TheVariants.{ReadFault, TooLong, Memory}
use Rattle.script_rounds.specs.Entries.{Entry, AreItemsOf}
use Rattle.script_rounds.specs.Lines.{whole_lines, cut}
use Rattle.script_rounds.specs.Reading.{LineState, Place, at, Went, IsSpent, IsOut, StopsBy}
use Rattle.script_rounds.specs.Roles.{is_go}
use Rattle.script_rounds.specs.Rounds.{rounds_from, closed_from, entries_from}
use Rattle.script_rounds.specs.RoundReads.{BrokeOff, Ends, Keeps, Rise, TookNext, TookRound, item_line}
use Rattle.script_rounds.specs.RoundsState.{RoundsState, Took, ReadRound, ReadEnd, ReadStopped, closed_ahead}
use Rattle.script_rounds.specs.Terms.{Terms}
use Rattle.script_rounds.proofs.Numbering.{entries_rise, entries-few, item_lines}
use Rattle.script_rounds.proofs.ReadSteps.{gave-append, lines_went}
use Rattle.script_rounds.proofs.RoundLoop.{items-length}
use Rattle.uni_base.specs.Lines.{lines_of}
use Rattle.script_rounds.proofs.Whole.{whole_come, whole_lines-unbroken, rounds_go, rounds_last, rounds_none, closed_go, closed_none}

abbrev took : (before after : RoundsState) (left_before left_after : Option (List ℕ)) (passed : List (List ℕ)) → after.terms ≡ before.terms
    → Went (at before.reader left_before) (at after.reader left_after) passed → Took before after left_before left_after
took before after left_before left_after passed terms w = record {
  more = w.more;
  gave = w.gave;
  taken = w.taken;
  terms = terms;
  limit = w.limit;
  spent = w.spent;
  stays = w.stays;
}

-- a reader that is out of lines has not ended before
unended_before : (before edge : Place) (passed : List (List ℕ)) → Went before edge passed → IsOut edge.reader → (ended : Bool) → before.reader.ended ≡ ended → ended ≡ false
unended_before before edge passed w out false is = refl
unended_before before edge passed w out true is = absurd (let ended : edge.reader.ended ≡ true = w.stays is in let unended : edge.reader.ended ≡ false = out.unended in cc)

-- the lines to come, where as much of each is kept as before
come : (before after : Place) (passed : List (List ℕ)) (w : Went before after passed) (rest : List ℕ) → (after.reader.ended ≡ true → rest ≡ [])
    → cut before.reader.kept (lines_of (before.reader.ahead ++ (w.more ++ rest))) ≡ passed ++ cut before.reader.kept (lines_of (after.reader.ahead ++ rest))
come before after passed w rest stops = w.same rest stops ∙ ap (λ n. passed ++ cut n (lines_of (after.reader.ahead ++ rest))) w.kept

come_whole : (before after : Place) (passed : List (List ℕ)) (w : Went before after passed) → after.reader.ended ≡ false → (rest : List ℕ)
    → cut before.reader.kept (whole_lines (before.reader.ahead ++ (w.more ++ rest))) ≡ passed ++ cut before.reader.kept (whole_lines (after.reader.ahead ++ rest))
come_whole before after passed w unended rest = whole_come before after passed w unended rest ∙ ap (λ n. passed ++ cut n (whole_lines (after.reader.ahead ++ rest))) w.kept

-- a round that `go` ends
read_go : (before after : RoundsState) (left_before left_after : Option (List ℕ)) (items : List Item) (lines : List (List ℕ)) (line : List ℕ) → after.terms ≡ before.terms
    → Keeps before.terms.limits before.reader → Went (at before.reader left_before) (at after.reader left_after) (lines ++ line ∷ [])
    → is_go line ≡ true → list_any is_go lines ≡ false → AreItemsOf (entries_from before.terms (before.reader.lines + 1) 0 lines) items
    → ReadRound before after left_before left_after items
read_go before after left_before left_after items lines line terms keeps w goes clear gives = record {
  took = took before after left_before left_after (lines ++ line ∷ []) terms w;
  entries = entries;
  first = λ rest stops.
      rounds_go before.terms kept keeps.line keeps.go number later (before.reader.ahead ++ (w.more ++ rest)) (after.reader.ahead ++ rest) lines line
      (come (at before.reader left_before) (at after.reader left_after) (lines ++ line ∷ []) w rest stops) clear goes count
      ∙ ap (λ (t : Terms). entries ∷ rounds_from t later 0 (lines_of (after.reader.ahead ++ rest))) (sym terms);
  closed = λ unended rest.
      closed_go before.terms kept keeps.line keeps.go number later (before.reader.ahead ++ (w.more ++ rest)) (after.reader.ahead ++ rest) lines line
      (come_whole (at before.reader left_before) (at after.reader left_after) (lines ++ line ∷ []) w unended rest) clear goes count
      ∙ ap (λ (t : Terms). entries ∷ closed_from t later 0 (whole_lines (after.reader.ahead ++ rest))) (sym terms);
  lines = λ rest stops. lines_went (at before.reader left_before) (at after.reader left_after) (lines ++ line ∷ []) w rest stops;
  gives = gives;
}
  where
    kept : ℕ
    kept = before.reader.kept

    number : ℕ
    number = before.reader.lines + 1

    later : ℕ
    later = after.reader.lines + 1

    entries : List Entry
    entries = entries_from before.terms (before.reader.lines + 1) 0 lines

    count : after.reader.lines + 1 ≡ before.reader.lines + 1 + length lines + 1
    count = omega (arith, w.lines, length-append lines (line ∷ []))

-- a last round
read_last : (before after : RoundsState) (left_before left_after : Option (List ℕ)) (items : List Item) (lines : List (List ℕ)) → after.terms ≡ before.terms
    → Keeps before.terms.limits before.reader → Went (at before.reader left_before) (at after.reader left_after) lines
    → IsSpent after.reader → 0 < length lines → list_any is_go lines ≡ false → AreItemsOf (entries_from before.terms (before.reader.lines + 1) 0 lines) items
    → ReadRound before after left_before left_after items
read_last before after left_before left_after items lines terms keeps w spent some clear gives = record {
  took = took before after left_before left_after lines terms w;
  entries = entries;
  first = λ rest stops.
      rounds_last before.terms before.reader.kept keeps.line keeps.go (before.reader.lines + 1) (before.reader.ahead ++ (w.more ++ rest)) lines
      (come (at before.reader left_before) (at after.reader left_after) lines w rest stops
      ∙ ap (λ bytes. lines ++ cut before.reader.kept (lines_of bytes)) (nothing rest stops)
      ∙ append-nil lines)
      clear some
      ∙ ap (λ bytes. entries ∷ rounds_from after.terms (after.reader.lines + 1) 0 (lines_of bytes)) (sym (nothing rest stops));
  closed = λ unended rest. absurd (both unended);
  lines = λ rest stops. lines_went (at before.reader left_before) (at after.reader left_after) lines w rest stops;
  gives = gives;
}
  where
    entries : List Entry
    entries = entries_from before.terms (before.reader.lines + 1) 0 lines

    nothing : (rest : List ℕ) → (after.reader.ended ≡ true → rest ≡ []) → after.reader.ahead ++ rest ≡ []
    nothing rest stops = ap (λ bytes. bytes ++ rest) spent.1 ∙ stops spent.0

    both : after.reader.ended ≡ false → ⊥
    both unended = let ended : after.reader.ended ≡ true = spent.0 in cc

-- a round that was taken
pub read_round : (before after : RoundsState) (left_before left_after : Option (List ℕ)) (items : List Item) → after.terms ≡ before.terms → Keeps before.terms.limits before.reader
    → TookRound before.terms (at before.reader left_before) (at after.reader left_after) items → ReadRound before after left_before left_after items
read_round before after left_before left_after items terms keeps t = by t.ending t.went t.ends
  where
    by : (ending : List (List ℕ)) → Went (at before.reader left_before) (at after.reader left_after) (t.lines ++ ending) → Ends t.lines ending after.reader
        → ReadRound before after left_before left_after items
    by [] w ends =
        read_last before after left_before left_after items t.lines terms keeps
        (subst (Went (at before.reader left_before) (at after.reader left_after)) (append-nil t.lines) w) ends.0 ends.1 t.clear t.gives
    by (line ∷ more) w ends =
        read_go before after left_before left_after items t.lines line terms keeps
        (subst (λ ls. Went (at before.reader left_before) (at after.reader left_after) (t.lines ++ line ∷ ls)) ends.1 w) ends.0 t.clear t.gives

add-none : (n : ℕ) → n + 0 ≡ n
add-none n = omega arith

-- no round was left
pub read_end : (before after : RoundsState) (left_before left_after : Option (List ℕ)) → after.terms ≡ before.terms → Keeps before.terms.limits before.reader
    → TookNext before.terms (at before.reader left_before) (at after.reader left_after) None → ReadEnd before after left_before left_after
read_end before after left_before left_after terms keeps t = record {
  took = took before after left_before left_after [] terms t.0;
  none = rounds_none before.terms before.reader.kept keeps.line keeps.go (before.reader.lines + 1) (before.reader.ahead ++ t.0.more)
      (ap (λ bytes. cut before.reader.kept (lines_of (before.reader.ahead ++ bytes))) (sym (append-nil t.0.more))
      ∙ come (at before.reader left_before) (at after.reader left_after) [] t.0 [] (λ ended. refl)
      ∙ ap (λ bytes. cut before.reader.kept (lines_of bytes)) (append-nil after.reader.ahead ∙ t.1.1));
  spent = t.1;
  lines =
      ap (λ bytes. before.reader.lines + length (lines_of (before.reader.ahead ++ bytes))) (sym (append-nil t.0.more))
      ∙ lines_went (at before.reader left_before) (at after.reader left_after) [] t.0 [] (λ ended. refl)
      ∙ ap (λ bytes. after.reader.lines + length (lines_of bytes)) (append-nil after.reader.ahead ∙ t.1.1)
      ∙ add-none after.reader.lines;
}

-- where a reader is out of lines, none of those to come is closed
none_closed : (before : RoundsState) (left : Option (List ℕ)) (edge : Place) (lines : List (List ℕ)) → Keeps before.terms.limits before.reader
    → (w : Went (at before.reader left) edge lines) → IsOut edge.reader → list_any is_go lines ≡ false → closed_ahead before w.more ≡ []
none_closed before left edge lines keeps w out clear =
    closed_none before.terms before.reader.kept keeps.line keeps.go (before.reader.lines + 1) (before.reader.ahead ++ w.more) lines
    (ap (λ bytes. cut before.reader.kept (whole_lines (before.reader.ahead ++ bytes))) (sym (append-nil w.more))
    ∙ come_whole (at before.reader left) edge lines w out.unended []
    ∙ ap (λ bytes. lines ++ cut before.reader.kept (whole_lines bytes)) (append-nil edge.reader.ahead)
    ∙ ap (λ ls. lines ++ cut before.reader.kept ls) (whole_lines-unbroken edge.reader.ahead out.none)
    ∙ append-nil lines)
    clear

-- reading stopped
pub read_stopped : (before after : RoundsState) (left_before left_after : Option (List ℕ)) (refusal : ScriptRefusal) → after.terms ≡ before.terms → Keeps before.terms.limits before.reader
    → BrokeOff (at before.reader left_before) (at after.reader left_after) refusal → ReadStopped before after left_before left_after refusal
read_stopped before after left_before left_after refusal terms keeps b = by refusal b.stopped.edge b.stopped.went b.stopped.stops
  where
    open_before : (edge : Place) → Went (at before.reader left_before) edge b.lines → IsOut edge.reader → before.reader.ended ≡ false
    open_before edge w out = unended_before (at before.reader left_before) edge b.lines w out before.reader.ended refl

    by : (refusal : ScriptRefusal) (edge : Place) (w : Went (at before.reader left_before) edge b.lines) → StopsBy refusal edge (at after.reader left_after)
        → ReadStopped before after left_before left_after refusal
    by ReadFault edge w stops =
        let same = subst (λ place. Went (at before.reader left_before) place b.lines) (sym stops.0) w in
        let out = subst (λ (place : Place). IsOut place.reader) (sym stops.0) stops.1 in
        record {
          took = took before after left_before left_after b.lines terms same;
          none = none_closed before left_before (at after.reader left_after) b.lines keeps same out b.clear;
          limit = out.in_limit;
          unended = inr (unended_before (at before.reader left_before) (at after.reader left_after) b.lines same out before.reader.ended refl);
        }
    by (TooLong count) edge w stops = record {
      took = record {
        more = w.more ++ stops.last ∷ [];
        gave = gave-append left_before edge.left left_after w.more (stops.last ∷ []) w.gave stops.gave;
        taken = omega (arith, stops.taken, stops.past, stops.full, w.taken, length-append w.more (stops.last ∷ []));
        terms = terms;
        limit = stops.limit ∙ w.limit;
        spent = λ ended. absurd (let unended : before.reader.ended ≡ false = open_before edge w stops.out in cc);
        stays = λ ended. absurd (let unended : before.reader.ended ≡ false = open_before edge w stops.out in cc);
      };
      unended = inr (open_before edge w stops.out);
      none = (w.more, (stops.last, (refl, none_closed before left_before edge b.lines keeps w stops.out b.clear)));
      limit = (sym stops.taken, stops.taken ∙ stops.past ∙ ap (λ n. n + 1) (sym stops.limit));
    }
    by Memory edge w stops =
        let same = subst (λ place. Went (at before.reader left_before) place b.lines) (sym stops.0) w in
        let within = subst (λ (place : Place). place.reader.taken ≤ place.reader.limit) (sym stops.0) stops.1 in
        record { took = took before after left_before left_after b.lines terms same; none = tt; limit = within; unended = inl refl }

-- what was passed of a round: its lines, and the one that ends it
passed-some : (lines ending : List (List ℕ)) (after : LineState) → Ends lines ending after → 0 < length (lines ++ ending)
passed-some lines [] after ends = omega (arith, ends.1, length-append {A = List ℕ} lines [])
passed-some lines (line ∷ more) after ends = omega (arith, length-append lines (line ∷ more))

pub round_onward : (terms : Terms) (before after : Place) (items : List Item) → TookRound terms before after items → before.reader.lines < after.reader.lines
round_onward terms before after items t = omega (arith, t.went.lines, passed-some t.lines t.ending after.reader t.ends)

pub round_count : (terms : Terms) (before after : Place) (items : List Item) → TookRound terms before after items → before.reader.lines + length items ≤ after.reader.lines
round_count terms before after items t =
    omega (
      arith,
      t.went.lines,
      length-append t.lines t.ending,
      items-length (entries_from terms (before.reader.lines + 1) 0 t.lines) items t.gives,
      entries-few terms (before.reader.lines + 1) 0 t.lines,
    )

rise-higher : (low high higher : ℕ) (ns : List ℕ) → high ≤ higher → Rise low high ns → Rise low higher ns
rise-higher low high higher [] above rise = omega (arith, above, rise)
rise-higher low high higher (n ∷ ns) above rise = (rise.0, rise-higher n high higher ns above rise.1)

pub round_rises : (terms : Terms) (before after : Place) (items : List Item) → TookRound terms before after items → Rise before.reader.lines after.reader.lines (map item_line items)
round_rises terms before after items t =
    subst (Rise before.reader.lines after.reader.lines) (sym (item_lines (entries_from terms (before.reader.lines + 1) 0 t.lines) items t.gives))
    (rise-higher before.reader.lines (before.reader.lines + length t.lines) after.reader.lines _
    (omega (arith, t.went.lines, length-append t.lines t.ending))
    (entries_rise terms before.reader.lines 0 t.lines))

-- no more lines were given on than bytes were taken
pub few_lines : (before after : Place) (passed : List (List ℕ)) → Went before after passed → before.reader.lines + length before.reader.ahead ≤ before.reader.taken
    → after.reader.taken ≤ after.reader.limit → after.reader.lines ≤ after.reader.limit
few_lines before after passed w held in_limit = omega (arith, w.lines, w.bytes, w.taken, held, in_limit)

-- nor where reading stopped
pub few_stopped : (before after : Place) (refusal : ScriptRefusal) → BrokeOff before after refusal → before.reader.lines + length before.reader.ahead ≤ before.reader.taken
    → after.reader.lines ≤ after.reader.limit
few_stopped before after refusal b held = by refusal b.stopped.edge b.stopped.went b.stopped.stops
  where
    by : (refusal : ScriptRefusal) (edge : Place) (w : Went before edge b.lines) → StopsBy refusal edge after → after.reader.lines ≤ after.reader.limit
    by ReadFault edge w stops = subst (λ (place : Place). place.reader.lines ≤ place.reader.limit) (sym stops.0) (few_lines before edge b.lines w held stops.1.in_limit)
    by (TooLong count) edge w stops = omega (arith, few_lines before edge b.lines w held stops.out.in_limit, stops.lines, stops.limit)
    by Memory edge w stops = subst (λ (place : Place). place.reader.lines ≤ place.reader.limit) (sym stops.0) (few_lines before edge b.lines w held stops.1)

-- as much of each line is kept as before
pub keeps_stopped : (before after : Place) (refusal : ScriptRefusal) → BrokeOff before after refusal → (after.reader.kept ≡ before.reader.kept) × (after.reader.limit ≡ before.reader.limit)
keeps_stopped before after refusal b = by refusal b.stopped.edge b.stopped.went b.stopped.stops
  where
    by : (refusal : ScriptRefusal) (edge : Place) (w : Went before edge b.lines) → StopsBy refusal edge after → (after.reader.kept ≡ before.reader.kept) × (after.reader.limit ≡ before.reader.limit)
    by ReadFault edge w stops = (ap (λ (place : Place). place.reader.kept) stops.0 ∙ w.kept, ap (λ (place : Place). place.reader.limit) stops.0 ∙ w.limit)
    by (TooLong count) edge w stops = (stops.kept ∙ w.kept, stops.limit ∙ w.limit)
    by Memory edge w stops = (ap (λ (place : Place). place.reader.kept) stops.0 ∙ w.kept, ap (λ (place : Place). place.reader.limit) stops.0 ∙ w.limit)
