-- From what a read says to what reading takes.
use Rattle.std.proofs.Common.{◌≡◌, ◌+◌, ◌<◌, true, false, ℕ, List, [], ◌∷◌, ◌++◌, length, take, drop, Option, None, Some, sym, ◌∙◌, ap, subst, refl, arith, add-one, length-append}
use Rattle.std.proofs.lemmas.List.{append_assoc, length-take, length-map}
use Rattle.script_rounds.specs.Lines.{cut}
use Rattle.script_rounds.specs.Reading.{Gave, NoneLeft, LineState, Place, at, Went, IsFront, IsOut, IsPast, to_come}
use Rattle.uni_base.specs.Lines.{has_lf, lines_of}
use Rattle.script_rounds.proofs.Fronts.{cut-shortened, lines_of-front, length-front}

-- nothing
pub gave-nothing : (left : Option (List ℕ)) → Gave left [] left
gave-nothing None = refl
gave-nothing (Some bytes) = (bytes, refl, refl)

-- first some bytes, then more
pub gave-append : (first second third : Option (List ℕ)) (xs ys : List ℕ) → Gave first xs second → Gave second ys third → Gave first (xs ++ ys) third
gave-append None second third xs ys g h = subst (λ l. Gave l ys third) g h
gave-append (Some left) second third xs ys g h =
    let later : Gave (Some g.0) ys third = subst (λ l. Gave l ys third) g.2 h in
    (later.0, g.1 ∙ ap (λ rest. xs ++ rest) later.1 ∙ sym (append_assoc xs ys later.0), later.2)

-- how many lines there are in all stays the same
pub lines_went : (before after : Place) (passed : List (List ℕ)) (w : Went before after passed) (rest : List ℕ) → (after.reader.ended ≡ true → rest ≡ [])
    → before.reader.lines + length (lines_of (before.reader.ahead ++ (w.more ++ rest))) ≡ after.reader.lines + length (lines_of (after.reader.ahead ++ rest))
lines_went before after passed w rest stops =
    omega (
      arith,
      w.lines,
      sym (length-map (lines_of (before.reader.ahead ++ (w.more ++ rest))) (take before.reader.kept))
          ∙ ap length (w.same rest stops)
          ∙ length-append passed (to_come after.reader rest),
      length-map (lines_of (after.reader.ahead ++ rest)) (take after.reader.kept),
    )

-- a reader stays where it is
pub went_nothing : (place : Place) → Went place place []
went_nothing place = record {
  more = [];
  gave = gave-nothing place.left;
  taken = omega arith;
  limit = refl;
  kept = refl;
  lines = omega arith;
  same = λ rest stops. refl;
  stays = λ ended. ended;
  spent = λ ended. refl;
  end = λ fits. fits;
  bytes = omega arith;
}

-- a reader that keeps less of a line without its end
pub went_shortened : (before after : LineState) (left : Option (List ℕ)) → after ≡ record before { ahead = take before.kept before.ahead }
    → 0 < before.kept → has_lf before.ahead ≡ false → Went (at before left) (at after left) []
went_shortened before after left is some line = subst (λ state. Went (at before left) (at state left) []) (sym is) (record {
  more = [];
  gave = gave-nothing left;
  taken = omega arith;
  limit = refl;
  kept = refl;
  lines = omega arith;
  same = λ rest stops. cut-shortened before.kept before.ahead rest some line;
  stays = λ ended. ended;
  spent = λ ended. refl;
  end = λ fits. fits;
  bytes = omega (arith, length-take before.kept before.ahead);
})

-- a reader that took bytes and gave on none
pub went_read : (before after : LineState) (left_before left_after : Option (List ℕ)) (more : List ℕ) → Gave left_before more left_after → before.ended ≡ false
    → after.ahead ≡ before.ahead ++ more → after.taken ≡ before.taken + length more → after.lines ≡ before.lines → after.limit ≡ before.limit → after.kept ≡ before.kept
    → (after.ended ≡ true → NoneLeft left_after) → Went (at before left_before) (at after left_after) []
went_read before after left_before left_after more gave unended ahead taken lines limit kept end = record {
  more = more;
  gave = gave;
  taken = taken;
  limit = limit;
  kept = kept;
  lines = omega (arith, lines);
  same = λ rest stops.
      ap (λ bytes. cut before.kept (lines_of bytes)) (sym (append_assoc before.ahead more rest) ∙ ap (λ bytes. bytes ++ rest) (sym ahead))
      ∙ ap (λ n. cut n (lines_of (after.ahead ++ rest))) (sym kept);
  stays = λ ended. cc;
  spent = λ ended. cc;
  end = λ fits. end;
  bytes = omega (arith, ap (length {A = ℕ}) ahead, length-append before.ahead more);
}

-- some lines, and more
pub went_more : (first second third : Place) (xs ys : List (List ℕ)) → Went first second xs → Went second third ys → Went first third (xs ++ ys)
went_more first second third xs ys p q = record {
  more = p.more ++ q.more;
  gave = gave-append first.left second.left third.left p.more q.more p.gave q.gave;
  taken = omega (arith, p.taken, q.taken, length-append p.more q.more);
  limit = q.limit ∙ p.limit;
  kept = q.kept ∙ p.kept;
  lines = omega (arith, p.lines, q.lines, length-append xs ys);
  same = λ rest stops.
      ap (to_come first.reader) (append_assoc p.more q.more rest)
      ∙ p.same (q.more ++ rest) (λ ended. ap (λ more. more ++ rest) (q.spent ended) ∙ stops (q.stays ended))
      ∙ ap (λ lines. xs ++ lines) (q.same rest stops)
      ∙ sym (append_assoc xs ys (to_come third.reader rest));
  stays = λ ended. q.stays (p.stays ended);
  spent = λ ended. ap (λ more. more ++ q.more) (p.spent ended) ∙ q.spent (p.stays ended);
  end = λ fits. q.end (p.end fits);
  bytes = omega (arith, p.bytes, q.bytes, length-append p.more q.more, length-append xs ys);
}

-- the line at the front is given on
pub went_front : (filled after : LineState) (left : Option (List ℕ)) (len : ℕ) → IsFront filled len
    → after ≡ record filled { ahead = drop (len + 1) filled.ahead; lines = filled.lines + 1 }
    → Went (at filled left) (at after left) (take filled.kept (take len filled.ahead) ∷ [])
went_front filled after left len front is = subst (λ state. Went (at filled left) (at state left) (take filled.kept (take len filled.ahead) ∷ [])) (sym is) (record {
  more = [];
  gave = gave-nothing left;
  taken = omega arith;
  limit = refl;
  kept = refl;
  lines = refl;
  same = λ rest stops.
      ap (cut filled.kept) (lines_of-front filled len front rest stops)
      ∙ ap (λ n. take filled.kept (take len filled.ahead) ∷ cut filled.kept (lines_of (drop n filled.ahead ++ rest))) (sym (add-one len));
  stays = λ ended. ended;
  spent = λ ended. refl;
  end = λ fits. fits;
  bytes = omega (arith, length-front filled len front, ap (λ n. length (drop n filled.ahead)) (add-one len));
})

one_byte : (bytes : List ℕ) → length bytes ≡ 1 → (last : ℕ) × (bytes ≡ last ∷ [])
one_byte [] e = absurd (omega (arith, e))
one_byte (b ∷ []) e = (b, refl)
one_byte (b ∷ c ∷ bytes) e = absurd (omega (arith, e))

-- a read past the limit took one byte
pub is_past : (edge after : LineState) (left_edge left_after : Option (List ℕ)) (more : List ℕ) → Gave left_edge more left_after → IsOut edge
    → length more ≡ 1 → edge.taken ≡ edge.limit → after.taken ≡ edge.taken + length more → after.limit ≡ edge.limit → after.kept ≡ edge.kept → after.lines ≡ edge.lines
    → IsPast (at edge left_edge) (at after left_after) after.taken
is_past edge after left_edge left_after more gave out one full taken limit kept lines =
    let byte = one_byte more one in
    record {
      out = out;
      last = byte.0;
      gave = subst (λ bytes. Gave left_edge bytes left_after) byte.1 gave;
      taken = refl;
      past = omega (arith, one, full, taken);
      full = full;
      limit = limit;
      kept = kept;
      lines = lines;
    }
