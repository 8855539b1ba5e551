-- No compaction of a legal record takes from what its stack covers.
use Rattle.std.proofs.Common.{◌≡◌, ◌≤◌, ◌+◌, ◌&&◌, ◌==◌, ℕ, Bool, true, false, not, List, [], ◌∷◌, ◌++◌, length, map, max, if◌then◌else◌, refl, ap, sym, ◌∙◌, subst, arith}
use Rattle.std.proofs.lemmas.Bool.Decides.{nat_tests}
use Rattle.std.specs.Prelude.{⊤}
use Rattle.std.specs.List.{AllByRecursion, range_with_len}
use Rattle.uni_schema.specs.declared.schema.VerticalDef.{VerticalDef}
use Rattle.script_rounds.specs.Entries.{Entry, change, publish, ask, compact, stats, refused, fault, query_fault}
use Rattle.script_rounds.specs.Terms.{Terms}
use Rattle.round_feed.specs.Feeds.{made}
use Rattle.round_feed.specs.Steps.{Each}
use Rattle.unicorn_round.specs.declared.stacks.StackCover.{StackCover}
use Rattle.unicorn_round.specs.Answers.{Standing, opening_standing, after_entry, after_entries, after_round}
use Rattle.unicorn_round.specs.Covers.{CoversAtMost, EntryRaises, Raises, RoundRaises, raised}
use Rattle.unicorn_round.specs.Laws.{CompactionsRaise}
use Rattle.unicorn_round.specs.Legal.{AreMade, AreWithin, NoneFalls, all_numbers, compacts, numbers_in}
use Rattle.unicorn_round.specs.Marks.{Mark, plain, lacking, at, Record, RoundRecord, StackName}
use Rattle.unicorn_round.specs.Records.{IsMarked, IsRecordFrom}
use Rattle.unicorn_round.specs.Stacks.{bare, covered, covering, is_due, is_stack, is_untidied, stacks_from, stacks_in, tidy}
use Rattle.round_feed.proofs.Steps.{each-length}
use Rattle.unicorn_round.proofs.Elements.{all-append, all-flat_map, all-map, all-wider}
use Rattle.unicorn_round.proofs.PlainLegal.{entries_grow}

-- ---- numbers that do not fall

-- numbers of which each is at least low, and that do not fall, do not fall behind low
falls_behind : (low : ℕ) (ns : List ℕ) → AllByRecursion (λ n. low ≤ n) ns → NoneFalls ns → NoneFalls (low ∷ ns)
falls_behind low [] above falls = tt
falls_behind low (n ∷ ns) above falls = (above.0, falls)

falls_rest : (n : ℕ) (ns : List ℕ) → NoneFalls (n ∷ ns) → NoneFalls ns
falls_rest n [] falls = tt
falls_rest n (m ∷ ns) falls = falls.1

within_rest : (low high : ℕ) (mark : Mark) (marks : List Mark) → AreWithin low high (mark ∷ marks) → AreWithin low high marks
within_rest low high plain marks within = within
within_rest low high lacking marks within = within
within_rest low high (at number) marks within = within.2

module _ (test : Entry → Bool) where
  -- where an entry does not pass a test, its number is not among those of the entries that do
  numbers_rest : (entry : Entry) (entries : List Entry) (mark : Mark) (marks : List Mark) → test entry ≡ false → numbers_in test (entry ∷ entries) (mark ∷ marks) ≡ numbers_in test entries marks
  numbers_rest entry entries plain marks none = refl
  numbers_rest entry entries lacking marks none = refl
  numbers_rest entry entries (at number) marks none = ap (λ (b : Bool). if b then number ∷ numbers_in test entries marks else numbers_in test entries marks) none

  -- numbers of a round are at least what its marks are
  numbers_above : (low high : ℕ) (entries : List Entry) (marks : List Mark) → AreWithin low high marks → AllByRecursion (λ n. low ≤ n) (numbers_in test entries marks)
  numbers_above low high [] marks within = tt
  numbers_above low high (entry ∷ entries) [] within = tt
  numbers_above low high (entry ∷ entries) (plain ∷ marks) within = numbers_above low high entries marks within
  numbers_above low high (entry ∷ entries) (lacking ∷ marks) within = numbers_above low high entries marks within
  numbers_above low high (entry ∷ entries) (at number ∷ marks) within = by (test entry) (numbers_above low high entries marks within.2)
    where
      by : (b : Bool) → AllByRecursion (λ n. low ≤ n) (numbers_in test entries marks)
          → AllByRecursion (λ n. low ≤ n) (if b then number ∷ numbers_in test entries marks else numbers_in test entries marks)
      by true rest = (within.0, rest)
      by false rest = rest

  -- and so are those of all later rounds
  all_above : (terms : Terms) (low : ℕ) (s : Standing) (rounds : List (List Entry)) (told : Record) → low ≤ made s.feed → AreMade terms s rounds told → AllByRecursion (λ n. low ≤ n) (all_numbers test rounds told)
  all_above terms low s [] told under are = tt
  all_above terms low s (round ∷ rounds) [] under are = tt
  all_above terms low s (round ∷ rounds) (one ∷ told) under are =
      all-append (λ n. low ≤ n) (numbers_in test round one.marks) (all_numbers test rounds told)
      (all-wider (λ n. made s.feed ≤ n) (λ n. low ≤ n) (λ n above. omega (arith, under, above)) (numbers_in test round one.marks)
      (numbers_above (made s.feed) (made (after_round terms s round one).feed) round one.marks are.0))
      (all_above terms low (after_round terms s round one) rounds told (omega (arith, under, entries_grow terms s round one.marks)) are.1)

-- ---- what one stack covers

-- what the stack of these numbers covers is at most the numbers that it is still compacted at, and at most high
record Stands (vertical shard replica : ℕ) (covers : List StackCover) (high : ℕ) (numbers : List ℕ) : Type 0 where
  last : ℕ
  at_most : CoversAtMost vertical shard replica last covers
  below : last ≤ high
  rises : NoneFalls (last ∷ numbers)

itself : (v s r : ℕ) → ((v == v) && (s == s) && (r == r)) ≡ true
itself v s r = grind (arith, nat_tests)

-- a compaction at the greater of a number and of what its stack covers is one at the number
greater_of : (vertical shard replica number : ℕ) (covers : List StackCover) → CoversAtMost vertical shard replica number covers → covering vertical shard replica number covers ≡ map (raised vertical shard replica number) covers
greater_of vertical shard replica number [] most = refl
greater_of vertical shard replica number (cover ∷ covers) most = (λ i. one (is_stack vertical shard replica cover) most.0 i ∷ greater_of vertical shard replica number covers most.1 i)
  where
    greatest : (a b : ℕ) → a ≤ b → b ≡ max a b
    greatest a b less = grind arith

    one : (b : Bool) → (b ≡ true → cover.covers ≤ number) → (if b then record cover { covers = number } else cover) ≡ (if b then record cover { covers = max cover.covers number } else cover)
    one true most = ap (λ n. record cover { covers = n }) (greatest cover.covers number (most refl))
    one false most = refl

-- behind it that stack covers no more than the number
covers_it : (vertical shard replica number last : ℕ) → last ≤ number → (covers : List StackCover) → CoversAtMost vertical shard replica last covers → CoversAtMost vertical shard replica number (covering vertical shard replica number covers)
covers_it vertical shard replica number last less covers most =
    all-map (λ cover. is_stack vertical shard replica cover ≡ true → cover.covers ≤ last) (λ cover. is_stack vertical shard replica cover ≡ true → cover.covers ≤ number)
    (covered vertical shard replica number) one covers most
  where
    one : (cover : StackCover) → (is_stack vertical shard replica cover ≡ true → cover.covers ≤ last)
        → is_stack vertical shard replica (covered vertical shard replica number cover) ≡ true → (covered vertical shard replica number cover).covers ≤ number
    one cover old = by (is_stack vertical shard replica cover) refl
      where
        by : (b : Bool) → is_stack vertical shard replica cover ≡ b → is_stack vertical shard replica (if b then record cover { covers = number } else cover) ≡ true
            → (if b then record cover { covers = number } else cover).covers ≤ number
        by true same is = omega arith
        by false other is = omega (arith, old is, less)

-- and what another stack covers is as before
covers_others : (v s r vertical shard replica number last : ℕ) → compacts v s r (compact 0 vertical shard replica) ≡ false → (covers : List StackCover) → CoversAtMost v s r last covers → CoversAtMost v s r last (covering vertical shard replica number covers)
covers_others v s r vertical shard replica number last apart covers most =
    all-map (λ cover. is_stack v s r cover ≡ true → cover.covers ≤ last) (λ cover. is_stack v s r cover ≡ true → cover.covers ≤ last)
    (covered vertical shard replica number) one covers most
  where
    never : (a b c : ℕ) → ((vertical == v) && (shard == s) && (replica == r)) ≡ false → ((a == vertical) && (b == shard) && (c == replica)) ≡ true → ((a == v) && (b == s) && (c == r)) ≡ true → ⊥
    never a b c apart same other = grind (arith, nat_tests)

    one : (cover : StackCover) → (is_stack v s r cover ≡ true → cover.covers ≤ last)
        → is_stack v s r (covered vertical shard replica number cover) ≡ true → (covered vertical shard replica number cover).covers ≤ last
    one cover old = by (is_stack vertical shard replica cover) refl
      where
        by : (b : Bool) → is_stack vertical shard replica cover ≡ b → is_stack v s r (if b then record cover { covers = number } else cover) ≡ true
            → (if b then record cover { covers = number } else cover).covers ≤ last
        by true same is = absurd (never cover.vertical cover.shard cover.replica apart same is)
        by false other is = old is

-- ---- a round

module _ (terms : Terms) (low high : ℕ) (later : ℕ → ℕ → ℕ → List ℕ) where
  -- each stack stands so before some entries of the round
  abbrev AllStand : List StackCover → List Entry → List Mark → Type 0
  AllStand covers entries marks = (vertical shard replica : ℕ) → Stands vertical shard replica covers high (numbers_in (compacts vertical shard replica) entries marks ++ later vertical shard replica)

  -- an entry that is no compaction leaves them so
  stand_on : (covers : List StackCover) (entry : Entry) (entries : List Entry) (mark : Mark) (marks : List Mark) → ((vertical shard replica : ℕ) → compacts vertical shard replica entry ≡ false)
      → AllStand covers (entry ∷ entries) (mark ∷ marks) → AllStand covers entries marks
  stand_on covers entry entries mark marks none stand vertical shard replica =
      subst (λ ns. Stands vertical shard replica covers high (ns ++ later vertical shard replica))
      (numbers_rest (compacts vertical shard replica) entry entries mark marks (none vertical shard replica)) (stand vertical shard replica)

  -- a compaction at a number does what the law says
  raises : (covers : List StackCover) (line vertical shard replica number : ℕ) (entries : List Entry) (marks : List Mark) → number ≤ high
      → AllStand covers (compact line vertical shard replica ∷ entries) (at number ∷ marks)
      → Raises high covers vertical shard replica number × AllStand (covering vertical shard replica number covers) entries marks
  raises covers line vertical shard replica number entries marks under stand = (record { from = from; to = under; greater = greater_of vertical shard replica number covers from }, after)
    where
      own : Stands vertical shard replica covers high (number ∷ numbers_in (compacts vertical shard replica) entries marks ++ later vertical shard replica)
      own =
          subst (λ (b : Bool). Stands vertical shard replica covers high ((if b then number ∷ numbers_in (compacts vertical shard replica) entries marks else numbers_in (compacts vertical shard replica) entries marks) ++ later vertical shard replica))
          (itself vertical shard replica) (stand vertical shard replica)

      from : CoversAtMost vertical shard replica number covers
      from =
          all-wider (λ cover. is_stack vertical shard replica cover ≡ true → cover.covers ≤ own.last) (λ cover. is_stack vertical shard replica cover ≡ true → cover.covers ≤ number)
          (λ cover most is. omega (arith, most is, own.rises.0)) covers own.at_most

      after : AllStand (covering vertical shard replica number covers) entries marks
      after v s r = by (compacts v s r (compact line vertical shard replica)) refl (stand v s r)
        where
          numbers : List ℕ
          numbers = numbers_in (compacts v s r) entries marks

          alike : (a b c x y z : ℕ) → ((a == x) && (b == y) && (c == z)) ≡ true → (a ≡ x) × (b ≡ y) × (c ≡ z)
          alike a b c x y z same = grind (arith, nat_tests)

          by : (b : Bool) → compacts v s r (compact line vertical shard replica) ≡ b → Stands v s r covers high ((if b then number ∷ numbers else numbers) ++ later v s r)
              → Stands v s r (covering vertical shard replica number covers) high (numbers ++ later v s r)
          by true same st =
              let are = alike vertical shard replica v s r same in
              record {
                last = number;
                at_most = subst (λ x. CoversAtMost x s r number (covering vertical shard replica number covers)) are.0
                    (subst (λ y. CoversAtMost vertical y r number (covering vertical shard replica number covers)) are.1
                    (subst (λ z. CoversAtMost vertical shard z number (covering vertical shard replica number covers)) are.2
                    (covers_it vertical shard replica number own.last own.rises.0 covers own.at_most)));
                below = under;
                rises = st.rises.1;
              }
          by false apart st = record {
            last = st.last;
            at_most = covers_others v s r vertical shard replica number st.last apart covers st.at_most;
            below = st.below;
            rises = st.rises;
          }

  -- so do the compactions of a round, one after the other
  abbrev AllRaise : Standing → List Entry → List Mark → Type 0
  AllRaise s entries marks = Each (after_entry terms) (EntryRaises high) s entries marks × AllStand (after_entries terms s entries marks).covers [] []

  entries_raise : (s : Standing) (entries : List Entry) (marks : List Mark) → length marks ≡ length entries → AreWithin low high marks → AllStand s.covers entries marks → AllRaise s entries marks
  entries_raise s [] [] same within stand = (tt, stand)
  entries_raise s [] (mark ∷ marks) same within stand = absurd (omega (arith, same))
  entries_raise s (entry ∷ entries) [] same within stand = absurd (omega (arith, same))
  entries_raise s (entry ∷ entries) (mark ∷ marks) same within stand =
      one (λ e m all st. entries_raise (after_entry terms s e m) entries marks (omega (arith, same)) (within_rest low high m marks all) st) entry mark within stand
    where
      one : ((e : Entry) (m : Mark) → AreWithin low high (m ∷ marks) → AllStand (after_entry terms s e m).covers entries marks → AllRaise (after_entry terms s e m) entries marks)
          → (e : Entry) (m : Mark) → AreWithin low high (m ∷ marks) → AllStand s.covers (e ∷ entries) (m ∷ marks) → AllRaise s (e ∷ entries) (m ∷ marks)
      one rest (compact line vertical shard replica) (at number) w st =
          let done = raises s.covers line vertical shard replica number entries marks w.1 st in
          let more = rest (compact line vertical shard replica) (at number) w done.1 in
          ((done.0, more.0), more.1)
      one rest (compact line vertical shard replica) plain w st = let more = rest (compact line vertical shard replica) plain w st in ((tt, more.0), more.1)
      one rest (compact line vertical shard replica) lacking w st = let more = rest (compact line vertical shard replica) lacking w st in ((tt, more.0), more.1)
      one rest (change line command) m w st = let more = rest (change line command) m w (stand_on s.covers (change line command) entries m marks (λ v sh r. refl) st) in ((tt, more.0), more.1)
      one rest (publish line) m w st = let more = rest (publish line) m w (stand_on s.covers (publish line) entries m marks (λ v sh r. refl) st) in ((tt, more.0), more.1)
      one rest (ask line session viewer limit query) m w st =
          let more = rest (ask line session viewer limit query) m w (stand_on s.covers (ask line session viewer limit query) entries m marks (λ v sh r. refl) st) in
          ((tt, more.0), more.1)
      one rest (stats line) m w st = let more = rest (stats line) m w (stand_on s.covers (stats line) entries m marks (λ v sh r. refl) st) in ((tt, more.0), more.1)
      one rest (refused line code) m w st = let more = rest (refused line code) m w (stand_on s.covers (refused line code) entries m marks (λ v sh r. refl) st) in ((tt, more.0), more.1)
      one rest (fault line code) m w st = let more = rest (fault line code) m w (stand_on s.covers (fault line code) entries m marks (λ v sh r. refl) st) in ((tt, more.0), more.1)
      one rest (query_fault line code column) m w st =
          let more = rest (query_fault line code column) m w (stand_on s.covers (query_fault line code column) entries m marks (λ v sh r. refl) st) in
          ((tt, more.0), more.1)

  -- behind them no stack covers more than high
  all_below : (covers : List StackCover) → AllStand covers [] [] → AllByRecursion (λ cover. cover.covers ≤ high) covers
  all_below [] stand = tt
  all_below (cover ∷ covers) stand = (
    (let st = stand cover.vertical cover.shard cover.replica in omega (arith, st.at_most.0 (itself cover.vertical cover.shard cover.replica), st.below)),
    all_below covers (λ v s r. let st = stand v s r in record { last = st.last; at_most = st.at_most.1; below = st.below; rises = st.rises }),
  )

-- a stack that is tidied covers what was made
tidied_below : (number : ℕ) (names : List StackName) (covers : List StackCover) → AllByRecursion (λ cover. cover.covers ≤ number) covers → AllByRecursion (λ cover. cover.covers ≤ number) (map (tidy number names) covers)
tidied_below number names covers all = all-map (λ cover. cover.covers ≤ number) (λ cover. cover.covers ≤ number) (tidy number names) one covers all
  where
    one : (cover : StackCover) → cover.covers ≤ number → (tidy number names cover).covers ≤ number
    one cover under = by (is_due number cover && not (is_untidied names cover))
      where
        by : (b : Bool) → (if b then record cover { covers = number } else cover).covers ≤ number
        by true = omega arith
        by false = under

-- ---- all rounds

module _ (terms : Terms) where
  rounds_raise : (s : Standing) (rounds : List (List Entry)) (told : Record) → IsRecordFrom terms s rounds told → AreMade terms s rounds told
      → ((vertical shard replica : ℕ) → NoneFalls (all_numbers (compacts vertical shard replica) rounds told))
      → AllByRecursion (λ cover. cover.covers ≤ made s.feed) s.covers
      → Each (after_round terms) (RoundRaises terms) s rounds told
  rounds_raise s [] [] is are falls within = tt
  rounds_raise s [] (one ∷ told) is are falls within = absurd is
  rounds_raise s (round ∷ rounds) [] is are falls within = absurd is
  rounds_raise s (round ∷ rounds) (one ∷ told) is are falls within = (
    record { compactions = each.0; within = ended },
    rounds_raise end rounds told is.1 are.1 (λ v sh r. let st = each.1 v sh r in falls_rest st.last (later v sh r) st.rises) ended,
  )
    where
      end : Standing
      end = after_round terms s round one

      later : ℕ → ℕ → ℕ → List ℕ
      later v sh r = all_numbers (compacts v sh r) rounds told

      stand : AllStand terms (made s.feed) (made end.feed) later s.covers round one.marks
      stand v sh r = record {
        last = made s.feed;
        at_most = all-wider (λ cover. cover.covers ≤ made s.feed) (λ cover. is_stack v sh r cover ≡ true → cover.covers ≤ made s.feed) (λ cover under same. under) s.covers within;
        below = entries_grow terms s round one.marks;
        rises = falls_behind (made s.feed) (all_numbers (compacts v sh r) (round ∷ rounds) (one ∷ told))
            (all_above (compacts v sh r) terms (made s.feed) s (round ∷ rounds) (one ∷ told) (omega arith) are) (falls v sh r);
      }

      each : Each (after_entry terms) (EntryRaises (made end.feed)) s round one.marks × AllStand terms (made s.feed) (made end.feed) later (after_entries terms s round one.marks).covers [] []
      each = entries_raise terms (made s.feed) (made end.feed) later s round one.marks (each-length (λ none entry mark. none) (λ none. IsMarked) tt round one.marks is.0.marked) are.0 stand

      ended : AllByRecursion (λ cover. cover.covers ≤ made end.feed) end.covers
      ended = tidied_below (made end.feed) one.untidied (after_entries terms s round one.marks).covers (all_below terms (made s.feed) (made end.feed) later (after_entries terms s round one.marks).covers each.1)

  -- at first no stack covers anything
  bare_stacks : (vertical : ℕ) (defs : List VerticalDef) → AllByRecursion (λ cover. cover.covers ≤ 0) (stacks_from vertical defs)
  bare_stacks vertical [] = tt
  bare_stacks vertical (def ∷ defs) =
      all-append (λ cover. cover.covers ≤ 0) (stacks_in vertical def) (stacks_from (vertical + 1) defs)
      (all-flat_map (λ shard. ⊤) (λ cover. cover.covers ≤ 0) (λ shard. map (bare vertical shard) (range_with_len 0 def.replicas))
      (λ shard any. all-map (λ replica. ⊤) (λ cover. cover.covers ≤ 0) (bare vertical shard) (λ replica any. nothing) (range_with_len 0 def.replicas) (each_any (range_with_len 0 def.replicas)))
      (range_with_len 0 def.shards) (each_any (range_with_len 0 def.shards)))
      (bare_stacks (vertical + 1) defs)
    where
      nothing : 0 ≤ 0
      nothing = omega arith

      each_any : (ns : List ℕ) → AllByRecursion (λ n. ⊤) ns
      each_any [] = tt
      each_any (n ∷ ns) = (tt, each_any ns)

pub compactions_raise : CompactionsRaise
compactions_raise = record {
  raise = λ terms rounds told is legal. rounds_raise terms (opening_standing terms) rounds told is legal.made legal.stacks (bare_stacks terms 0 terms.schema.verticals);
}
