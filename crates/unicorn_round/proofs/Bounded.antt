-- What the standings of a script keep.
use Rattle.std.proofs.Common.{◌≡◌, ◌≤◌, ◌<◌, ◌+◌, ◌*◌, ◌&&◌, ℕ, zero, suc, Bool, true, false, not, List, [], ◌∷◌, ◌++◌, length, map, flat_map, nat_lt, nat_le, if◌then◌else◌, is_some, refl, arith, length-append}
use Rattle.std.proofs.lemmas.Bool.{and_parts}
use Rattle.std.proofs.lemmas.Bool.Decides.{nat_tests}
use Rattle.std.proofs.lemmas.List.{length-map}
use Rattle.std.proofs.lemmas.List.FromFn.{length-range_with_len, length-map-range_with_len}
use Rattle.std.specs.List.{AllByRecursion, list_all, range_with_len}
use Rattle.uni_schema.specs.Schema.{IsSchema, is_vertical}
use Rattle.uni_schema.specs.declared.schema.VerticalDef.{VerticalDef}
use Rattle.uni_table.specs.Commands.{next, refuses}
use Rattle.uni_table.specs.Contents.{ended}
use Rattle.script_rounds.specs.Entries.{Entry, change, publish, ask, compact, stats, refused, fault, query_fault}
use Rattle.script_rounds.specs.Terms.{Terms}
use Rattle.unicorn_round.specs.declared.stacks.StackCover.{StackCover}
use Rattle.unicorn_round.specs.Answers.{Standing, opening_standing, after_entry, after_entries, after_round, at_end, covers_after}
use Rattle.round_feed.specs.Feeds.{Feed, made, fed_one}
use Rattle.unicorn_round.specs.Marks.{Mark, plain, lacking, at, lacks, StackName, RoundRecord}
use Rattle.unicorn_round.specs.Stacks.{bare, stacks_in, stacks_from, is_stack, covered, is_due, is_untidied, tidy}
use Rattle.unicorn_round.proofs.Elements.{all-append, all-map, all-flat_map}
use Rattle.unicorn_round.proofs.Ranges.{HasWhole}
use Rattle.unicorn_round.proofs.Wholes.{IsWhole, AreWhole}

pub range-below : (a n high : ℕ) → a + n ≤ high → AllByRecursion (λ k. k ≤ high) (range_with_len a n)
range-below a zero high below = tt
range-below a (suc n) high below = (omega (arith, below), range-below (a + 1) n high (omega (arith, below)))

-- a stack is one of so many verticals, with few shards and replicas
pub record Fits (verticals : ℕ) (cover : StackCover) : Type 0 where
  pub vertical : cover.vertical < verticals
  pub shard : cover.shard ≤ 64
  pub replica : cover.replica ≤ 4

-- what a feed keeps
pub record FeedKeeps (terms : Terms) (feed : Feed) : Type 0 where
  pub journal : AllByRecursion AreWhole feed.journal
  pub batch : AreWhole feed.batch
  pub few : made feed ≤ terms.limits.publishes

pub record Keeps (terms : Terms) (s : Standing) : Type 0 where
  pub feed : FeedKeeps terms s.feed
  pub covers : AllByRecursion (Fits (length terms.schema.verticals)) s.covers
  pub count : length s.covers ≤ 4096

module _ (verticals : ℕ) where
  small-vertical : (def : VerticalDef) → is_vertical def ≡ true → (def.shards ≤ 64) × (def.replicas ≤ 4)
  small-vertical def is =
      let last = and_parts (nat_le 1 def.shards && nat_le def.shards 64 && nat_le 1 def.replicas) (nat_le def.replicas 4) is in
      let middle = and_parts (nat_le 1 def.shards && nat_le def.shards 64) (nat_le 1 def.replicas) last.0 in
      let first = and_parts (nat_le 1 def.shards) (nat_le def.shards 64) middle.0 in
      (le_from def.shards 64 first.1, le_from def.replicas 4 last.1)
    where
      le_from : (a b : ℕ) → nat_le a b ≡ true → a ≤ b
      le_from a b e = grind (arith, nat_tests)

  in-fits : (vertical : ℕ) (def : VerticalDef) → vertical < verticals → is_vertical def ≡ true → AllByRecursion (Fits verticals) (stacks_in vertical def)
  in-fits vertical def below is =
      let small = small-vertical def is in
      all-flat_map (λ k. k ≤ 64) (Fits verticals) (λ shard. map (bare vertical shard) (range_with_len 0 def.replicas)) (λ shard few.
      all-map (λ k. k ≤ 4) (Fits verticals) (bare vertical shard) (λ replica little. record { vertical = below; shard = few; replica = little })
      (range_with_len 0 def.replicas) (range-below 0 def.replicas 4 (omega (arith, small.1)))) (range_with_len 0 def.shards) (range-below 0 def.shards 64 (omega (arith, small.0)))

  from-fits : (vertical : ℕ) (defs : List VerticalDef) → vertical + length defs ≤ verticals → list_all is_vertical defs ≡ true → AllByRecursion (Fits verticals) (stacks_from vertical defs)
  from-fits vertical [] below all = tt
  from-fits vertical (def ∷ defs) below all =
      let parts = and_parts (is_vertical def) (list_all is_vertical defs) all in
      all-append (Fits verticals) (stacks_in vertical def) (stacks_from (vertical + 1) defs) (in-fits vertical def (omega (arith, below)) parts.0)
      (from-fits (vertical + 1) defs (omega (arith, below)) parts.1)

  length-flat_map : {X : Type 0} (f : ℕ → List X) (xs : List ℕ) → ((x : ℕ) → length (f x) ≤ 4) → length (flat_map f xs) ≤ 4 * length xs
  length-flat_map f [] few = omega arith
  length-flat_map f (x ∷ xs) few = omega (arith, length-append (f x) (flat_map f xs), few x, length-flat_map f xs few)

  in-few : (vertical : ℕ) (def : VerticalDef) → is_vertical def ≡ true → length (stacks_in vertical def) ≤ 256
  in-few vertical def is =
      let small = small-vertical def is in
      let one : (shard : ℕ) → length (map (bare vertical shard) (range_with_len 0 def.replicas)) ≤ 4 = λ shard. omega (arith, length-map-range_with_len (bare vertical shard) 0 def.replicas, small.1) in
      omega (arith, length-flat_map (λ shard. map (bare vertical shard) (range_with_len 0 def.replicas)) (range_with_len 0 def.shards) one, length-range_with_len 0 def.shards, small.0)

  pub from-few : (vertical : ℕ) (defs : List VerticalDef) → list_all is_vertical defs ≡ true → length (stacks_from vertical defs) ≤ 256 * length defs
  from-few vertical [] all = omega arith
  from-few vertical (def ∷ defs) all =
      let parts = and_parts (is_vertical def) (list_all is_vertical defs) all in
      omega (arith, length-append (stacks_in vertical def) (stacks_from (vertical + 1) defs), in-few vertical def parts.0, from-few (vertical + 1) defs parts.1)

  covered-fits : (vertical shard replica number : ℕ) (cover : StackCover) → Fits verticals cover → Fits verticals (covered vertical shard replica number cover)
  covered-fits vertical shard replica number cover fits = by (is_stack vertical shard replica cover)
    where
      by : (b : Bool) → Fits verticals (if b then record cover { covers = number } else cover)
      by true = record { vertical = fits.vertical; shard = fits.shard; replica = fits.replica }
      by false = fits

  tidy-fits : (number : ℕ) (names : List StackName) (cover : StackCover) → Fits verticals cover → Fits verticals (tidy number names cover)
  tidy-fits number names cover fits = by (is_due number cover && not (is_untidied names cover))
    where
      by : (b : Bool) → Fits verticals (if b then record cover { covers = number } else cover)
      by true = record { vertical = fits.vertical; shard = fits.shard; replica = fits.replica }
      by false = fits

module _ (terms : Terms) where
  fed-keeps : (feed : Feed) (entry : Entry) (marked : Bool) → HasWhole entry → FeedKeeps terms feed → FeedKeeps terms (fed_one terms feed entry marked)
  fed-keeps feed (change line command) true whole keeps = keeps
  fed-keeps feed (change line command) false whole keeps = by (is_some (refuses terms.schema terms.limits feed.table command))
    where
      by : (b : Bool) → FeedKeeps terms (if b then feed else record { journal = feed.journal; batch = feed.batch ++ command ∷ []; table = next terms.schema feed.table command })
      by true = keeps
      by false = record { journal = keeps.journal; batch = all-append IsWhole feed.batch (command ∷ []) keeps.batch (whole, tt); few = keeps.few }
  fed-keeps feed (publish line) true whole keeps = keeps
  fed-keeps feed (publish line) false whole keeps = by (nat_lt (made feed) terms.limits.publishes) refl
    where
      by : (b : Bool) → nat_lt (made feed) terms.limits.publishes ≡ b
          → FeedKeeps terms (if b then record { journal = feed.journal ++ feed.batch ∷ []; batch = []; table = ended feed.table (made feed + 1) } else feed)
      by true e =
          let below : made feed < terms.limits.publishes = grind (arith, nat_tests) in
          record { journal = all-append AreWhole feed.journal (feed.batch ∷ []) keeps.journal (keeps.batch, tt); batch = tt; few = omega (arith, length-append feed.journal (feed.batch ∷ []), below) }
      by false e = keeps
  fed-keeps feed (ask line session viewer limit query) marked whole keeps = keeps
  fed-keeps feed (compact line vertical shard replica) marked whole keeps = keeps
  fed-keeps feed (stats line) marked whole keeps = keeps
  fed-keeps feed (refused line code) marked whole keeps = keeps
  fed-keeps feed (fault line code) marked whole keeps = keeps
  fed-keeps feed (query_fault line code column) marked whole keeps = keeps

  -- stacks that fit, and are few
  pub record CoversFit (covers : List StackCover) : Type 0 where
    pub fit : AllByRecursion (Fits (length terms.schema.verticals)) covers
    pub count : length covers ≤ 4096

  covers-fit : (covers : List StackCover) (entry : Entry) (mark : Mark) → CoversFit covers → CoversFit (covers_after covers entry mark)
  covers-fit covers (compact line vertical shard replica) (at number) fits = record {
    fit = all-map (Fits (length terms.schema.verticals)) (Fits (length terms.schema.verticals)) (covered vertical shard replica number) (covered-fits (length terms.schema.verticals) vertical shard replica number) covers fits.fit;
    count = omega (arith, fits.count, length-map covers (covered vertical shard replica number));
  }
  covers-fit covers (compact line vertical shard replica) plain fits = fits
  covers-fit covers (compact line vertical shard replica) lacking fits = fits
  covers-fit covers (change line command) mark fits = fits
  covers-fit covers (publish line) mark fits = fits
  covers-fit covers (ask line session viewer limit query) mark fits = fits
  covers-fit covers (stats line) mark fits = fits
  covers-fit covers (refused line code) mark fits = fits
  covers-fit covers (fault line code) mark fits = fits
  covers-fit covers (query_fault line code column) mark fits = fits

  pub entry-keeps : (s : Standing) (entry : Entry) (mark : Mark) → HasWhole entry → Keeps terms s → Keeps terms (after_entry terms s entry mark)
  entry-keeps s entry mark whole keeps =
      let covers = covers-fit s.covers entry mark (record { fit = keeps.covers; count = keeps.count }) in
      record { feed = fed-keeps s.feed entry (lacks mark) whole keeps.feed; covers = covers.fit; count = covers.count }

  pub entries-keep : (s : Standing) (entries : List Entry) (marks : List Mark) → AllByRecursion HasWhole entries → Keeps terms s → Keeps terms (after_entries terms s entries marks)
  entries-keep s [] marks whole keeps = keeps
  entries-keep s (entry ∷ entries) [] whole keeps = keeps
  entries-keep s (entry ∷ entries) (mark ∷ marks) whole keeps = entries-keep (after_entry terms s entry mark) entries marks whole.1 (entry-keeps s entry mark whole.0 keeps)

  pub end-keeps : (s : Standing) (told : RoundRecord) → Keeps terms s → Keeps terms (at_end told s)
  end-keeps s told keeps = record {
    feed = keeps.feed;
    covers = all-map (Fits (length terms.schema.verticals)) (Fits (length terms.schema.verticals)) (tidy (made s.feed) told.untidied) (tidy-fits (length terms.schema.verticals) (made s.feed) told.untidied) s.covers keeps.covers;
    count = omega (arith, keeps.count, length-map s.covers (tidy (made s.feed) told.untidied));
  }

  pub round-keeps : (s : Standing) (entries : List Entry) (told : RoundRecord) → AllByRecursion HasWhole entries → Keeps terms s → Keeps terms (after_round terms s entries told)
  round-keeps s entries told whole keeps = end-keeps (after_entries terms s entries told.marks) told (entries-keep s entries told.marks whole keeps)

  pub opening-keeps : IsSchema terms.schema → Keeps terms (opening_standing terms)
  opening-keeps is = record {
    feed = record { journal = tt; batch = tt; few = omega arith };
    covers = from-fits (length terms.schema.verticals) 0 terms.schema.verticals (omega arith) is.verticals;
    count = omega (arith, from-few (length terms.schema.verticals) 0 terms.schema.verticals is.verticals, is.few_verticals);
  }
