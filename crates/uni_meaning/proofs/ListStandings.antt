-- How entities stand under lists, by the columns of their operands.
use Rattle.std.proofs.Common.{◌≡◌, ◌+◌, ◌||◌, ℕ, zero, suc, Bool, true, false, if◌then◌else◌, List, [], ◌∷◌, Some, refl, sym, ◌∙◌, ap, arith, length, map, drop, get_or, slice_get, All}
use Rattle.std.proofs.lemmas.List.{get_or-map, length-map}
use Rattle.std.proofs.lemmas.List.Elements.{All-cons}
use Rattle.std.proofs.lemmas.Option.{get_or_from_slice_get, slice_get_within}
use Rattle.std.specs.List.{Contains, list_any}
use Rattle.uni_base.specs.Walks.{Walker}
use Rattle.uni_base.specs.declared.entity.DocKey.{DocKey}
use Rattle.uni_base.specs.declared.limits.Limits.{Limits}
use Rattle.uni_schema.specs.Schema.{shard_of}
use Rattle.uni_table.specs.Ranked.{ranked}
use Rattle.uni_table.specs.TableState.{IsKept}
use Rattle.uni_table.proofs.Listed.{first_is, later_is}
use Rattle.query_tree.specs.declared.kind.ListKind.{ListKind}
use Rattle.query_tree.specs.declared.kind.ListKind.TheVariants.{And, Or, Difference, WeakAnd, StrongOr}
use Rattle.query_tree.specs.declared.query.Mark.{Mark}
use Rattle.query_check.specs.Plan.{Plans, SeenOperand, list_plan, plans_of}
use Rattle.query_check.specs.Verticals.{AreOf}
use Rattle.uni_meaning.specs.Firsts.{shown_under_having, shown_under_one}
use Rattle.uni_meaning.specs.Hits.{quota_of, first_vertical, is_among, is_hit, operands, shards_of}
use Rattle.uni_meaning.specs.Standings.{columns_of, hit_by, is_found, is_set, places_of, row_at, seen_column, shown_as, standing_of, standings_of}
use Rattle.uni_meaning.specs.Viewed.{Viewed}
use Rattle.uni_meaning.specs.Walking.{before_all, fresh_counters, walk_standings}
use Rattle.uni_meaning.specs.declared.column.Column.{Column}
use Rattle.uni_meaning.specs.declared.place.Place.{Place}
use Rattle.uni_meaning.specs.declared.standing.Standing.{Standing}
use Rattle.uni_meaning.specs.declared.standing.Standing.TheVariants.{Missed}
use Rattle.uni_meaning.proofs.Cuts.{shard_apart}
use Rattle.uni_meaning.proofs.SetStandings.{all_of-row, first_of-row, found_row, has_row, row_of}
use Rattle.uni_meaning.proofs.Typed.{in_its_shard, place_is}
use Rattle.uni_meaning.proofs.WalkStandings.{Agrees, Alike, doc_walk, walk_found}
use Rattle.uni_meaning.proofs.WalkedShards.{by_walk, in_all}

same_heads : {X : Type 0} (x y : X) (xs ys : List X) → x ∷ xs ≡ y ∷ ys → x ≡ y
same_heads x y xs ys e = cc

same_tails : {X : Type 0} (x y : X) (xs ys : List X) → x ∷ xs ≡ y ∷ ys → xs ≡ ys
same_tails x y xs ys e = cc

module _ (v : Viewed) where
  -- the row at a place is how its entity stands under the operands
  pub row_is : (columns : List Column) (os : List SeenOperand) (places : List Place) (i : ℕ) (p : Place) → map seen_column columns ≡ columns_of v os places → slice_get places i ≡ Some p
      → row_at columns i ≡ row_of v (plans_of os) p.doc
  row_is [] [] places i p e at = refl
  row_is [] (o ∷ os) places i p e at = cc
  row_is (c ∷ columns) [] places i p e at = cc
  row_is (c ∷ columns) (o ∷ os) places i p e at =
      let head : c.standings.items ≡ standings_of v o.node.plan places = ap (λ (m : Mark × List Standing). m.1) (same_heads (seen_column c) (o.mark, standings_of v o.node.plan places) (map seen_column columns) (columns_of v os places) e) in
      let tail : map seen_column columns ≡ columns_of v os places = same_tails (seen_column c) (o.mark, standings_of v o.node.plan places) (map seen_column columns) (columns_of v os places) e in
      let within = slice_get_within places i p at in
      λ k. (ap (λ (ss : List Standing). get_or ss i Missed) head ∙ get_or-map (λ (q : Place). standing_of v o.node.plan q.doc) places i p Missed within
      ∙ ap (λ (q : Place). standing_of v o.node.plan q.doc) (get_or_from_slice_get places i p p at)) k ∷ row_is columns os places i p tail at k

  -- every column is as long as the places
  pub columns_long : (columns : List Column) (os : List SeenOperand) (places : List Place) → map seen_column columns ≡ columns_of v os places → All (λ c. length c.standings.items ≡ length places) columns
  columns_long [] os places e = λ k d within. absurd (omega (arith, within))
  columns_long (c ∷ columns) [] places e = cc
  columns_long (c ∷ columns) (o ∷ os) places e =
      let head : c.standings.items ≡ standings_of v o.node.plan places = ap (λ (m : Mark × List Standing). m.1) (same_heads (seen_column c) (o.mark, standings_of v o.node.plan places) (map seen_column columns) (columns_of v os places) e) in
      let tail : map seen_column columns ≡ columns_of v os places = same_tails (seen_column c) (o.mark, standings_of v o.node.plan places) (map seen_column columns) (columns_of v os places) e in
      All-cons (λ (x : Column). length x.standings.items ≡ length places) c columns (ap length head ∙ length-map places (λ (q : Place). standing_of v o.node.plan q.doc)) (columns_long columns os places tail)

  alike_fresh : (columns : List Column) (os : List SeenOperand) (places : List Place) (shard : ℕ) → map seen_column columns ≡ columns_of v os places → Alike (fresh_counters columns) (operands v.schema v.contents (plans_of os) shard)
  alike_fresh [] [] places shard e = tt
  alike_fresh [] (o ∷ os) places shard e = cc
  alike_fresh (c ∷ columns) [] places shard e = cc
  alike_fresh (c ∷ columns) (o ∷ os) places shard e =
      let mark : c.mark ≡ o.mark = ap (λ (m : Mark × List Standing). m.0) (same_heads (seen_column c) (o.mark, standings_of v o.node.plan places) (map seen_column columns) (columns_of v os places) e) in
      let tail : map seen_column columns ≡ columns_of v os places = same_tails (seen_column c) (o.mark, standings_of v o.node.plan places) (map seen_column columns) (columns_of v os places) e in
      (ap quota_of mark, refl, alike_fresh columns os places shard tail)

  drop_next : (whole : List Standing) (j : ℕ) (s : Standing) (row : List Standing) → drop j whole ≡ s ∷ row → (get_or whole j Missed ≡ s) × (drop (j + 1) whole ≡ row)
  drop_next [] zero s row e = cc
  drop_next [] (suc j) s row e = cc
  drop_next (t ∷ whole) zero s row e = let head : t ≡ s = cc in let tail : whole ≡ row = cc in (head, tail)
  drop_next (t ∷ whole) (suc j) s row e =
      let next = drop_next whole j s row e in
      let more : suc j + 1 ≡ suc (j + 1) = omega arith in
      (next.0, ap (λ n. drop n (t ∷ whole)) more ∙ next.1)

  agrees_from : (j : ℕ) (whole row : List Standing) (x : DocKey) (os : List (Walker DocKey)) → drop j whole ≡ row → map is_found row ≡ map (λ (o : Walker DocKey). o.has x) os → Agrees j whole x os
  agrees_from j whole row x [] at e = tt
  agrees_from j whole [] x (o ∷ os) at e = cc
  agrees_from j whole (s ∷ row) x (o ∷ os) at e =
      let next = drop_next whole j s row at in
      let head : is_found s ≡ o.has x = cc in
      let tail : map is_found row ≡ map (λ (p : Walker DocKey). p.has x) os = cc in
      (ap is_found next.0 ∙ head, agrees_from (j + 1) whole row x os next.1 tail)

  -- the entities of a shard stand under the operands as the operands have them
  agrees_in : (limits : Limits) (kept : IsKept v.schema limits v.contents) (plans : Plans) (of : AreOf v.schema plans (first_vertical v.schema plans)) (shard : ℕ) (x : DocKey)
      → Contains (ranked v.schema v.contents (first_vertical v.schema plans) shard) x → Agrees 0 (row_of v plans x) x (operands v.schema v.contents plans shard)
  agrees_in limits kept plans of shard x there =
      agrees_from 0 (row_of v plans x) (row_of v plans x) x (operands v.schema v.contents plans shard) refl
      (found_row v (first_vertical v.schema plans) x plans of ∙ sym (has_row v (first_vertical v.schema plans) x plans)
      ∙ ap (λ n. map (λ (o : Walker DocKey). o.has x) (operands v.schema v.contents plans n)) (in_its_shard v.schema limits v.contents kept (first_vertical v.schema plans) shard x there))

  pub map_places : (f g : Place → Standing) (ps : List Place) → ((p : Place) → Contains ps p → f p ≡ g p) → map f ps ≡ map g ps
  map_places f g [] same = refl
  map_places f g (p ∷ ps) same = λ i. same p (first_is p ps) i ∷ map_places f g ps (λ q there. same q (later_is p ps q there)) i

  -- what a walk keeps stands as it is shown
  walk_standing : (kind : ListKind) (plans : Plans) (x : DocKey) → is_set kind ≡ false → (b : Bool) → is_hit v.schema v.contents (list_plan kind plans) x ≡ b → (b ≡ true → list_any is_found (row_of v plans x) ≡ true)
      → (if b then hit_by kind (row_of v plans x) else Missed) ≡ standing_of v (list_plan kind plans) x
  walk_standing And plans x walk b e found = cc
  walk_standing Or plans x walk b e found = cc
  walk_standing Difference plans x walk b e found = cc
  walk_standing WeakAnd plans x walk true e found =
      all_of-row v plans x ∙ ap (λ c. if c then shown_as (shown_under_having v.schema v.contents v.viewer plans x) else Missed) (found refl ∙ sym e)
  walk_standing WeakAnd plans x walk false e found = ap (λ c. if c then shown_as (shown_under_having v.schema v.contents v.viewer plans x) else Missed) (sym e)
  walk_standing StrongOr plans x walk true e found =
      first_of-row v plans x ∙ ap (λ c. if c then shown_as (shown_under_one v.schema v.contents v.viewer plans x) else Missed) (found refl ∙ sym e)
  walk_standing StrongOr plans x walk false e found = ap (λ c. if c then shown_as (shown_under_one v.schema v.contents v.viewer plans x) else Missed) (sym e)

  any_found : (row : List Standing) → list_any (λ b. b) (map is_found row) ≡ list_any is_found row
  any_found [] = refl
  any_found (s ∷ row) = ap (λ b. is_found s || b) (any_found row)

  any_has : (os : List (Walker DocKey)) (x : DocKey) → list_any (λ b. b) (map (λ (o : Walker DocKey). o.has x) os) ≡ list_any (λ (o : Walker DocKey). o.has x) os
  any_has [] x = refl
  any_has (o ∷ os) x = ap (λ b. o.has x || b) (any_has os x)

  walk_hit : (kind : ListKind) (plans : Plans) (x : DocKey) → is_set kind ≡ false
      → is_hit v.schema v.contents (list_plan kind plans) x ≡ is_among (doc_walk kind 0 (operands v.schema v.contents plans (shard_of v.schema (first_vertical v.schema plans) x.id)) (ranked v.schema v.contents (first_vertical v.schema plans) (shard_of v.schema (first_vertical v.schema plans) x.id))) x
  walk_hit And plans x walk = cc
  walk_hit Or plans x walk = cc
  walk_hit Difference plans x walk = cc
  walk_hit WeakAnd plans x walk = refl
  walk_hit StrongOr plans x walk = refl

  -- what a walk keeps some operand has
  pub walk_some : (kind : ListKind) (plans : Plans) (x : DocKey) → is_set kind ≡ false → AreOf v.schema plans (first_vertical v.schema plans) → is_hit v.schema v.contents (list_plan kind plans) x ≡ true
      → list_any is_found (row_of v plans x) ≡ true
  walk_some kind plans x walk of hit =
      let shard = shard_of v.schema (first_vertical v.schema plans) x.id in
      sym (any_found (row_of v plans x)) ∙ ap (list_any (λ b. b)) (found_row v (first_vertical v.schema plans) x plans of ∙ sym (has_row v (first_vertical v.schema plans) x plans))
      ∙ any_has (operands v.schema v.contents plans shard) x
      ∙ walk_found kind 0 (operands v.schema v.contents plans shard) (ranked v.schema v.contents (first_vertical v.schema plans) shard) x (sym (walk_hit kind plans x walk) ∙ hit)

  pub walks_are : (limits : Limits) (kept : IsKept v.schema limits v.contents) (kind : ListKind) (os : List SeenOperand) (columns : List Column) (places : List Place) → is_set kind ≡ false
      → AreOf v.schema (plans_of os) (first_vertical v.schema (plans_of os)) → places ≡ places_of v.schema v.contents (first_vertical v.schema (plans_of os)) → map seen_column columns ≡ columns_of v os places
      → walk_standings kind columns before_all 0 places ≡ standings_of v (list_plan kind (plans_of os)) places
  walks_are limits kept kind os columns places walk of there seen =
      ap (walk_standings kind columns before_all 0) there
      ∙ in_all kind columns (row_of v plans) (ranked v.schema v.contents (first_vertical v.schema plans)) (operands v.schema v.contents plans)
      (λ shard. alike_fresh columns os places shard seen) (λ shard. shard_apart v limits kept (first_vertical v.schema plans) shard) (λ shard x within. agrees_in limits kept plans of shard x within)
      (shards_of v.schema (first_vertical v.schema plans)) 0 0 before_all (λ shard above. refl)
      (λ k p at. let none : 0 + k ≡ k = omega arith in ap (row_at columns) none ∙ row_is columns os places k p seen (ap (λ (ps : List Place). slice_get ps k) there ∙ at))
      ∙ map_places (by_walk kind columns (row_of v plans) (ranked v.schema v.contents (first_vertical v.schema plans)) (operands v.schema v.contents plans)
      (λ shard. alike_fresh columns os places shard seen) (λ shard. shard_apart v limits kept (first_vertical v.schema plans) shard) (λ shard x within. agrees_in limits kept plans of shard x within))
      (λ (p : Place). standing_of v (list_plan kind plans) p.doc) (places_of v.schema v.contents (first_vertical v.schema plans)) each
      ∙ ap (standings_of v (list_plan kind plans)) (sym there)
    where
      plans : Plans
      plans = plans_of os

      kept_in : ℕ → DocKey → Bool
      kept_in shard x = is_among (doc_walk kind 0 (operands v.schema v.contents (plans_of os) shard) (ranked v.schema v.contents (first_vertical v.schema (plans_of os)) shard)) x

      each : (p : Place) → Contains (places_of v.schema v.contents (first_vertical v.schema (plans_of os))) p
          → (if kept_in p.shard p.doc then hit_by kind (row_of v (plans_of os) p.doc) else Missed) ≡ standing_of v (list_plan kind (plans_of os)) p.doc
      each p at =
          ap (λ n. if kept_in n p.doc then hit_by kind (row_of v (plans_of os) p.doc) else Missed) (sym (place_is v.schema limits v.contents kept (first_vertical v.schema (plans_of os)) p at).1)
          ∙ ap (λ b. if b then hit_by kind (row_of v (plans_of os) p.doc) else Missed) (sym (walk_hit kind (plans_of os) p.doc walk))
          ∙ walk_standing kind (plans_of os) p.doc walk (is_hit v.schema v.contents (list_plan kind (plans_of os)) p.doc) refl
          (λ hit. walk_some kind (plans_of os) p.doc walk of hit)
