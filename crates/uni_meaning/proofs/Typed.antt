-- Verticals of typed plans, and the entities of a vertical.
use Rattle.std.proofs.Common.{◌≡◌, ◌<◌, ◌&&◌, ◌==◌, ℕ, zero, suc, Bool, true, false, List, [], ◌∷◌, Some, sym, ◌∙◌, ap, refl, subst, arith, length, map, nat_lt, slice_get}
use Rattle.std.proofs.lemmas.Bool.{and_parts}
use Rattle.std.proofs.lemmas.Bool.Decides.{nat_tests}
use Rattle.std.proofs.lemmas.Option.{slice_get_within}
use Rattle.std.specs.List.{Contains, list_all, range_with_len}
use Rattle.std.specs.Option.{option_map_or}
use Rattle.uni_base.specs.declared.entity.DocKey.{DocKey}
use Rattle.uni_base.specs.declared.limits.Limits.{Limits}
use Rattle.uni_schema.specs.Schema.{Declarations, IsSchema, is_type, shard_of, starts_below}
use Rattle.uni_schema.specs.declared.schema.Origin.{Origin}
use Rattle.uni_schema.specs.declared.schema.Store.{Store}
use Rattle.uni_schema.specs.declared.schema.TypeDef.{TypeDef}
use Rattle.uni_table.specs.Contents.{Contents}
use Rattle.uni_table.specs.Ranked.{ranked, ranked_all}
use Rattle.uni_table.specs.TableState.{IsKept}
use Rattle.uni_table.proofs.Sharded.{shards_part}
use Rattle.query_tree.specs.declared.kind.ListKind.{ListKind}
use Rattle.query_check.specs.Plan.{Plan, Plans, term_plan, prefix_plan, list_plan, join_plan, no_plans, with_plan}
use Rattle.query_check.specs.Verticals.{AreOf, IsOf, IsType}
use Rattle.uni_meaning.specs.Hits.{shards_of, target_of, vertical_of}
use Rattle.uni_meaning.specs.Standings.{places_of}
use Rattle.uni_meaning.specs.declared.place.Place.{Place}
use Rattle.uni_meaning.proofs.Members.{left_by, listed_by, made_of}

below_from : (a b : ℕ) → nat_lt a b ≡ true → a < b
below_from a b e = grind (arith, nat_tests)

same_number : (a b : ℕ) → (a == b) ≡ true → a ≡ b
same_number a b e = grind (arith, nat_tests)

module _ (schema : Declarations) where
  -- the target of a declared type
  pub target_is : (number : ℕ) (store : Store) (origin : Origin) (vertical : ℕ) → IsType schema number store origin vertical → target_of schema number ≡ vertical
  target_is number store origin vertical is = ap (λ o. option_map_or (λ type_def. type_def.target) o 0) is.declared ∙ is.leads

  -- a typed plan is of the vertical that its types lead to
  pub vertical_is : (plan : Plan) (vertical : ℕ) → IsOf schema plan vertical → vertical_of schema plan ≡ vertical
  vertical_is (term_plan number key) vertical is = target_is number _ is.0 vertical is.1.0
  vertical_is (prefix_plan number from) vertical is = target_is number _ _ vertical is
  vertical_is (list_plan kind no_plans) vertical is = absurd is
  vertical_is (list_plan kind (with_plan plan mark others)) vertical is = vertical_is plan vertical is.0
  vertical_is (join_plan kind number limit plan) vertical is = target_is number _ _ vertical is.1.0

  -- the operands of a typed list are of its vertical
  pub list_of : (kind : ListKind) (plans : Plans) (vertical : ℕ) → IsOf schema (list_plan kind plans) vertical → AreOf schema plans vertical
  list_of kind no_plans vertical is = absurd is
  list_of kind (with_plan plan mark others) vertical is = (is.0, is.1)

  -- the type of a term is declared
  pub declared : (number : ℕ) (store : Store) (origin : Origin) (vertical : ℕ) → IsType schema number store origin vertical → number < length schema.types
  declared number store origin vertical is = slice_get_within schema.types number is.def is.declared

  pub all_at : {X : Type 0} (p : X → Bool) (xs : List X) (n : ℕ) (x : X) → list_all p xs ≡ true → slice_get xs n ≡ Some x → p x ≡ true
  all_at p [] n x all e = cc
  all_at p (y ∷ xs) zero x all e = let same : y ≡ x = cc in ap p (sym same) ∙ (and_parts (p y) (list_all p xs) all).0
  all_at p (y ∷ xs) (suc n) x all e = all_at p xs n x (and_parts (p y) (list_all p xs) all).1 e

  target_within : (def : TypeDef) (count : ℕ) → is_type count def ≡ true → def.target < count
  target_within def count e = below_from def.target count (second (starts_below count def.origin) (nat_lt def.target count) _ _ e)
    where
      second : (a b c d : Bool) → (a && b && c && d) ≡ true → b ≡ true
      second true true c d e = refl
      second true false c d e = cc
      second false b c d e = cc

  leads_within : IsSchema schema → (number : ℕ) (store : Store) (origin : Origin) (vertical : ℕ) → IsType schema number store origin vertical → vertical < length schema.verticals
  leads_within is number store origin vertical type =
      subst (λ n. n < length schema.verticals) type.leads
      (target_within type.def (length schema.verticals) (all_at (is_type (length schema.verticals)) schema.types number type.def is.types type.declared))

  -- a typed plan is of a declared vertical
  pub vertical_within : IsSchema schema → (plan : Plan) (vertical : ℕ) → IsOf schema plan vertical → vertical < length schema.verticals
  vertical_within is (term_plan number key) vertical of = leads_within is number _ of.0 vertical of.1.0
  vertical_within is (prefix_plan number from) vertical of = leads_within is number _ _ vertical of
  vertical_within is (list_plan kind no_plans) vertical of = absurd of
  vertical_within is (list_plan kind (with_plan plan mark others)) vertical of = vertical_within is plan vertical of.0
  vertical_within is (join_plan kind number limit plan) vertical of = leads_within is number _ _ vertical of.1.0

  module _ (limits : Limits) (table : Contents) (kept : IsKept schema limits table) (vertical : ℕ) where
    -- an entity of a shard is in the shard of its id
    pub in_its_shard : (shard : ℕ) (x : DocKey) → Contains (ranked schema table vertical shard) x → shard_of schema vertical x.id ≡ shard
    in_its_shard shard x there =
        same_number (shard_of schema vertical x.id) shard
        (left_by (λ (k : DocKey). shard_of schema vertical k.id == shard) (ranked_all table vertical) x (subst (λ (ks : List DocKey). Contains ks x) (shards_part.lists schema limits table vertical shard kept) there)).1

    placed : ℕ → DocKey → Place
    placed shard x = record { doc = x; shard = shard }

    -- an entity with its shard is in that shard
    pub place_is : (p : Place) → Contains (places_of schema table vertical) p → Contains (ranked schema table vertical p.shard) p.doc × (shard_of schema vertical p.doc.id ≡ p.shard)
    unfolding placed
    place_is p there =
        let found = listed_by (λ shard. map (placed shard) (ranked schema table vertical shard)) (range_with_len 0 (shards_of schema vertical)) p there in
        let made = made_of (placed found.0) (ranked schema table vertical found.0) p found.2 in
        subst (λ (q : Place). Contains (ranked schema table vertical q.shard) q.doc × (shard_of schema vertical q.doc.id ≡ q.shard)) made.2 (made.1, in_its_shard found.0 made.0 made.1)

    -- so it is among the entities of the shard of its id
    pub at_home : (p : Place) → Contains (places_of schema table vertical) p → Contains (ranked schema table vertical (shard_of schema vertical p.doc.id)) p.doc
    at_home p there = subst (λ n. Contains (ranked schema table vertical n) p.doc) (sym (place_is p there).1) (place_is p there).0
