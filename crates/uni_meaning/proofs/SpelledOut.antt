-- A plan with its prefix terms spelled out means the same.
use Rattle.std.proofs.Common.{◌≡◌, ◌++◌, not, ℕ, Bool, true, false, if◌then◌else◌, List, [], ◌∷◌, Option, refl, sym, ◌∙◌, ap, filter, map}
use Rattle.std.proofs.lemmas.Bool.{and_parts}
use Rattle.std.specs.List.{Contains, filter_map, flat_map, list_all, list_any}
use Rattle.std.specs.Option.{option_map}
use Rattle.uni_base.specs.Walks.{Walker}
use Rattle.uni_base.specs.declared.edge.EdgeRef.{EdgeRef}
use Rattle.uni_base.specs.declared.edge.Key.TheVariants.{Id}
use Rattle.uni_base.specs.declared.entity.DocKey.{DocKey}
use Rattle.uni_schema.specs.Schema.{Declarations, shard_of}
use Rattle.uni_schema.specs.declared.schema.Origin.TheVariants.{Words}
use Rattle.uni_schema.specs.declared.schema.Store.TheVariants.{Index}
use Rattle.uni_table.specs.Contents.{Contents}
use Rattle.uni_table.specs.Ranked.{ranked}
use Rattle.uni_table.proofs.Listed.{first_is, later_is}
use Rattle.query_tree.specs.declared.kind.ListKind.TheVariants.{And, Or, Difference, WeakAnd, StrongOr}
use Rattle.query_check.specs.Plan.{Plan, Plans, term_plan, prefix_plan, list_plan, join_plan, no_plans, with_plan}
use Rattle.query_check.specs.Verticals.{AreOf, IsOf, IsType}
use Rattle.uni_meaning.specs.Firsts.{first_shown}
use Rattle.uni_meaning.specs.Hits.{cut, edge_to, first_alone, first_over, first_vertical, hits, is_among, is_hit, kept_by, leads_to, operand_over, operands, target_of, vertical_of}
use Rattle.uni_meaning.specs.Laws.{PrefixesSpelledOut, first_whole}
use Rattle.uni_meaning.specs.Lineages.{choices, lineages, under_each, under_first, under_having, under_one}
use Rattle.uni_meaning.specs.Policy.{authorised}
use Rattle.uni_meaning.specs.Prefixes.{prefix_keys}
use Rattle.uni_meaning.specs.Replies.{shown_hit}
use Rattle.uni_meaning.specs.SpelledOut.{AreSpelledOut, IsSpelledOut, all_spelled_out, or_of_keys, spelled_out, terms_of}
use Rattle.uni_meaning.specs.declared.reply.Hit.{Hit}
use Rattle.uni_meaning.proofs.Firsts.{plan_first}
use Rattle.uni_meaning.proofs.Homes.{among, cut_hit, found_is_hit, home}
use Rattle.uni_meaning.proofs.Members.{left_by}
use Rattle.uni_meaning.proofs.Prefixed.{prefix_is_or}
use Rattle.uni_meaning.proofs.Unsharded.{map_agreed}

-- lists of lists agree where their parts do
flat_agreed : {X Y : Type 0} (f g : X → List Y) (xs : List X) → ((x : X) → Contains xs x → f x ≡ g x) → flat_map f xs ≡ flat_map g xs
flat_agreed f g [] agree = refl
flat_agreed f g (x ∷ xs) agree = let rest = flat_agreed f g xs (λ y h. agree y (later_is x xs y h)) in λ i. agree x (first_is x xs) i ++ rest i

module _ (table : Contents) where
  terms_spelled : (number : ℕ) (words : List (List ℕ)) → AreSpelledOut table (terms_of number words)
  terms_spelled number [] = tt
  terms_spelled number (word ∷ words) = (tt, terms_spelled number words)

  or_spelled : (number : ℕ) (from : List ℕ) (words : List (List ℕ)) → prefix_keys table number from ≡ words → IsSpelledOut table (or_of_keys number from words)
  or_spelled number from [] keys = keys
  or_spelled number from (word ∷ words) keys = terms_spelled number (word ∷ words)

  mutual
    is_spelled : (plan : Plan) → IsSpelledOut table (spelled_out table plan)
    is_spelled (term_plan number key) = tt
    is_spelled (prefix_plan number from) = or_spelled number from (prefix_keys table number from) refl
    is_spelled (list_plan kind plans) = are_spelled plans
    is_spelled (join_plan kind number limit plan) = is_spelled plan

    are_spelled : (plans : Plans) → AreSpelledOut table (all_spelled_out table plans)
    are_spelled no_plans = tt
    are_spelled (with_plan plan mark others) = (is_spelled plan, are_spelled others)

module _ (schema : Declarations) (table : Contents) where
  terms_typed : (number vertical : ℕ) (words : List (List ℕ)) → IsType schema number Index Words vertical → AreOf schema (terms_of number words) vertical
  terms_typed number vertical [] type = tt
  terms_typed number vertical (word ∷ words) type = ((Words, (type, tt)), terms_typed number vertical words type)

  or_typed : (number vertical : ℕ) (from : List ℕ) (words : List (List ℕ)) → IsType schema number Index Words vertical → IsOf schema (or_of_keys number from words) vertical
  or_typed number vertical from [] type = type
  or_typed number vertical from (word ∷ words) type = ((Words, (type, tt)), terms_typed number vertical words type)

  mutual
    still_of : (plan : Plan) (vertical : ℕ) → IsOf schema plan vertical → IsOf schema (spelled_out table plan) vertical
    still_of (term_plan number key) vertical of = of
    still_of (prefix_plan number from) vertical of = or_typed number vertical from (prefix_keys table number from) of
    still_of (list_plan kind no_plans) vertical of = absurd of
    still_of (list_plan kind (with_plan plan mark others)) vertical of = (still_of plan vertical of.0, all_still_of others vertical of.1)
    still_of (join_plan kind number limit plan) vertical of = (of.0, (of.1.0, still_of plan of.0 of.1.1))

    all_still_of : (plans : Plans) (vertical : ℕ) → AreOf schema plans vertical → AreOf schema (all_spelled_out table plans) vertical
    all_still_of no_plans vertical of = tt
    all_still_of (with_plan plan mark others) vertical of = (still_of plan vertical of.0, all_still_of others vertical of.1)

  or_vertical : (number : ℕ) (from : List ℕ) (words : List (List ℕ)) → vertical_of schema (or_of_keys number from words) ≡ target_of schema number
  or_vertical number from [] = refl
  or_vertical number from (word ∷ words) = refl

  mutual
    same_vertical : (plan : Plan) → vertical_of schema (spelled_out table plan) ≡ vertical_of schema plan
    same_vertical (term_plan number key) = refl
    same_vertical (prefix_plan number from) = or_vertical number from (prefix_keys table number from)
    same_vertical (list_plan kind plans) = same_first_vertical plans
    same_vertical (join_plan kind number limit plan) = refl

    same_first_vertical : (plans : Plans) → first_vertical schema (all_spelled_out table plans) ≡ first_vertical schema plans
    same_first_vertical no_plans = refl
    same_first_vertical (with_plan plan mark others) = same_vertical plan

  or_hits : (number shard : ℕ) (from : List ℕ) (words : List (List ℕ)) → prefix_keys table number from ≡ words → hits schema table (or_of_keys number from words) shard ≡ hits schema table (prefix_plan number from) shard
  or_hits number shard from [] keys = refl
  or_hits number shard from (word ∷ words) keys = sym (prefix_is_or.found schema table number shard from word words keys)

  cut_from : (plan : Plan) (limit : ℕ) → ((shard : ℕ) → hits schema table (spelled_out table plan) shard ≡ hits schema table plan shard) → cut schema table (spelled_out table plan) limit ≡ cut schema table plan limit
  cut_from plan limit same = λ i. first_over schema (same_vertical plan i) limit (λ shard. same shard i)

  mutual
    same_hits : (plan : Plan) (shard : ℕ) → hits schema table (spelled_out table plan) shard ≡ hits schema table plan shard
    same_hits (term_plan number key) shard = refl
    same_hits (prefix_plan number from) shard = or_hits number shard from (prefix_keys table number from) refl
    same_hits (list_plan kind plans) shard = λ i. kept_by kind (same_operands plans shard i) (ranked schema table (same_first_vertical plans i) shard)
    same_hits (join_plan kind number limit plan) shard =
        ap (λ (ys : List DocKey). filter (λ k. list_any (λ y. leads_to table number (Id y.id) k) ys) (ranked schema table (target_of schema number) shard)) (cut_from plan limit (same_hits plan))

    same_operands : (plans : Plans) (shard : ℕ) → operands schema table (all_spelled_out table plans) shard ≡ operands schema table plans shard
    same_operands no_plans shard = refl
    same_operands (with_plan plan mark others) shard = λ i. operand_over (same_hits plan shard i) mark ∷ same_operands others shard i

  same_cut : (plan : Plan) (limit : ℕ) → cut schema table (spelled_out table plan) limit ≡ cut schema table plan limit
  same_cut plan limit = cut_from plan limit (same_hits plan)

  same_hit : (plan : Plan) (x : DocKey) → is_hit schema table (spelled_out table plan) x ≡ is_hit schema table plan x
  same_hit plan x = λ i. is_among (same_hits plan (shard_of schema (same_vertical plan i) x.id) i) x

  -- what an operand has of a shard is a hit of it
  operand_hit : (plan : Plan) (shard : ℕ) (x : DocKey) → is_among (hits schema table plan shard) x ≡ true → is_hit schema table plan x ≡ true
  operand_hit plan shard x has = found_is_hit schema table plan shard x (among (hits schema table plan shard) x has)

  abbrev having_all : List (Walker DocKey) → DocKey → Bool
  having_all os x = list_all (λ o. o.has x) os

  or_lineages : (number : ℕ) (from : List ℕ) (x : DocKey) (words : List (List ℕ)) → prefix_keys table number from ≡ words
      → Contains (ranked schema table (target_of schema number) (shard_of schema (target_of schema number) x.id)) x
      → lineages schema table (or_of_keys number from words) x ≡ lineages schema table (prefix_plan number from) x
  or_lineages number from x [] keys there = refl
  or_lineages number from x (word ∷ words) keys there =
      sym (prefix_is_or.by_lineages schema table number from x there ∙ ap (λ (ws : List (List ℕ)). lineages schema table (list_plan Or (terms_of number ws)) x) keys)

  -- under an operand, where it has the entity
  one_step : (plan : Plan) (others : Plans) (x : DocKey) (b : Bool) → is_hit schema table plan x ≡ b
      → (is_hit schema table plan x ≡ true → lineages schema table (spelled_out table plan) x ≡ lineages schema table plan x)
      → under_one schema table (all_spelled_out table others) x ≡ under_one schema table others x
      → (if b then lineages schema table (spelled_out table plan) x ++ under_one schema table (all_spelled_out table others) x else under_one schema table (all_spelled_out table others) x)
      ≡ (if b then lineages schema table plan x ++ under_one schema table others x else under_one schema table others x)
  one_step plan others x true hit own rest = λ i. own hit i ++ rest i
  one_step plan others x false hit own rest = rest

  having_step : (plan : Plan) (others : Plans) (x : DocKey) (b : Bool) → is_hit schema table plan x ≡ b
      → (is_hit schema table plan x ≡ true → lineages schema table (spelled_out table plan) x ≡ lineages schema table plan x)
      → under_having schema table (all_spelled_out table others) x ≡ under_having schema table others x
      → (if b then choices (lineages schema table (spelled_out table plan) x) (under_having schema table (all_spelled_out table others) x) else under_having schema table (all_spelled_out table others) x)
      ≡ (if b then choices (lineages schema table plan x) (under_having schema table others x) else under_having schema table others x)
  having_step plan others x true hit own rest = λ i. choices (own hit i) (rest i)
  having_step plan others x false hit own rest = rest

  -- along the members of a cut
  join_step : (number limit : ℕ) (plan : Plan) (x : DocKey) → ((y : DocKey) → is_hit schema table plan y ≡ true → lineages schema table (spelled_out table plan) y ≡ lineages schema table plan y)
      → flat_map (λ y. if leads_to table number (Id y.id) x then map (λ rest. edge_to number (Id y.id) x.id ∷ rest) (lineages schema table (spelled_out table plan) y) else []) (cut schema table (spelled_out table plan) limit)
      ≡ flat_map (λ y. if leads_to table number (Id y.id) x then map (λ rest. edge_to number (Id y.id) x.id ∷ rest) (lineages schema table plan y) else []) (cut schema table plan limit)
  join_step number limit plan x inner =
      ap (flat_map (through (spelled_out table plan))) (same_cut plan limit)
      ∙ flat_agreed (through (spelled_out table plan)) (through plan) (cut schema table plan limit) (λ y within. ap (after y) (inner y (cut_hit schema table plan limit y within)))
    where
      after : DocKey → List (List EdgeRef) → List (List EdgeRef)
      after y ls = if leads_to table number (Id y.id) x then map (λ rest. edge_to number (Id y.id) x.id ∷ rest) ls else []

      through : Plan → DocKey → List (List EdgeRef)
      through inner_plan y = after y (lineages schema table inner_plan y)

  mutual
    same_lineages : (plan : Plan) (x : DocKey) → is_hit schema table plan x ≡ true → lineages schema table (spelled_out table plan) x ≡ lineages schema table plan x
    same_lineages (term_plan number key) x hit = refl
    same_lineages (prefix_plan number from) x hit = or_lineages number from x (prefix_keys table number from) refl (home schema table (prefix_plan number from) x hit)
    same_lineages (list_plan And plans) x hit =
        let shard = shard_of schema (first_vertical schema plans) x.id in
        let os = operands schema table plans shard in
        each_same plans shard x (left_by (λ (k : DocKey). having_all os k) (ranked schema table (first_vertical schema plans) shard) x (among (hits schema table (list_plan And plans) shard) x hit)).1
    same_lineages (list_plan Or plans) x hit = one_same plans x
    same_lineages (list_plan Difference plans) x hit =
        let shard = shard_of schema (first_vertical schema plans) x.id in
        let os = operands schema table plans shard in
        first_same plans shard x (left_by (first_alone os) (ranked schema table (first_vertical schema plans) shard) x (among (hits schema table (list_plan Difference plans) shard) x hit)).1
    same_lineages (list_plan WeakAnd plans) x hit = having_same plans x
    same_lineages (list_plan StrongOr plans) x hit = one_same plans x
    same_lineages (join_plan kind number limit plan) x hit = join_step number limit plan x (same_lineages plan)

    each_same : (plans : Plans) (shard : ℕ) (x : DocKey) → having_all (operands schema table plans shard) x ≡ true → under_each schema table (all_spelled_out table plans) x ≡ under_each schema table plans x
    each_same no_plans shard x all = refl
    each_same (with_plan plan mark others) shard x all =
        let parts = and_parts (is_among (hits schema table plan shard) x) (having_all (operands schema table others shard) x) all in
        let own = same_lineages plan x (operand_hit plan shard x parts.0) in
        let rest = each_same others shard x parts.1 in
        λ i. choices (own i) (rest i)

    first_same : (plans : Plans) (shard : ℕ) (x : DocKey) → first_alone (operands schema table plans shard) x ≡ true → under_first schema table (all_spelled_out table plans) x ≡ under_first schema table plans x
    first_same no_plans shard x alone = refl
    first_same (with_plan plan mark others) shard x alone =
        same_lineages plan x (operand_hit plan shard x (and_parts (is_among (hits schema table plan shard) x) (not (list_any (λ o. o.has x) (operands schema table others shard))) alone).0)

    one_same : (plans : Plans) (x : DocKey) → under_one schema table (all_spelled_out table plans) x ≡ under_one schema table plans x
    one_same no_plans x = refl
    one_same (with_plan plan mark others) x =
        ap (λ b. if b then lineages schema table (spelled_out table plan) x ++ under_one schema table (all_spelled_out table others) x else under_one schema table (all_spelled_out table others) x) (same_hit plan x)
        ∙ one_step plan others x (is_hit schema table plan x) refl (same_lineages plan x) (one_same others x)

    having_same : (plans : Plans) (x : DocKey) → under_having schema table (all_spelled_out table plans) x ≡ under_having schema table plans x
    having_same no_plans x = refl
    having_same (with_plan plan mark others) x =
        ap (λ b. if b then choices (lineages schema table (spelled_out table plan) x) (under_having schema table (all_spelled_out table others) x) else under_having schema table (all_spelled_out table others) x) (same_hit plan x)
        ∙ having_step plan others x (is_hit schema table plan x) refl (same_lineages plan x) (having_same others x)

  -- what is shown is the first of the lineages that is authorised whole
  same_shown : (viewer : ℕ) (plan : Plan) (x : DocKey) → is_hit schema table plan x ≡ true → first_shown schema table viewer (spelled_out table plan) x ≡ first_shown schema table viewer plan x
  same_shown viewer plan x hit =
      plan_first schema table viewer (spelled_out table plan) x ∙ ap (first_whole (authorised schema table viewer)) (same_lineages plan x hit) ∙ sym (plan_first schema table viewer plan x)

  same_reply : (viewer : ℕ) (plan : Plan) (limit : ℕ)
      → filter_map (shown_hit schema table viewer (spelled_out table plan)) (cut schema table (spelled_out table plan) limit) ≡ filter_map (shown_hit schema table viewer plan) (cut schema table plan limit)
  same_reply viewer plan limit =
      ap (filter_map (shown_hit schema table viewer (spelled_out table plan))) (same_cut plan limit)
      ∙ map_agreed (shown_hit schema table viewer (spelled_out table plan)) (shown_hit schema table viewer plan) (cut schema table plan limit)
      (λ x within. ap (λ (o : Option (List EdgeRef)). option_map (λ edges. record { key = x; lineage = edges }) o) (same_shown viewer plan x (cut_hit schema table plan limit x within)))

pub prefixes_spelled_out : PrefixesSpelledOut
prefixes_spelled_out = record {
  spelled = λ table plan. is_spelled table plan;
  typed = λ schema table plan vertical of. still_of schema table plan vertical of;
  found = λ schema table plan shard. same_hits schema table plan shard;
  cuts = λ schema table plan limit. same_cut schema table plan limit;
  by_lineages = λ schema table plan x hit. same_lineages schema table plan x hit;
  shown = λ schema table viewer plan x hit. same_shown schema table viewer plan x hit;
  replies = λ schema table publishes plan viewer limit. ap (λ (hs : List Hit). record { publishes = publishes; hits = hs }) (same_reply schema table viewer plan limit);
}
