-- How an entity stands under lists.
use Rattle.std.proofs.Common.{◌≡◌, ◌&&◌, ◌||◌, not, ℕ, Bool, true, false, if◌then◌else◌, List, [], ◌∷◌, Option, None, Some, refl, sym, ◌∙◌, ap, append-nil, map}
use Rattle.std.proofs.lemmas.Bool.{and_parts}
use Rattle.std.specs.List.{Contains, list_all, list_any}
use Rattle.std.specs.Option.{option_or}
use Rattle.uni_base.specs.Walks.{Walker}
use Rattle.uni_base.specs.declared.edge.EdgeRef.{EdgeRef}
use Rattle.uni_base.specs.declared.entity.DocKey.{DocKey}
use Rattle.uni_schema.specs.Schema.{shard_of}
use Rattle.uni_table.specs.Ranked.{ranked}
use Rattle.query_tree.specs.declared.kind.ListKind.{ListKind}
use Rattle.query_tree.specs.declared.kind.ListKind.TheVariants.{And, Or, Difference, WeakAnd, StrongOr}
use Rattle.query_check.specs.Plan.{Plans, list_plan, no_plans, with_plan}
use Rattle.query_check.specs.Verticals.{AreOf, IsOf}
use Rattle.uni_meaning.specs.Firsts.{first_shown, joined, shown_under_each, shown_under_having, shown_under_one, shown_under_first}
use Rattle.uni_meaning.specs.Hits.{first_alone, first_vertical, hits, is_among, is_hit, operands}
use Rattle.uni_meaning.specs.Standings.{all_of, both, either, first_of, first_only, head_of, is_found, is_set, shown_as, standing_of, under_set}
use Rattle.uni_meaning.specs.Viewed.{Viewed}
use Rattle.uni_meaning.specs.declared.standing.Standing.{Standing}
use Rattle.uni_meaning.specs.declared.standing.Standing.TheVariants.{Missed, Hidden, Shown}
use Rattle.uni_meaning.proofs.Combined.{both_missed, either_missed}
use Rattle.uni_meaning.proofs.Prefixed.{among_left}
use Rattle.uni_meaning.proofs.Typed.{vertical_is}

-- an entity is found exactly if it is a hit
pub found_is : (b : Bool) (o : Option (List EdgeRef)) → is_found (if b then shown_as o else Missed) ≡ b
found_is true None = refl
found_is true (Some edges) = refl
found_is false o = refl

both_shown : (o p : Option (List EdgeRef)) → both (shown_as o) (shown_as p) ≡ shown_as (joined o p)
both_shown None p = refl
both_shown (Some edges) None = refl
both_shown (Some edges) (Some more) = refl

joined_nothing : (o : Option (List EdgeRef)) → joined o (Some []) ≡ o
joined_nothing None = refl
joined_nothing (Some edges) = ap Some (append-nil edges)

either_shown_as : (o p : Option (List EdgeRef)) → either (shown_as o) (shown_as p) ≡ shown_as (option_or o p)
either_shown_as (Some edges) p = refl
either_shown_as None None = refl
either_shown_as None (Some edges) = refl

module _ (v : Viewed) where
  -- how an entity stands under each operand
  abbrev pub row_of : Plans → DocKey → List Standing
  row_of no_plans x = []
  row_of (with_plan plan mark others) x = standing_of v plan x ∷ row_of others x

  -- where none has the entity, nothing is asked of any
  none_having : (plans : Plans) (x : DocKey) → list_any is_found (row_of plans x) ≡ false → shown_under_having v.schema v.contents v.viewer plans x ≡ Some []
  none_having no_plans x e = refl
  none_having (with_plan plan mark others) x e = by (is_hit v.schema v.contents plan x) (found_is (is_hit v.schema v.contents plan x) (first_shown v.schema v.contents v.viewer plan x)) e (none_having others x)
    where
      f : Option (List EdgeRef)
      f = first_shown v.schema v.contents v.viewer plan x

      rest : Option (List EdgeRef)
      rest = shown_under_having v.schema v.contents v.viewer others x

      by : (b : Bool) → is_found (if b then shown_as f else Missed) ≡ b → (is_found (if b then shown_as f else Missed) || list_any is_found (row_of others x)) ≡ false
          → (list_any is_found (row_of others x) ≡ false → rest ≡ Some []) → (if b then joined f rest else rest) ≡ Some []
      by true found none later = let no_way : true ≡ false = sym (ap (λ c. c || list_any is_found (row_of others x)) found) ∙ none in absurd cc
      by false found none later = later none

  -- under all operands that have the entity
  pub all_of-row : (plans : Plans) (x : DocKey) → all_of (row_of plans x) ≡ (if list_any is_found (row_of plans x) then shown_as (shown_under_having v.schema v.contents v.viewer plans x) else Missed)
  all_of-row no_plans x = refl
  all_of-row (with_plan plan mark others) x = by (is_hit v.schema v.contents plan x) (all_of-row others x)
    where
      f : Option (List EdgeRef)
      f = first_shown v.schema v.contents v.viewer plan x

      rest : Option (List EdgeRef)
      rest = shown_under_having v.schema v.contents v.viewer others x

      some : Bool
      some = list_any is_found (row_of others x)

      by : (b : Bool) → all_of (row_of others x) ≡ (if some then shown_as rest else Missed)
          → both (if b then shown_as f else Missed) (all_of (row_of others x)) ≡ (if is_found (if b then shown_as f else Missed) || some then shown_as (if b then joined f rest else rest) else Missed)
      by true h =
          ap (both (shown_as f)) h ∙ found some refl
          ∙ ap (λ c. if c || some then shown_as (joined f rest) else Missed) (sym (found_is true f))
        where
          found : (c : Bool) → some ≡ c → both (shown_as f) (if c then shown_as rest else Missed) ≡ shown_as (joined f rest)
          found true e = both_shown f rest
          found false e = both_missed (shown_as f) ∙ ap shown_as (sym (ap (joined f) (none_having others x e) ∙ joined_nothing f))
      by false h = h

  none_one : (plans : Plans) (x : DocKey) → list_any is_found (row_of plans x) ≡ false → shown_under_one v.schema v.contents v.viewer plans x ≡ None
  none_one no_plans x e = refl
  none_one (with_plan plan mark others) x e = by (is_hit v.schema v.contents plan x) (found_is (is_hit v.schema v.contents plan x) (first_shown v.schema v.contents v.viewer plan x)) e (none_one others x)
    where
      f : Option (List EdgeRef)
      f = first_shown v.schema v.contents v.viewer plan x

      rest : Option (List EdgeRef)
      rest = shown_under_one v.schema v.contents v.viewer others x

      by : (b : Bool) → is_found (if b then shown_as f else Missed) ≡ b → (is_found (if b then shown_as f else Missed) || list_any is_found (row_of others x)) ≡ false
          → (list_any is_found (row_of others x) ≡ false → rest ≡ None) → (if b then option_or f rest else rest) ≡ None
      by true found none later = let no_way : true ≡ false = sym (ap (λ c. c || list_any is_found (row_of others x)) found) ∙ none in absurd cc
      by false found none later = later none

  -- under the first operand that has the entity and something to show
  pub first_of-row : (plans : Plans) (x : DocKey) → first_of (row_of plans x) ≡ (if list_any is_found (row_of plans x) then shown_as (shown_under_one v.schema v.contents v.viewer plans x) else Missed)
  first_of-row no_plans x = refl
  first_of-row (with_plan plan mark others) x = by (is_hit v.schema v.contents plan x) (first_of-row others x)
    where
      f : Option (List EdgeRef)
      f = first_shown v.schema v.contents v.viewer plan x

      rest : Option (List EdgeRef)
      rest = shown_under_one v.schema v.contents v.viewer others x

      some : Bool
      some = list_any is_found (row_of others x)

      by : (b : Bool) → first_of (row_of others x) ≡ (if some then shown_as rest else Missed)
          → either (if b then shown_as f else Missed) (first_of (row_of others x)) ≡ (if is_found (if b then shown_as f else Missed) || some then shown_as (if b then option_or f rest else rest) else Missed)
      by true h =
          ap (either (shown_as f)) h ∙ found some refl
          ∙ ap (λ c. if c || some then shown_as (option_or f rest) else Missed) (sym (found_is true f))
        where
          or_none : (o : Option (List EdgeRef)) → option_or o None ≡ o
          or_none None = refl
          or_none (Some edges) = refl

          found : (c : Bool) → some ≡ c → either (shown_as f) (if c then shown_as rest else Missed) ≡ shown_as (option_or f rest)
          found true e = either_shown_as f rest
          found false e = either_missed (shown_as f) ∙ ap shown_as (sym (ap (option_or f) (none_one others x e) ∙ or_none f))
      by false h = h

  -- where all have the entity, it is asked of each
  each_is : (plans : Plans) (x : DocKey) → list_all is_found (row_of plans x) ≡ true → shown_under_each v.schema v.contents v.viewer plans x ≡ shown_under_having v.schema v.contents v.viewer plans x
  each_is no_plans x all = refl
  each_is (with_plan plan mark others) x all = by (is_hit v.schema v.contents plan x) (found_is (is_hit v.schema v.contents plan x) (first_shown v.schema v.contents v.viewer plan x)) all (each_is others x)
    where
      f : Option (List EdgeRef)
      f = first_shown v.schema v.contents v.viewer plan x

      rest : Option (List EdgeRef)
      rest = shown_under_having v.schema v.contents v.viewer others x

      by : (b : Bool) → is_found (if b then shown_as f else Missed) ≡ b → (is_found (if b then shown_as f else Missed) && list_all is_found (row_of others x)) ≡ true
          → (list_all is_found (row_of others x) ≡ true → shown_under_each v.schema v.contents v.viewer others x ≡ rest)
          → joined f (shown_under_each v.schema v.contents v.viewer others x) ≡ (if b then joined f rest else rest)
      by true found h later = ap (joined f) (later (and_parts (is_found (shown_as f)) (list_all is_found (row_of others x)) h).1)
      by false found h later = cc

  -- the operands of a list, each of one vertical, have an entity in its shard exactly where it stands so
  module _ (vertical : ℕ) (x : DocKey) where
    abbrev has_of : Plans → List Bool
    has_of no_plans = []
    has_of (with_plan plan mark others) = is_among (hits v.schema v.contents plan (shard_of v.schema vertical x.id)) x ∷ has_of others

    pub found_row : (plans : Plans) → AreOf v.schema plans vertical → map is_found (row_of plans x) ≡ has_of plans
    found_row no_plans of = refl
    found_row (with_plan plan mark others) of = λ i. (found_is (is_hit v.schema v.contents plan x) (first_shown v.schema v.contents v.viewer plan x)
        ∙ ap (λ n. is_among (hits v.schema v.contents plan (shard_of v.schema n x.id)) x) (vertical_is v.schema plan vertical of.0)) i ∷ found_row others of.1 i

    pub has_row : (plans : Plans) → map (λ (o : Walker DocKey). o.has x) (operands v.schema v.contents plans (shard_of v.schema vertical x.id)) ≡ has_of plans
    has_row no_plans = refl
    has_row (with_plan plan mark others) = λ i. is_among (hits v.schema v.contents plan (shard_of v.schema vertical x.id)) x ∷ has_row others i

  any_map : {X : Type 0} (p : X → Bool) (xs : List X) → list_any (λ b. b) (map p xs) ≡ list_any p xs
  any_map p [] = refl
  any_map p (y ∷ xs) = ap (λ b. p y || b) (any_map p xs)

  all_map : {X : Type 0} (p : X → Bool) (xs : List X) → list_all (λ b. b) (map p xs) ≡ list_all p xs
  all_map p [] = refl
  all_map p (y ∷ xs) = ap (λ b. p y && b) (all_map p xs)

  abbrev first_true : List Bool → Bool
  first_true [] = false
  first_true (b ∷ bs) = b && not (list_any (λ c. c) bs)

  only_map : (row : List Standing) → first_true (map is_found row) ≡ first_only row
  only_map [] = refl
  only_map (s ∷ row) = ap (λ b. is_found s && not b) (any_map is_found row)

  alone_map : (os : List (Walker DocKey)) (x : DocKey) → first_true (map (λ (o : Walker DocKey). o.has x) os) ≡ first_alone os x
  alone_map [] x = refl
  alone_map (o ∷ os) x = ap (λ b. o.has x && not b) (any_map (λ (p : Walker DocKey). p.has x) os)

  -- whether an entity is a hit of a set operator, by how it stands under the operands
  module _ (plans : Plans) (x : DocKey) (of : AreOf v.schema plans (first_vertical v.schema plans)) (home : Contains (ranked v.schema v.contents (first_vertical v.schema plans) (shard_of v.schema (first_vertical v.schema plans) x.id)) x) where
    docs : List DocKey
    docs = ranked v.schema v.contents (first_vertical v.schema plans) (shard_of v.schema (first_vertical v.schema plans) x.id)

    os : List (Walker DocKey)
    os = operands v.schema v.contents plans (shard_of v.schema (first_vertical v.schema plans) x.id)

    same_row : map (λ (o : Walker DocKey). o.has x) (operands v.schema v.contents plans (shard_of v.schema (first_vertical v.schema plans) x.id)) ≡ map is_found (row_of plans x)
    same_row = has_row (first_vertical v.schema plans) x plans ∙ sym (found_row (first_vertical v.schema plans) x plans of)

    pub is_all : is_hit v.schema v.contents (list_plan And plans) x ≡ list_all is_found (row_of plans x)
    unfolding docs
    is_all = among_left (λ k. list_all (λ (o : Walker DocKey). o.has k) (operands v.schema v.contents plans (shard_of v.schema (first_vertical v.schema plans) x.id))) x docs home
        ∙ sym (all_map (λ (o : Walker DocKey). o.has x) (operands v.schema v.contents plans (shard_of v.schema (first_vertical v.schema plans) x.id))) ∙ ap (list_all (λ b. b)) same_row ∙ all_map is_found (row_of plans x)

    pub is_any : is_hit v.schema v.contents (list_plan Or plans) x ≡ list_any is_found (row_of plans x)
    unfolding docs
    is_any = among_left (λ k. list_any (λ (o : Walker DocKey). o.has k) (operands v.schema v.contents plans (shard_of v.schema (first_vertical v.schema plans) x.id))) x docs home
        ∙ sym (any_map (λ (o : Walker DocKey). o.has x) (operands v.schema v.contents plans (shard_of v.schema (first_vertical v.schema plans) x.id))) ∙ ap (list_any (λ b. b)) same_row ∙ any_map is_found (row_of plans x)

    pub is_alone : is_hit v.schema v.contents (list_plan Difference plans) x ≡ first_only (row_of plans x)
    unfolding docs
    is_alone = among_left (first_alone (operands v.schema v.contents plans (shard_of v.schema (first_vertical v.schema plans) x.id))) x docs home
        ∙ sym (alone_map (operands v.schema v.contents plans (shard_of v.schema (first_vertical v.schema plans) x.id)) x) ∙ ap first_true same_row ∙ only_map (row_of plans x)

    all_then_any : (row : List Standing) (s : Standing) → list_all is_found (s ∷ row) ≡ true → list_any is_found (s ∷ row) ≡ true
    all_then_any row Missed e = cc
    all_then_any row Hidden e = refl
    all_then_any row (Shown edges) e = refl

    pub and_standing : list_all is_found (row_of plans x) ≡ true → list_any is_found (row_of plans x) ≡ true → all_of (row_of plans x) ≡ shown_as (shown_under_each v.schema v.contents v.viewer plans x)
    and_standing all any = all_of-row plans x ∙ ap (λ b. if b then shown_as (shown_under_having v.schema v.contents v.viewer plans x) else Missed) any ∙ ap shown_as (sym (each_is plans x all))

    all_case : (b : Bool) → list_all is_found (row_of plans x) ≡ b → (list_all is_found (row_of plans x) ≡ true → list_any is_found (row_of plans x) ≡ true)
        → (if b then shown_as (shown_under_each v.schema v.contents v.viewer plans x) else Missed) ≡ (if b then all_of (row_of plans x) else Missed)
    all_case true e any = sym (and_standing e (any e))
    all_case false e any = refl

    pub under_and : (list_all is_found (row_of plans x) ≡ true → list_any is_found (row_of plans x) ≡ true) → standing_of v (list_plan And plans) x ≡ under_set And (row_of plans x)
    under_and any =
        ap (λ b. if b then shown_as (shown_under_each v.schema v.contents v.viewer plans x) else Missed) is_all
        ∙ all_case (list_all is_found (row_of plans x)) refl any

    pub under_or : standing_of v (list_plan Or plans) x ≡ under_set Or (row_of plans x)
    under_or =
        ap (λ b. if b then shown_as (shown_under_one v.schema v.contents v.viewer plans x) else Missed) is_any
        ∙ by (list_any is_found (row_of plans x)) ∙ ap (λ (s : Standing). if list_any is_found (row_of plans x) then s else Missed) (sym (first_of-row plans x))
      where
        by : (b : Bool) → (if b then shown_as (shown_under_one v.schema v.contents v.viewer plans x) else Missed)
            ≡ (if b then (if b then shown_as (shown_under_one v.schema v.contents v.viewer plans x) else Missed) else Missed)
        by true = refl
        by false = refl

    pub under_difference : ((o : Option (List EdgeRef)) → o ≡ shown_under_first v.schema v.contents v.viewer plans x → first_only (row_of plans x) ≡ true → head_of (row_of plans x) ≡ shown_as o)
        → standing_of v (list_plan Difference plans) x ≡ under_set Difference (row_of plans x)
    under_difference head =
        ap (λ b. if b then shown_as (shown_under_first v.schema v.contents v.viewer plans x) else Missed) is_alone
        ∙ by (first_only (row_of plans x)) refl
      where
        by : (b : Bool) → first_only (row_of plans x) ≡ b → (if b then shown_as (shown_under_first v.schema v.contents v.viewer plans x) else Missed) ≡ (if b then head_of (row_of plans x) else Missed)
        by true e = sym (head (shown_under_first v.schema v.contents v.viewer plans x) refl e)
        by false e = refl

  -- a typed list has operands, and stands as its set operator says
  head_is : (b : Bool) (o : Option (List EdgeRef)) → is_found (if b then shown_as o else Missed) ≡ true → (if b then shown_as o else Missed) ≡ shown_as o
  head_is true o e = refl
  head_is false o e = cc

  pub set_standing : (kind : ListKind) (plans : Plans) (x : DocKey) → IsOf v.schema (list_plan kind plans) (first_vertical v.schema plans) → is_set kind ≡ true
      → Contains (ranked v.schema v.contents (first_vertical v.schema plans) (shard_of v.schema (first_vertical v.schema plans) x.id)) x → standing_of v (list_plan kind plans) x ≡ under_set kind (row_of plans x)
  set_standing kind no_plans x of set home = absurd of
  set_standing And (with_plan plan mark others) x of set home =
      under_and (with_plan plan mark others) x (of.0, of.1) home (all_then_any (with_plan plan mark others) x (of.0, of.1) home (row_of others x) (standing_of v plan x))
  set_standing Or (with_plan plan mark others) x of set home = under_or (with_plan plan mark others) x (of.0, of.1) home
  set_standing Difference (with_plan plan mark others) x of set home =
      under_difference (with_plan plan mark others) x (of.0, of.1) home
      (λ o is e. head_is (is_hit v.schema v.contents plan x) (first_shown v.schema v.contents v.viewer plan x) (and_parts (is_found (standing_of v plan x)) (not (list_any is_found (row_of others x))) e).0 ∙ ap shown_as (sym is))
  set_standing WeakAnd (with_plan plan mark others) x of set home = cc
  set_standing StrongOr (with_plan plan mark others) x of set home = cc
