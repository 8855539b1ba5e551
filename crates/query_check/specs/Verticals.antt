-- Plans that stand under a schema.
use Rattle.std.specs.Prelude.{ℕ, ◌≡◌, List, [], ◌∷◌, Some}
use Rattle.uni_base.specs.declared.edge.Key.{Key}
use Rattle.uni_base.specs.declared.edge.Key.TheVariants.{Id, Word}
use Rattle.uni_schema.specs.Schema.{Declarations, type_at}
use Rattle.uni_schema.specs.declared.schema.TypeDef.{TypeDef}
use Rattle.uni_schema.specs.declared.schema.Origin.{Origin}
use Rattle.uni_schema.specs.declared.schema.Origin.TheVariants.{Vertical, Words}
use Rattle.uni_schema.specs.declared.schema.Store.{Store}
use Rattle.uni_schema.specs.declared.schema.Store.TheVariants.{Index}
use Rattle.query_check.specs.Plan.{Plan, Plans, term_plan, prefix_plan, list_plan, join_plan, no_plans, with_plan, Stated}
use Rattle.query_check.specs.Typing.{join_store}

-- edges that start at entities have ids as keys, others words
abbrev pub IsKeyOf : Origin → Key → Type 0
IsKeyOf (Vertical vertical) (Id id) = Unit {0}
IsKeyOf Words (Word word) = Unit {0}
IsKeyOf origin key = ⊥

-- a declared type, kept so, which leads to a vertical
pub record IsType (schema : Declarations) (number : ℕ) (store : Store) (origin : Origin) (vertical : ℕ) : Type 0 where
  pub def : TypeDef
  pub declared : type_at schema number ≡ Some def
  pub stored : def.store ≡ store
  pub starts : def.origin ≡ origin
  pub leads : def.target ≡ vertical

-- A plan is of a vertical: terms, prefix terms and `apply` go by index types, `extract` by forward
-- types, all of them declared; keys are those of their types; operands are of their list's vertical; a
-- join goes by a type from the inner plan's vertical. A term's and a join's vertical is that of the
-- targets.
abbrev mutual
  pub IsOf : Declarations → Plan → ℕ → Type 0
  IsOf schema (term_plan number key) vertical =
      (origin : Origin) × (IsType schema number Index origin vertical × IsKeyOf origin key)
  IsOf schema (prefix_plan number from) vertical = IsType schema number Index Words vertical
  IsOf schema (list_plan kind no_plans) vertical = ⊥
  IsOf schema (list_plan kind (with_plan plan mark others)) vertical = IsOf schema plan vertical × AreOf schema others vertical
  IsOf schema (join_plan kind number limit plan) vertical =
      (source : ℕ) × (IsType schema number (join_store kind) (Vertical source) vertical × IsOf schema plan source)

  pub AreOf : Declarations → Plans → ℕ → Type 0
  AreOf schema no_plans vertical = Unit {0}
  AreOf schema (with_plan plan mark others) vertical = IsOf schema plan vertical × AreOf schema others vertical

-- each plan is of the vertical that is stated with it
abbrev pub AreStated : Declarations → List Stated → Type 0
AreStated schema [] = Unit {0}
AreStated schema (one ∷ others) = IsOf schema one.plan one.vertical × AreStated schema others
