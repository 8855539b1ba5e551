-- A plan whose prefix terms are spelled out.
use Rattle.std.specs.Prelude.{ℕ, ◌≡◌, List, [], ◌∷◌}
use Rattle.uni_base.specs.declared.edge.Key.TheVariants.{Word}
use Rattle.uni_table.specs.Contents.{Contents}
use Rattle.query_tree.specs.declared.kind.ListKind.TheVariants.{Or}
use Rattle.query_tree.specs.declared.query.Mark.TheVariants.{Plain}
use Rattle.query_check.specs.Plan.{Plan, Plans, term_plan, prefix_plan, list_plan, join_plan, no_plans, with_plan}
use Rattle.uni_meaning.specs.Prefixes.{prefix_keys}

-- the terms of words, as the operands of an operator
abbrev pub terms_of : ℕ → List (List ℕ) → Plans
terms_of number [] = no_plans
terms_of number (word ∷ words) = with_plan (term_plan number (Word word)) Plain (terms_of number words)

-- a prefix term by its keys: the `or` of their terms, and itself where it has none, since an `or` has at least
-- one operand
abbrev pub or_of_keys : ℕ → List ℕ → List (List ℕ) → Plan
or_of_keys number from [] = prefix_plan number from
or_of_keys number from (word ∷ words) = list_plan Or (terms_of number (word ∷ words))

-- Spelled out: the plan in which each prefix term that has keys in the table stands as the `or` of their
-- terms, at any depth, in the inner plans of joins too. Operators, types, limits and marks stay as they are
abbrev mutual
  pub spelled_out : Contents → Plan → Plan
  spelled_out table (term_plan number key) = term_plan number key
  spelled_out table (prefix_plan number from) = or_of_keys number from (prefix_keys table number from)
  spelled_out table (list_plan kind plans) = list_plan kind (all_spelled_out table plans)
  spelled_out table (join_plan kind number limit plan) = join_plan kind number limit (spelled_out table plan)

  pub all_spelled_out : Contents → Plans → Plans
  all_spelled_out table no_plans = no_plans
  all_spelled_out table (with_plan plan mark others) = with_plan (spelled_out table plan) mark (all_spelled_out table others)

-- no prefix term of a plan has a key in the table, at any depth
abbrev mutual
  pub IsSpelledOut : Contents → Plan → Type 0
  IsSpelledOut table (term_plan number key) = Unit {0}
  IsSpelledOut table (prefix_plan number from) = prefix_keys table number from ≡ []
  IsSpelledOut table (list_plan kind plans) = AreSpelledOut table plans
  IsSpelledOut table (join_plan kind number limit plan) = IsSpelledOut table plan

  pub AreSpelledOut : Contents → Plans → Type 0
  AreSpelledOut table no_plans = Unit {0}
  AreSpelledOut table (with_plan plan mark others) = IsSpelledOut table plan × AreSpelledOut table others
