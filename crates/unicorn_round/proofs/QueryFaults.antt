-- The first fault of a query in a line.
use Rattle.std.proofs.Common.{◌≡◌, ◌≤◌, ◌==◌, ℕ, Bool, true, false, List, [], ◌∷◌, length, Option, None, Some, IfSome, if◌then◌else◌, refl, inl, inr, arith}
use Rattle.std.specs.Option.{option_map}
use Rattle.std.specs.Prelude.{Result, Ok, Err, unwrap_or}
use Rattle.uni_base.specs.Fields.{cut_at}
use Rattle.query_tree.specs.Dialects.{dialect_of}
use Rattle.query_tree.specs.Tree.{Tree, Forest, term_at, list_at, join_at, no_operands, with_operand}
use Rattle.query_reader.specs.Near.{AreColumnsWithin, AreOperandsWithin, FaultsAreNear}
use Rattle.query_reader.specs.Reading.{Refused, text_read}
use Rattle.query_check.specs.Laws.{StandsIn, StandsInOne, FaultsStandIn}
use Rattle.query_check.specs.Plan.{Stated}
use Rattle.query_check.specs.Typing.{Mistyped, typed}
use Rattle.script_rounds.specs.Asks.{first_field, parts_of, query_of, typed_read}
use Rattle.script_rounds.specs.Terms.{Terms}

-- what follows a separator is no longer than the text
cut-short : (separator : ℕ) (text : List ℕ) → IfSome (cut_at separator text) (λ p. length p.1 ≤ length text)
cut-short separator [] = tt
cut-short separator (c ∷ cs) = more (c == separator) (cut_at separator cs) (cut-short separator cs)
  where
    more : (here : Bool) (rest : Option (List ℕ × List ℕ)) → IfSome rest (λ p. length p.1 ≤ length cs)
        → IfSome {T = List ℕ × List ℕ} (if here then Some ([], cs) else option_map (λ p. (c ∷ p.0, p.1)) rest) (λ p. length p.1 ≤ length (c ∷ cs))
    more true rest short = omega arith
    more false None short = tt
    more false (Some p) short = omega (arith, short)

pub field-short : (text : List ℕ) → length (first_field text).1 ≤ length text
field-short text = by (cut_at 32 text) (cut-short 32 text)
  where
    by : (cut : Option (List ℕ × List ℕ)) → IfSome cut (λ p. length p.1 ≤ length text) → length (unwrap_or cut (text, [])).1 ≤ length text
    by None short = omega arith
    by (Some p) short = short

-- nor is the query of an `ask`
pub query-short : (text : List ℕ) → length (parts_of text).query ≤ length text
query-short text =
    let one : List ℕ = (first_field text).1 in
    let two : List ℕ = (first_field one).1 in
    omega (arith, field-short text, field-short one, field-short two)

-- a place in a query is one of its columns
mutual
  place-within : (most place : ℕ) (tree : Tree) → AreColumnsWithin most tree → StandsIn place tree → place ≤ most
  place-within most place (term_at column kind type_name key) within here = omega (arith, within.1, here)
  place-within most place (list_at column kind forest) within (inl here) = omega (arith, within.0.1, here)
  place-within most place (list_at column kind forest) within (inr inner) = operand-within most place forest within.1 inner
  place-within most place (join_at column kind type_column type_name limit node) within (inl here) = omega (arith, within.0.1, here)
  place-within most place (join_at column kind type_column type_name limit node) within (inr (inl here)) = omega (arith, within.1.1, here)
  place-within most place (join_at column kind type_column type_name limit node) within (inr (inr inner)) = place-within most place node within.2 inner

  operand-within : (most place : ℕ) (operands : Forest) → AreOperandsWithin most operands → StandsInOne place operands → place ≤ most
  operand-within most place no_operands within here = absurd here
  operand-within most place (with_operand node mark others) within (inl here) = place-within most place node within.0 here
  operand-within most place (with_operand node mark others) within (inr there) = operand-within most place others within.1 there

-- the first fault of a query is within such bounds
abbrev pub IsNear : Result Stated Mistyped → Type 0
IsNear (Ok stated) = Unit {0}
IsNear (Err first) = (first.code ≤ 99) × (first.column ≤ 65537)

module _ (near : FaultsAreNear) (places : FaultsStandIn) (terms : Terms) where
  pub query-near : (text : List ℕ) → length text ≤ 65536 → IsNear (query_of terms text)
  query-near text short = read (text_read (dialect_of terms.limits terms.schema.format) text) refl
    where
      by : (tree : Tree) (found : Result Stated Mistyped) → text_read (dialect_of terms.limits terms.schema.format) text ≡ Ok tree
          → typed terms.schema terms.limits.joins 0 tree ≡ found → IsNear found
      by tree (Ok stated) is_read is_found = tt
      by tree (Err first) is_read is_found =
          let fault = places.fault terms.schema terms.limits.joins 0 tree first is_found in
          let inside : first.column ≤ length text =
          place-within (length text) first.column tree (near.tree (dialect_of terms.limits terms.schema.format) text tree is_read) fault.1 in
          (omega (arith, fault.0.1), omega (arith, inside, short))

      read : (result : Result Tree Refused) → text_read (dialect_of terms.limits terms.schema.format) text ≡ result → IsNear (typed_read terms result)
      read (Ok tree) is_read = by tree (typed terms.schema terms.limits.joins 0 tree) is_read refl
      read (Err first) is_read =
          let fault = near.fault (dialect_of terms.limits terms.schema.format) text first.code first.column is_read in
          (omega (arith, fault.0.1), omega (arith, fault.1.1, short))
