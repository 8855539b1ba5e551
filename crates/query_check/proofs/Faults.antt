-- Faults of steps that follow one another.
use Rattle.std.proofs.Common.{◌≡◌, ℕ, ◌+◌, ◌<◌, Bool, true, false, cond, Result, Ok, ap, ◌∙◌, arith}
use Rattle.std.specs.Prelude.{nat_le}
use Rattle.std.proofs.lemmas.Bool.Decides.{nat_tests}
use Rattle.query_tree.specs.declared.refusal.QueryRefusal.{QueryRefusal}
use Rattle.query_tree.specs.declared.refusal.QueryRefusal.TheVariants.{Fault, Memory}
use Rattle.query_tree.specs.declared.kind.JoinKind.{JoinKind}
use Rattle.query_tree.specs.Tree.{Joined, joined}
use Rattle.uni_schema.specs.Schema.{Declarations}
use Rattle.query_check.specs.Typing.{Mistyped, mistyped, and_then, Found, type_kept, join_store, typed, IsFault}

-- the fault of the first step
pub fault_first : {A B : Type 0} (due : Result A Mistyped) (later : A → Result B Mistyped) (refusal : QueryRefusal)
    → IsFault due refusal → IsFault (and_then due later) refusal
fault_first due later (Fault code column) fault = ap (λ (d : Result _ Mistyped). and_then d later) fault
fault_first due later Memory fault = tt

-- the fault of what follows
pub fault_then : {A B : Type 0} (due : Result A Mistyped) (value : A) (later : A → Result B Mistyped) (refusal : QueryRefusal)
    → due ≡ Ok value → IsFault (later value) refusal → IsFault (and_then due later) refusal
fault_then due value later (Fault code column) is_value fault = ap (λ (d : Result _ Mistyped). and_then d later) is_value ∙ fault
fault_then due value later Memory is_value fault = tt

-- the fault behind a test that did not stop it
pub fault_behind : {A : Type 0} (test : Bool) (stopped due : Result A Mistyped) (refusal : QueryRefusal)
    → test ≡ false → IsFault due refusal → IsFault (cond test stopped due) refusal
fault_behind true stopped due refusal passes fault = absurd (cc)
fault_behind false stopped due refusal passes fault = fault

-- a join that lies inside fewer joins than are allowed
pub fewer : (joins around : ℕ) → around < joins → nat_le joins around ≡ false
fewer joins around few = grind (arith, nat_tests)

-- the faults of a join's type and of its inner query
pub join_found : (schema : Declarations) (joins around : ℕ) (kind : JoinKind) (node : Joined) (refusal : QueryRefusal) → around < joins
    → IsFault (type_kept schema (join_store kind) node.type_column node.type_name) refusal → IsFault (typed schema joins around (joined kind node)) refusal
join_found schema joins around kind node refusal few fault =
    fault_behind (nat_le joins around) (mistyped 47 node.column) _ refusal (fewer joins around few)
    (fault_first (type_kept schema (join_store kind) node.type_column node.type_name) _ refusal fault)

pub join_inner : (schema : Declarations) (joins around : ℕ) (kind : JoinKind) (node : Joined) (found : Found) (refusal : QueryRefusal) → around < joins
    → type_kept schema (join_store kind) node.type_column node.type_name ≡ Ok found → IsFault (typed schema joins (around + 1) node.node) refusal
    → IsFault (typed schema joins around (joined kind node)) refusal
join_inner schema joins around kind node found refusal few is_found fault =
    fault_behind (nat_le joins around) (mistyped 47 node.column) _ refusal (fewer joins around few)
    (fault_then (type_kept schema (join_store kind) node.type_column node.type_name) found _ refusal is_found
    (fault_first (typed schema joins (around + 1) node.node) _ refusal fault))
