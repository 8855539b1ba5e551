-- Operands that are typed from the left.
use Rattle.std.proofs.Common.{◌≡◌, ℕ, Bool, true, false, cond, List, [], ◌∷◌, ◌++◌, Option, None, Some, Result, Ok, Err, refl, sym, ap, ◌∙◌, subst, append_assoc}
use Rattle.query_tree.specs.declared.query.Mark.{Mark}
use Rattle.query_tree.specs.declared.refusal.QueryRefusal.{QueryRefusal}
use Rattle.query_tree.specs.declared.refusal.QueryRefusal.TheVariants.{Fault, Memory}
use Rattle.query_tree.specs.Tree.{Tree, Forest, no_operands, with_operand}
use Rattle.query_tree.specs.Columns.{column_of}
use Rattle.uni_schema.specs.Schema.{Declarations}
use Rattle.query_check.specs.Plan.{Plans, no_plans, with_plan, Stated, Seen, SeenOperand, plans_of, all_inner}
use Rattle.query_check.specs.Typing.{Mistyped, mistyped, Operands, with_first, and_then, is_other, typed, operands_typed, IsFault}
use Rattle.query_check.specs.Verticals.{AreStated}
use Rattle.query_check.proofs.Faults.{fault_first}

-- plans one after the other
abbrev pub chained : Plans → Plans → Plans
chained no_plans others = others
chained (with_plan plan mark first) others = with_plan plan mark (chained first others)

abbrev operands_with : Option ℕ → Plans → Operands
operands_with vertical plans = record { plans = plans; vertical = vertical }

-- plans before those of the rest
abbrev pub after_plans : Plans → Result Operands Mistyped → Result Operands Mistyped
after_plans front (Ok others) = Ok (record { plans = chained front others.plans; vertical = others.vertical })
after_plans front (Err fault) = Err fault

after_none : (others : Result Operands Mistyped) → others ≡ after_plans no_plans others
after_none (Ok others) = refl
after_none (Err fault) = refl

chained-more : (front : List SeenOperand) (last : SeenOperand) (others : Plans)
    → chained (plans_of front) (with_plan last.node.plan last.mark others) ≡ chained (plans_of (front ++ last ∷ [])) others
chained-more [] last others = refl
chained-more (first ∷ front) last others = ap (λ (rest : Plans). with_plan first.node.plan first.mark rest) (chained-more front last others)

chained-none : (front : Plans) → chained front no_plans ≡ front
chained-none no_plans = refl
chained-none (with_plan plan mark front) = ap (λ (rest : Plans). with_plan plan mark rest) (chained-none front)

-- one more operand
after_more : (front : List SeenOperand) (last : SeenOperand) (vertical : ℕ) (others : Result Operands Mistyped)
    → after_plans (plans_of front) (and_then others (λ rest. Ok (with_first (record { plan = last.node.plan; vertical = vertical }) last.mark rest)))
    ≡ after_plans (plans_of (front ++ last ∷ [])) others
after_more front last vertical (Ok others) =
    ap (λ (plans : Plans). Ok (operands_with others.vertical plans)) (chained-more front last others.plans)
after_more front last vertical (Err fault) = refl

-- what is due of all operands, after some of them
abbrev pub Due : Declarations → ℕ → ℕ → Result Operands Mistyped → List SeenOperand → Option ℕ → Forest → Type 0
Due schema joins around due front before others =
    due ≡ after_plans (plans_of front) (operands_typed schema joins around before others)

pub due_start : (schema : Declarations) (joins around : ℕ) (operands : Forest) → Due schema joins around (operands_typed schema joins around None operands) [] None operands
due_start schema joins around operands = after_none (operands_typed schema joins around None operands)

pub due_more : (schema : Declarations) (joins around : ℕ) (due : Result Operands Mistyped) (front new : List SeenOperand) (before : Option ℕ)
    (node : Tree) (mark : Mark) (others : Forest) (seen : Seen) (vertical : ℕ)
    → typed schema joins around node ≡ Ok (record { plan = seen.plan; vertical = vertical }) → is_other before vertical ≡ false
    → new ≡ front ++ record { node = seen; mark = mark } ∷ []
    → Due schema joins around due front before (with_operand node mark others)
    → Due schema joins around due new (Some vertical) others
due_more schema joins around due front new before node mark others seen vertical is_typed same is_new is_due =
    let last : SeenOperand = record { node = seen; mark = mark } in
    is_due
    ∙ ap (λ (r : Result Stated Mistyped). after_plans (plans_of front) (and_then r (λ one. cond (is_other before one.vertical) (mistyped 45 (column_of node)) (and_then (operands_typed schema joins around (Some one.vertical) others) (λ rest. Ok (with_first one mark rest)))))) is_typed
    ∙ ap (λ (b : Bool). after_plans (plans_of front) (cond b (mistyped 45 (column_of node)) (and_then (operands_typed schema joins around (Some vertical) others) (λ rest. Ok (with_first (record { plan = seen.plan; vertical = vertical }) mark rest))))) same
    ∙ after_more front (record { node = seen; mark = mark }) vertical (operands_typed schema joins around (Some vertical) others)
    ∙ ap (λ (all : List SeenOperand). after_plans (plans_of all) (operands_typed schema joins around (Some vertical) others)) (sym is_new)

-- at the end nothing is due
pub due_end : (schema : Declarations) (joins around : ℕ) (due : Result Operands Mistyped) (front : List SeenOperand) (before : Option ℕ)
    → Due schema joins around due front before no_operands → due ≡ Ok (record { plans = plans_of front; vertical = before })
due_end schema joins around due front before is_due =
    is_due ∙ ap (λ (plans : Plans). Ok (operands_with before plans)) (chained-none (plans_of front))

-- the fault of an operand, and of its vertical
fault_after : (front : Plans) (due : Result Operands Mistyped) (refusal : QueryRefusal) → IsFault due refusal → IsFault (after_plans front due) refusal
fault_after front due (Fault code column) fault = ap (after_plans front) fault
fault_after front due Memory fault = tt

pub due_fault : (schema : Declarations) (joins around : ℕ) (due : Result Operands Mistyped) (front : List SeenOperand) (before : Option ℕ)
    (node : Tree) (mark : Mark) (others : Forest) (refusal : QueryRefusal)
    → IsFault (typed schema joins around node) refusal → Due schema joins around due front before (with_operand node mark others)
    → IsFault due refusal
due_fault schema joins around due front before node mark others refusal fault is_due =
    subst (λ (d : Result Operands Mistyped). IsFault d refusal) (sym is_due)
    (fault_after (plans_of front) (operands_typed schema joins around before (with_operand node mark others)) refusal
    (fault_first (typed schema joins around node) _ refusal fault))

pub due_other : (schema : Declarations) (joins around : ℕ) (due : Result Operands Mistyped) (front : List SeenOperand) (before : Option ℕ)
    (node : Tree) (mark : Mark) (others : Forest) (one : Stated)
    → typed schema joins around node ≡ Ok one → is_other before one.vertical ≡ true
    → Due schema joins around due front before (with_operand node mark others) → due ≡ mistyped 45 (column_of node)
due_other schema joins around due front before node mark others one is_typed other is_due =
    is_due
    ∙ ap (λ (r : Result Stated Mistyped). after_plans (plans_of front) (and_then r (λ one. cond (is_other before one.vertical) (mistyped 45 (column_of node)) (and_then (operands_typed schema joins around (Some one.vertical) others) (λ rest. Ok (with_first one mark rest)))))) is_typed
    ∙ ap (λ (b : Bool). after_plans (plans_of front) (cond b (mistyped 45 (column_of node)) (and_then (operands_typed schema joins around (Some one.vertical) others) (λ rest. Ok (with_first one mark rest))))) other

stated-append : (schema : Declarations) (front back : List Stated) → AreStated schema front → AreStated schema back → AreStated schema (front ++ back)
stated-append schema [] back one two = two
stated-append schema (first ∷ front) back one two = (one.0, stated-append schema front back one.1 two)

inner-append : (front : List SeenOperand) (last : SeenOperand) → all_inner (front ++ last ∷ []) ≡ all_inner front ++ (last.node.inner ++ [])
inner-append [] last = refl
inner-append (first ∷ front) last =
    ap (λ (rest : List Stated). first.node.inner ++ rest) (inner-append front last)
    ∙ sym (append_assoc first.node.inner (all_inner front) (last.node.inner ++ []))

pub inner_more : (schema : Declarations) (front new : List SeenOperand) (last : SeenOperand) → AreStated schema (all_inner front)
    → AreStated schema last.node.inner → new ≡ front ++ last ∷ [] → AreStated schema (all_inner new)
inner_more schema front new last before here is_new =
    subst (AreStated schema) (sym (ap all_inner is_new ∙ inner-append front last))
    (stated-append schema (all_inner front) (last.node.inner ++ []) before (stated-append schema last.node.inner [] here tt))
