-- The order of edges by the numbers that lead them: of ids, and of one source.
use Rattle.std.proofs.Common.{arith, ◌≡◌, ◌<◌, ◌+◌, ◌*◌, ◌/◌, ◌%◌, ℕ, ◌==◌, ◌&&◌, ◌||◌, Bool, true, false, not, cond, nat_lt, List, Option, None, Some, ap, refl, sym, ◌∙◌, is_some, slice_get}
use Rattle.std.proofs.lemmas.Bool.Decides.{nat_tests}
use Rattle.std.proofs.lemmas.Cmp.{tied_itself}
use Rattle.std.specs.declared.cmp.Ordering.{Ordering}
use Rattle.std.specs.declared.cmp.Ordering.TheVariants.{Less, Equal, Greater}
use Rattle.std.specs.Option.{option_map_or}
use Rattle.std.specs.Ordering.{nat_cmp, ordering_then}
use Rattle.uni_base.specs.declared.edge.Key.TheVariants.{Id}
use Rattle.uni_base.specs.EdgeOrder.{key_cmp, key_cmp-total}
use Rattle.uni_table.specs.GraphOrder.{id_of_no, leads_tell, key_at, key_told, short_id, type_told}
use Rattle.uni_table.specs.declared.graph.numbers.Source.{Source}
use Rattle.uni_table.specs.declared.graph.order.PlacedEdge.{PlacedEdge}

then_itself : (o : Ordering) → ordering_then o o ≡ o
then_itself Less = refl
then_itself Equal = refl
then_itself Greater = refl

then_assoc : (a b c : Ordering) → ordering_then (ordering_then a b) c ≡ ordering_then a (ordering_then b c)
then_assoc Less b c = refl
then_assoc Equal b c = refl
then_assoc Greater b c = refl

-- a key is told by the source where its number is none of an id, and by the number where it is one
told_by_source : (sources : List Source) (edge : PlacedEdge) → is_some (short_id edge) ≡ false → key_told sources edge ≡ key_at sources edge
told_by_source sources edge = by (short_id edge)
  where
    by : (o : Option ℕ) → is_some o ≡ false → option_map_or (λ id. Id id) o (key_at sources edge) ≡ key_at sources edge
    by None e = refl
    by (Some id) e = cc

told_by_no : (sources : List Source) (edge : PlacedEdge) → is_some (short_id edge) ≡ true → key_told sources edge ≡ Id (edge.lead % 281474976710656)
told_by_no sources edge some = ap (λ o. option_map_or (λ id. Id id) o (key_at sources edge)) (by (edge.lead % 281474976710656) some)
  where
    by : (n : ℕ) → is_some (id_of_no n) ≡ true → id_of_no n ≡ Some n
    by n e = grind (arith, nat_tests, e)

-- where the keys are those of one source, what they are compared by adds nothing to the order of the targets
pub targets_decide : (sources : List Source) (one other : PlacedEdge) → is_some (short_id one) ≡ false → is_some (short_id other) ≡ false → one.source ≡ other.source
    → ordering_then (key_cmp (key_told sources one) (key_told sources other)) (nat_cmp one.target other.target) ≡ nat_cmp one.target other.target
targets_decide sources one other long longer same =
    (λ i. ordering_then (key_cmp (told_by_source sources one long i) (told_by_source sources other longer i)) (nat_cmp one.target other.target))
    ∙ ap (λ n. ordering_then (key_cmp (key_at sources one) (option_map_or (λ source. source.key) (slice_get sources n) (Id other.target))) (nat_cmp one.target other.target)) (sym same)
    ∙ by (slice_get sources one.source)
  where
    by : (o : Option Source)
        → ordering_then (key_cmp (option_map_or (λ source. source.key) o (Id one.target)) (option_map_or (λ source. source.key) o (Id other.target))) (nat_cmp one.target other.target) ≡ nat_cmp one.target other.target
    by None = then_itself (nat_cmp one.target other.target)
    by (Some source) = ap (λ o. ordering_then o (nat_cmp one.target other.target)) (tied_itself key_cmp-total source.key)

-- numbers are in the order of what they are in spans, and then of what is left
in_spans : (a b c d : ℕ) → b < 281474976710656 → d < 281474976710656 → nat_cmp (a * 281474976710656 + b) (c * 281474976710656 + d) ≡ ordering_then (nat_cmp a c) (nat_cmp b d)
in_spans a b c d below within = grind (arith, nat_tests, below, within)

by_spans : (m n : ℕ) → nat_cmp m n ≡ ordering_then (nat_cmp (m / 281474976710656) (n / 281474976710656)) (nat_cmp (m % 281474976710656) (n % 281474976710656))
by_spans m n =
    let one : m ≡ m / 281474976710656 * 281474976710656 + m % 281474976710656 = omega arith in
    let other : n ≡ n / 281474976710656 * 281474976710656 + n % 281474976710656 = omega arith in
    (λ i. nat_cmp (one i) (other i)) ∙ in_spans (m / 281474976710656) (m % 281474976710656) (n / 281474976710656) (n % 281474976710656) (omega arith) (omega arith)

-- where two numbers differ, what follows them does not count
first_decides : (a b : ℕ) (x y : Ordering) → (a == b) ≡ false → ordering_then (nat_cmp a b) x ≡ ordering_then (nat_cmp a b) y
first_decides a b x y apart = by (nat_lt a b)
  where
    by : (less : Bool) → ordering_then (cond less Less (cond (a == b) Equal Greater)) x ≡ ordering_then (cond less Less (cond (a == b) Equal Greater)) y
    by true = refl
    by false = (λ i. ordering_then (cond (apart i) Equal Greater) x) ∙ sym (λ i. ordering_then (cond (apart i) Equal Greater) y)

abbrev by_numbers : PlacedEdge → PlacedEdge → Ordering
by_numbers one other = ordering_then (nat_cmp (one.lead % 281474976710656) (other.lead % 281474976710656)) (nat_cmp one.target other.target)

abbrev by_keys : List Source → PlacedEdge → PlacedEdge → Ordering
by_keys sources one other = ordering_then (key_cmp (key_told sources one) (key_told sources other)) (nat_cmp one.target other.target)

-- where two edges are of two types, or both keys are ids by their numbers, the numbers that lead them decide,
-- and then the targets
pub leads_decide : (sources : List Source) (one other : PlacedEdge) → leads_tell one other ≡ true
    → ordering_then (nat_cmp one.lead other.lead) (nat_cmp one.target other.target)
    ≡ ordering_then (nat_cmp (type_told one) (type_told other)) (ordering_then (key_cmp (key_told sources one) (key_told sources other)) (nat_cmp one.target other.target))
leads_decide sources one other led =
    ap (λ o. ordering_then o (nat_cmp one.target other.target)) (by_spans one.lead other.lead)
    ∙ then_assoc (nat_cmp (type_told one) (type_told other)) (nat_cmp (one.lead % 281474976710656) (other.lead % 281474976710656)) (nat_cmp one.target other.target)
    ∙ by (type_told one == type_told other) refl (is_some (short_id one)) refl (is_some (short_id other)) refl led
  where
    by : (same : Bool) → (type_told one == type_told other) ≡ same → (short : Bool) → is_some (short_id one) ≡ short → (shorter : Bool) → is_some (short_id other) ≡ shorter
        → (not same || (short && shorter)) ≡ true
        → ordering_then (nat_cmp (type_told one) (type_told other)) (by_numbers one other) ≡ ordering_then (nat_cmp (type_told one) (type_told other)) (by_keys sources one other)
    by false apart short e shorter f led = first_decides (type_told one) (type_told other) (by_numbers one other) (by_keys sources one other) apart
    by true same true e true f led =
        λ i. ordering_then (nat_cmp (type_told one) (type_told other)) (ordering_then (key_cmp (sym (told_by_no sources one e) i) (sym (told_by_no sources other f) i)) (nat_cmp one.target other.target))
    by true same true e false f led = cc
    by true same false e shorter f led = cc
