-- The edges that leave an id, type by type.
use Rattle.std.proofs.Common.{◌≡◌, ◌+◌, ℕ, ◌==◌, ◌&&◌, ◌||◌, not, Bool, true, false, refl, sym, ◌∙◌, ap, nat_lt, arith, List, [], ◌∷◌, filter}
use Rattle.std.proofs.lemmas.Bool.Decides.{nat_tests}
use Rattle.std.specs.Option.{option_map_or}
use Rattle.std.specs.Ordering.{is_eq}
use Rattle.uni_base.specs.declared.edge.EdgeRef.{EdgeRef}
use Rattle.uni_base.specs.declared.edge.Key.{Key}
use Rattle.uni_base.specs.declared.edge.Key.TheVariants.{Id, Word}
use Rattle.uni_base.specs.EdgeOrder.{key_cmp}
use Rattle.uni_schema.specs.Schema.{source_of}
use Rattle.uni_table.specs.Contents.{Contents, leaves, leaves_below, starts_at, without_from, without_leaving}
use Rattle.uni_table.specs.declared.command.EdgeRow.{EdgeRow}
use Rattle.uni_table.proofs.Additions.{filter-same, filter-twice}
use Rattle.uni_table.proofs.Compared.{is_eq-nat_cmp}

leaves_key : (id : ℕ) (key : Key) → is_eq (key_cmp (Id id) key) ≡ option_map_or (λ source. id == source) (source_of key) false
leaves_key id (Id source) = is_eq-nat_cmp id source
leaves_key id (Word text) = refl

-- an edge of a type from an id is of that type, and leaves the id
pub starts-leaves : (number id : ℕ) (edge : EdgeRef) → starts_at number (Id id) edge ≡ ((number == edge.type_no) && leaves id edge)
starts-leaves number id edge = ap (λ b. number == edge.type_no && b) (leaves_key id edge.key)

-- none leaves by a type below 0
pub leaves_below-none : (id : ℕ) (edge : EdgeRef) → leaves_below 0 id edge ≡ false
leaves_below-none id edge = by (leaves id edge) (nat_lt edge.type_no 0) none
  where
    none : nat_lt edge.type_no 0 ≡ false
    none = grind (arith, nat_tests)

    by : (l b : Bool) → b ≡ false → (l && b) ≡ false
    by true b e = e
    by false b e = refl

-- by one type more
pub leaves_below-more : (types id : ℕ) (edge : EdgeRef) → leaves_below (types + 1) id edge ≡ (leaves_below types id edge || starts_at types (Id id) edge)
leaves_below-more types id edge = by (leaves id edge) (nat_lt edge.type_no (types + 1)) (nat_lt edge.type_no types) (types == edge.type_no) more ∙ ap (λ b. leaves_below types id edge || b) (sym (starts-leaves types id edge))
  where
    more : nat_lt edge.type_no (types + 1) ≡ (nat_lt edge.type_no types || (types == edge.type_no))
    more = grind (arith, nat_tests)

    by : (l a b c : Bool) → a ≡ (b || c) → (l && a) ≡ ((l && b) || (c && l))
    by true a true c e = e
    by true a false true e = e
    by true a false false e = e
    by false a b true e = refl
    by false a b false e = refl

-- and by that type it has not left before
pub leaves_below-apart : (types id : ℕ) (edge : EdgeRef) → leaves_below types id edge ≡ true → starts_at types (Id id) edge ≡ false
leaves_below-apart types id edge left = starts-leaves types id edge ∙ by (leaves id edge) (nat_lt edge.type_no types) (types == edge.type_no) apart left
  where
    apart : nat_lt edge.type_no types ≡ true → (types == edge.type_no) ≡ false
    apart e = grind (arith, nat_tests)

    by : (l b c : Bool) → (b ≡ true → c ≡ false) → (l && b) ≡ true → (c && l) ≡ false
    by true true c far e = rw (far refl) refl
    by true false c far e = cc
    by false b c far e = cc

-- the table without the edges that leave an id, by no type, and by one type more
pub without_leaving-none : (table : Contents) (id : ℕ) → without_leaving table 0 id ≡ table
without_leaving-none table id = λ i. record { entities = table.entities; edges = all i }
  where
    keep : (p : EdgeRef × EdgeRow → Bool) → ((e : EdgeRef × EdgeRow) → p e ≡ true) → (es : List (EdgeRef × EdgeRow)) → filter p es ≡ es
    keep p each [] = refl
    keep p each (e ∷ es) = rw (each e) (ap (λ (rest : List (EdgeRef × EdgeRow)). e ∷ rest) (keep p each es))

    all : filter (λ (e : EdgeRef × EdgeRow). not (leaves_below 0 id e.0)) table.edges ≡ table.edges
    all = keep _ (λ e. ap not (leaves_below-none id e.0)) table.edges

pub without_leaving-more : (table : Contents) (types id : ℕ) → without_from (without_leaving table types id) types (Id id) ≡ without_leaving table (types + 1) id
without_leaving-more table types id = λ i. record { entities = table.entities; edges = same i }
  where
    neither : (a b : Bool) → (not a && not b) ≡ not (a || b)
    neither true b = refl
    neither false b = refl

    same : filter (λ (e : EdgeRef × EdgeRow). not (starts_at types (Id id) e.0)) (filter (λ (e : EdgeRef × EdgeRow). not (leaves_below types id e.0)) table.edges)
        ≡ filter (λ (e : EdgeRef × EdgeRow). not (leaves_below (types + 1) id e.0)) table.edges
    same = filter-twice (λ (e : EdgeRef × EdgeRow). not (starts_at types (Id id) e.0)) (λ (e : EdgeRef × EdgeRow). not (leaves_below types id e.0)) table.edges
        ∙ filter-same (λ (e : EdgeRef × EdgeRow). not (leaves_below types id e.0) && not (starts_at types (Id id) e.0)) (λ (e : EdgeRef × EdgeRow). not (leaves_below (types + 1) id e.0))
        (λ e. neither (leaves_below types id e.0) (starts_at types (Id id) e.0) ∙ ap not (sym (leaves_below-more types id e.0))) table.edges
