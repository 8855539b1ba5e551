-- The edges of a shard, gathered from its entities.
use Rattle.std.proofs.Common.{◌≡◌, ◌+◌, ◌<◌, ◌++◌, ℕ, ◌==◌, ◌&&◌, ◌||◌, not, Bool, true, false, List, [], ◌∷◌, Option, None, Some, refl, sym, ◌∙◌, ap, take, length, get_or, arith, eq-eqb, zero, suc, nat_lt}
use Rattle.std.proofs.lemmas.Bool.{and_parts, eqb-true}
use Rattle.std.proofs.lemmas.Bool.Decides.{nat_tests}
use Rattle.std.proofs.lemmas.List.{take_more}
use Rattle.std.proofs.lemmas.Map.Keys.{IsDistinct-head, IsDistinct-tail}
use Rattle.std.proofs.lemmas.Option.{slice_get_within}
use Rattle.std.specs.List.{list_any, AllByRecursion}
use Rattle.std.specs.Option.{option_map_or}
use Rattle.uni_base.specs.declared.edge.EdgeRef.{EdgeRef}
use Rattle.uni_base.specs.declared.edge.Key.{Key}
use Rattle.uni_base.specs.declared.edge.Key.TheVariants.{Id, Word}
use Rattle.uni_base.specs.declared.entity.DocKey.{DocKey}
use Rattle.uni_schema.specs.Schema.{Declarations, source_of, type_at, is_index}
use Rattle.uni_schema.specs.declared.schema.TypeDef.{TypeDef}
use Rattle.uni_table.specs.Contents.{reaches, leaves, starts_at}
use Rattle.uni_table.specs.Lists.{starts_in}
use Rattle.uni_table.proofs.Leaving.{starts-leaves}
use Rattle.uni_table.specs.Shards.{AreApart, is_forward_type, leaves_forward}

-- one more item, at the end
any-more : {X : Type 0} (p : X → Bool) (xs : List X) (x : X) → list_any p (xs ++ x ∷ []) ≡ (list_any p xs || p x)
any-more p [] x = by (p x)
  where
    by : (b : Bool) → (b || false) ≡ b
    by true = refl
    by false = refl
any-more {X} p (y ∷ ys) x = ap (λ b. p y || b) (any-more p ys x) ∙ by (p y) (list_any p ys) (p x)
  where
    by : (a b c : Bool) → (a || (b || c)) ≡ ((a || b) || c)
    by true b c = refl
    by false b c = refl

-- a test that only entities of one id pass
module _ (test : DocKey → Bool) (single : (a b : DocKey) → test a ≡ true → test b ≡ true → (a.id == b.id) ≡ true) where
  -- passes none of those that differ from one that passes
  none_else : (k : DocKey) (ks : List DocKey) → test k ≡ true → AllByRecursion (λ y. (k.id == y.id) ≡ false) ks → (i : ℕ) (d : DocKey) → i < length ks → test (get_or ks i d) ≡ false
  none_else k [] passes apart i d within = absurd (omega (arith, within))
  none_else k (y ∷ ys) passes apart zero d within = by (test y) refl
    where
      by : (b : Bool) → test y ≡ b → b ≡ false
      by true is = let same : true ≡ false = sym (single k y passes is) ∙ apart.0 in absurd cc
      by false is = refl
  none_else k (y ∷ ys) passes apart (suc i) d within = none_else k ys passes apart.1 i d (omega (arith, within))

  -- so it passes at most one of entities that differ
  pub once : (ks : List DocKey) (i : ℕ) (d : DocKey) → AreApart ks → i < length ks → list_any test (take i ks) ≡ true → test (get_or ks i d) ≡ false
  once [] i d apart within some = absurd (omega (arith, within))
  once (k ∷ ks) zero d apart within some = cc
  once (k ∷ ks) (suc i) d apart within some = by (test k) refl some (once ks i d (IsDistinct-tail (λ (a b : DocKey). a.id == b.id) k ks apart) (omega (arith, within)))
    where
      by : (b : Bool) → test k ≡ b → (b || list_any test (take i ks)) ≡ true → (list_any test (take i ks) ≡ true → test (get_or ks i d) ≡ false) → test (get_or ks i d) ≡ false
      by true is some later = none_else k ks is (IsDistinct-head (λ (a b : DocKey). a.id == b.id) k ks apart) i d (omega (arith, within))
      by false is some later = later some

  -- with one entity more
  pub any-next : (ks : List DocKey) (i : ℕ) (k : DocKey) → i < length ks → k ≡ get_or ks i k → list_any test (take (i + 1) ks) ≡ (list_any test (take i ks) || test k)
  any-next ks i k within is = ap (list_any test) (take_more ks i k within ∙ ap (λ (x : DocKey). take i ks ++ x ∷ []) (sym is)) ∙ any-more test (take i ks) k

pub reaches_single : (edge : EdgeRef) (a b : DocKey) → reaches a.id edge ≡ true → reaches b.id edge ≡ true → (a.id == b.id) ≡ true
reaches_single edge a b first second = eq-eqb a.id b.id (eqb-true a.id edge.target first ∙ sym (eqb-true b.id edge.target second))

leaves_single : (edge : EdgeRef) (a b : DocKey) → leaves a.id edge ≡ true → leaves b.id edge ≡ true → (a.id == b.id) ≡ true
leaves_single edge a b first second = by edge.key first second
  where
    by : (key : Key) → option_map_or (λ source. a.id == source) (source_of key) false ≡ true → option_map_or (λ source. b.id == source) (source_of key) false ≡ true → (a.id == b.id) ≡ true
    by (Id source) p q = eq-eqb a.id b.id (eqb-true a.id source p ∙ sym (eqb-true b.id source q))
    by (Word text) p q = cc

pub leaves_forward_single : (schema : Declarations) (vertical : ℕ) (edge : EdgeRef) (a b : DocKey) → leaves_forward schema vertical a.id edge ≡ true → leaves_forward schema vertical b.id edge ≡ true → (a.id == b.id) ≡ true
leaves_forward_single schema vertical edge a b first second =
    leaves_single edge a b (and_parts (leaves a.id edge) (is_forward_type schema vertical edge.type_no) first).0 (and_parts (leaves b.id edge) (is_forward_type schema vertical edge.type_no) second).0

-- the forward edges that leave an id, by one type more, which is such a type or not
module _ (schema : Declarations) (vertical id number : ℕ) where
  abbrev before : ℕ → EdgeRef → Bool
  before types edge = leaves_forward schema vertical id edge && nat_lt edge.type_no types

  less_more : (n : ℕ) → nat_lt n (number + 1) ≡ (nat_lt n number || (number == n))
  less_more n = grind (arith, nat_tests)

  pub forward-none : (edge : EdgeRef) → before 0 edge ≡ false
  forward-none edge = by (leaves_forward schema vertical id edge) (nat_lt edge.type_no 0) none
    where
      none : nat_lt edge.type_no 0 ≡ false
      none = grind (arith, nat_tests)

      by : (l b : Bool) → b ≡ false → (l && b) ≡ false
      by true b e = e
      by false b e = refl

  pub forward-apart : (edge : EdgeRef) → before number edge ≡ true → starts_at number (Id id) edge ≡ false
  forward-apart edge left = starts-leaves number id edge ∙ by (leaves_forward schema vertical id edge) (nat_lt edge.type_no number) (number == edge.type_no) (leaves id edge) apart left
    where
      apart : nat_lt edge.type_no number ≡ true → (number == edge.type_no) ≡ false
      apart e = grind (arith, nat_tests)

      by : (f b c l : Bool) → (b ≡ true → c ≡ false) → (f && b) ≡ true → (c && l) ≡ false
      by true true c l far e = rw (far refl) refl
      by true false c l far e = cc
      by false b c l far e = cc

  pub forward-more : is_forward_type schema vertical number ≡ true → (edge : EdgeRef) → before (number + 1) edge ≡ (before number edge || starts_at number (Id id) edge)
  forward-more such edge =
      ap (λ b. leaves_forward schema vertical id edge && b) (less_more edge.type_no)
      ∙ by (leaves id edge) (is_forward_type schema vertical edge.type_no) (nat_lt edge.type_no number) (number == edge.type_no) here
      ∙ ap (λ b. before number edge || b) (sym (starts-leaves number id edge))
    where
      here : (number == edge.type_no) ≡ true → is_forward_type schema vertical edge.type_no ≡ true
      here is = ap (is_forward_type schema vertical) (sym (eqb-true number edge.type_no is)) ∙ such

      by : (l f b c : Bool) → (c ≡ true → f ≡ true) → ((l && f) && (b || c)) ≡ (((l && f) && b) || (c && l))
      by true true true c is = refl
      by true true false true is = refl
      by true true false false is = refl
      by true false b true is = let no_such : false ≡ true = is refl in absurd cc
      by true false b false is = refl
      by false f b true is = refl
      by false f b false is = refl

  pub forward-as_before : is_forward_type schema vertical number ≡ false → (edge : EdgeRef) → before (number + 1) edge ≡ before number edge
  forward-as_before such edge =
      ap (λ b. leaves_forward schema vertical id edge && b) (less_more edge.type_no)
      ∙ by (leaves id edge) (is_forward_type schema vertical edge.type_no) (nat_lt edge.type_no number) (number == edge.type_no) here
    where
      here : (number == edge.type_no) ≡ true → is_forward_type schema vertical edge.type_no ≡ false
      here is = ap (is_forward_type schema vertical) (sym (eqb-true number edge.type_no is)) ∙ such

      by : (l f b c : Bool) → (c ≡ true → f ≡ false) → ((l && f) && (b || c)) ≡ ((l && f) && b)
      by true true b true is = let no_such : true ≡ false = is refl in absurd cc
      by true true true false is = refl
      by true true false false is = refl
      by true false b c is = refl
      by false f b c is = refl

-- a forward edge is of a declared type
pub forward-all : (schema : Declarations) (vertical id : ℕ) (edge : EdgeRef) → (leaves_forward schema vertical id edge && nat_lt edge.type_no (length schema.types)) ≡ leaves_forward schema vertical id edge
forward-all schema vertical id edge = by (leaves id edge) (type_at schema edge.type_no) refl
  where
    below : (a b : ℕ) → a < b → nat_lt a b ≡ true
    below a b h = grind (arith, nat_tests)

    whole : (b : Bool) → (b && true) ≡ b
    whole true = refl
    whole false = refl

    by : (l : Bool) (o : Option TypeDef) → type_at schema edge.type_no ≡ o
        → ((l && option_map_or (λ (type_def : TypeDef). not (is_index type_def.store) && starts_in vertical type_def.origin) o false) && nat_lt edge.type_no (length schema.types))
        ≡ (l && option_map_or (λ (type_def : TypeDef). not (is_index type_def.store) && starts_in vertical type_def.origin) o false)
    by true None e = refl
    by true (Some type_def) e = rw (below edge.type_no (length schema.types) (slice_get_within schema.types edge.type_no type_def e)) (whole _)
    by false o e = refl
