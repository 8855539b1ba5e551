-- What shards have answered.
use Rattle.std.proofs.Common.{◌≡◌, ◌+◌, ℕ, suc, List, [], ◌∷◌, ◌++◌, Some, length, slice_get, refl, subst, sym, arith}
use Rattle.std.specs.declared.result.Result.{Result}
use Rattle.std.specs.declared.result.Result.TheVariants.{Err, Ok}
use Rattle.std.specs.Result.{IfOk}
use Rattle.lineage_tree.specs.declared.lineage.RawHit.{RawHit}
use Rattle.shard_index.specs.Versions.{VersionState}
use Rattle.shard_eval.specs.Resolution.{Resolution}
use Rattle.apply_extract.specs.Parts.{AllFirst, AreFirst}

module _ (version : VersionState) (vertical limit : ℕ) (query : ℕ → Resolution) where
  -- one shard more
  pub first_more : (shard at : ℕ) (parts : List (List RawHit)) (part : List RawHit) → shard + length parts ≡ at → AllFirst version vertical shard limit query parts → AreFirst version vertical at limit (query at) part
      → AllFirst version vertical shard limit query (parts ++ part ∷ [])
  first_more shard at [] part long all one = (subst (λ n. AreFirst version vertical n limit (query n) part) (sym (let e : shard ≡ at = omega (arith, long) in e)) one, tt)
  first_more shard at (x ∷ parts) part long all one = (all.0, first_more (shard + 1) at parts part (omega (arith, long)) all.1 one)

  -- each shard by its number
  pub first_each : (shard : ℕ) (parts : List (List RawHit)) → ((i : ℕ) (part : List RawHit) → slice_get parts i ≡ Some part → AreFirst version vertical (shard + i) limit (query (shard + i)) part)
      → AllFirst version vertical shard limit query parts
  first_each shard [] each = tt
  first_each shard (part ∷ parts) each = (
    subst (λ n. AreFirst version vertical n limit (query n) part) (let e : shard + 0 ≡ shard = omega arith in e) (each 0 part refl),
    first_each (shard + 1) parts (λ i x found. subst (λ n. AreFirst version vertical n limit (query n) x) (let e : shard + suc i ≡ shard + 1 + i = omega arith in e) (each (suc i) x found)),
  )

  pub first_all : (parts : List (List RawHit)) → ((i : ℕ) (part : List RawHit) → slice_get parts i ≡ Some part → AreFirst version vertical i limit (query i) part) → AllFirst version vertical 0 limit query parts
  first_all parts each = first_each 0 parts (λ i part found. subst (λ n. AreFirst version vertical n limit (query n) part) (let e : i ≡ 0 + i = omega arith in e) (each i part found))

-- what follows of a value that may be there
pub if_ok : {X E : Type 0} (r : Result X E) {P Q : X → Type 0} → ((x : X) → P x → Q x) → IfOk r P → IfOk r Q
if_ok (Ok x) goes says = goes x says
if_ok (Err e) goes says = tt

pub if_both : {X E : Type 0} (r : Result X E) {P Q R : X → Type 0} → ((x : X) → P x → Q x → R x) → IfOk r P → IfOk r Q → IfOk r R
if_both (Ok x) goes first second = goes x first second
if_both (Err e) goes first second = tt
