-- Runs of answers.
use Rattle.std.proofs.Common.{◌≡◌, ℕ, zero, suc, ◌+◌, ◌++◌, List, [], ◌∷◌, Some, subst, arith, length, slice_get}
use Rattle.std.specs.declared.result.Result.{Result}
use Rattle.std.specs.declared.result.Result.TheVariants.{Ok}
use Rattle.rack_aggregate.specs.Runs.{GivesRun, GivesShards}

module _ {X E : Type 0} (post : ℕ → Result X E → Type 0) where
  -- one run after another
  pub run_append : (from middle : ℕ) (xs ys : List X) → from + length xs ≡ middle → GivesRun post from xs → GivesRun post middle ys → GivesRun post from (xs ++ ys)
  run_append from middle [] ys long first second = let same : middle ≡ from = omega (arith, long) in subst (λ n. GivesRun post n ys) same second
  run_append from middle (x ∷ xs) ys long first second = (first.0, run_append (from + 1) middle xs ys (omega (arith, long)) first.1 second)

  -- one answer more
  pub run_push : (from at : ℕ) (xs : List X) (x : X) → from + length xs ≡ at → GivesRun post from xs → post at (Ok x) → GivesRun post from (xs ++ x ∷ [])
  run_push from at xs x long run here = run_append from at xs (x ∷ []) long run (here, tt)

  -- the answer at a place
  run_at : (from : ℕ) (xs : List X) → GivesRun post from xs → (i : ℕ) (x : X) → slice_get xs i ≡ Some x → post (from + i) (Ok x)
  run_at from [] run i x found = absurd cc
  run_at from (y ∷ ys) run zero x found = let same : y ≡ x = cc in let here : from ≡ from + 0 = omega arith in subst (λ n. post n (Ok x)) here (subst (λ (z : X). post from (Ok z)) same run.0)
  run_at from (y ∷ ys) run (suc i) x found = let later = run_at (from + 1) ys run.1 i x found in let there : from + 1 + i ≡ from + suc i = omega arith in subst (λ n. post n (Ok x)) there later

  pub run_shards : (xs : List X) → GivesRun post 0 xs → GivesShards post xs
  run_shards xs run i x found = let at : 0 + i ≡ i = omega arith in subst (λ n. post n (Ok x)) at (run_at 0 xs run i x found)
