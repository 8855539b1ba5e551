-- Keys joined with their audiences.
use Rattle.std.proofs.Common.{◌≡◌, ℕ, zero, suc, ◌<◌, List, [], ◌∷◌, ◌++◌, length, get_or, slice_get, Some, refl, sym, ap, arith}
use Rattle.uni_base.specs.declared.edge.Audience.{Audience}
use Rattle.uni_base.specs.declared.entity.DocKey.{DocKey}
use Rattle.posting_lists.specs.Postings.{keys_of, joined}

pub keys_of-joined : (keys : List DocKey) (audiences : List Audience) → length audiences ≡ length keys → keys_of (joined keys audiences) ≡ keys
keys_of-joined [] audiences same = refl
keys_of-joined (k ∷ keys) [] same = absurd (omega arith)
keys_of-joined (k ∷ keys) (a ∷ audiences) same = ap (λ ks. k ∷ ks) (keys_of-joined keys audiences (omega arith))

pub length-joined : (keys : List DocKey) (audiences : List Audience) → length audiences ≡ length keys → length (joined keys audiences) ≡ length keys
length-joined [] audiences same = refl
length-joined (k ∷ keys) [] same = absurd (omega arith)
length-joined (k ∷ keys) (a ∷ audiences) same = ap suc (length-joined keys audiences (omega arith))

pub slice_get-joined : (keys : List DocKey) (audiences : List Audience) (i : ℕ) (k : DocKey) (a : Audience) → i < length keys → k ≡ get_or keys i k → slice_get audiences i ≡ Some a
    → slice_get (joined keys audiences) i ≡ Some (record { key = k; audience = a })
slice_get-joined [] audiences i k a fits is at = absurd (omega arith)
slice_get-joined (x ∷ keys) [] i k a fits is at = cc
slice_get-joined (x ∷ keys) (b ∷ audiences) zero k a fits is at = λ i. Some (record { key = sym is i; audience = unwrapped i })
  where
    unwrapped : b ≡ a
    unwrapped = cc
slice_get-joined (x ∷ keys) (b ∷ audiences) (suc i) k a fits is at = slice_get-joined keys audiences i k a (omega arith) is at

pub joined_more : (keys : List DocKey) (audiences : List Audience) (k : DocKey) (a : Audience) → length audiences ≡ length keys
    → joined (keys ++ k ∷ []) (audiences ++ a ∷ []) ≡ joined keys audiences ++ record { key = k; audience = a } ∷ []
joined_more [] [] k a same = refl
joined_more [] (b ∷ audiences) k a same = absurd (omega arith)
joined_more (x ∷ keys) [] k a same = absurd (omega arith)
joined_more (x ∷ keys) (b ∷ audiences) k a same = ap (λ ps. record { key = x; audience = b } ∷ ps) (joined_more keys audiences k a (omega arith))
