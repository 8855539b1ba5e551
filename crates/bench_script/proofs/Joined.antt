-- Texts that are added one after the other.
use Rattle.std.proofs.Common.{◌≡◌, ℕ, List, ◌++◌, ap, ◌∙◌, append_assoc}

pub joined : (old a b one both : List ℕ) → one ≡ old ++ a → both ≡ one ++ b → both ≡ old ++ (a ++ b)
joined old a b one both is more = more ∙ ap (λ t. t ++ b) is ∙ append_assoc old a b

-- and where the second of them is another one
pub joined_as : (old a b c one both : List ℕ) → one ≡ old ++ a → both ≡ one ++ b → b ≡ c → both ≡ old ++ (a ++ c)
joined_as old a b c one both is more same = joined old a b one both is more ∙ ap (λ t. old ++ (a ++ t)) same
