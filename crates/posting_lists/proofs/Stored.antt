-- Audiences over a table of circles that grows.
use Rattle.std.proofs.Common.{◌≡◌, ℕ, List, [], ◌∷◌, ◌++◌, map, length, get_or, refl, ◌∙◌, ap, arith, All, length-append}
use Rattle.std.proofs.lemmas.List.{get_or_append_left, map-append}
use Rattle.std.proofs.lemmas.List.Elements.{All-head, All-tail, All-cons, All-nil}
use Rattle.uni_base.specs.declared.edge.Key.{Key}
use Rattle.uni_base.specs.declared.edge.Key.TheVariants.{Id}
use Rattle.uni_base.specs.declared.edge.Audience.{Audience}
use Rattle.uni_base.specs.declared.edge.Audience.TheVariants as audience
use Rattle.posting_lists.specs.declared.circles.StoredAudience.{StoredAudience}
use Rattle.posting_lists.specs.declared.circles.StoredAudience.TheVariants.{Public, Only, Circle}
use Rattle.posting_lists.specs.Audiences.{audience_of, IsStored, Extends}

pub IsStored-extends : (old new : List (ℕ × Key)) → Extends old new → (s : StoredAudience) → IsStored old s → IsStored new s
IsStored-extends old new more Public is = tt
IsStored-extends old new more Only is = tt
IsStored-extends old new more (Circle n) is = omega (arith, ap length more.1, length-append old more.0)

pub audience_of-extends : (old new : List (ℕ × Key)) → Extends old new → (s : StoredAudience) → IsStored old s → audience_of new s ≡ audience_of old s
audience_of-extends old new more Public is = refl
audience_of-extends old new more Only is = refl
audience_of-extends old new more (Circle n) is =
    ap (λ (circle : ℕ × Key). audience.Circle circle.0 circle.1) (ap (λ (circles : List (ℕ × Key)). get_or circles n (0, Id 1)) more.1 ∙ get_or_append_left old more.0 (0, Id 1) n is)

pub audiences-extends : (old new : List (ℕ × Key)) → Extends old new → (stored : List StoredAudience) → All (IsStored old) stored → map (audience_of new) stored ≡ map (audience_of old) stored
audiences-extends old new more [] all = refl
audiences-extends old new more (s ∷ stored) all =
    λ i. audience_of-extends old new more s (All-head (IsStored old) s stored all) i ∷ audiences-extends old new more stored (All-tail (IsStored old) s stored all) i

pub stored_more : (old new : List (ℕ × Key)) → Extends old new → (stored : List StoredAudience) (s : StoredAudience) (a : Audience) → All (IsStored old) stored → audience_of new s ≡ a
    → map (audience_of new) (stored ++ s ∷ []) ≡ map (audience_of old) stored ++ a ∷ []
stored_more old new more stored s a all is =
    map-append (audience_of new) stored (s ∷ []) ∙ (λ i. audiences-extends old new more stored all i ++ is i ∷ [])

pub all_stored_more : (old new : List (ℕ × Key)) → Extends old new → (stored : List StoredAudience) (s : StoredAudience) → All (IsStored old) stored → IsStored new s → All (IsStored new) (stored ++ s ∷ [])
all_stored_more old new more [] s all is = All-cons (IsStored new) s [] is (All-nil (IsStored new))
all_stored_more old new more (t ∷ stored) s all is =
    All-cons (IsStored new) t (stored ++ s ∷ []) (IsStored-extends old new more t (All-head (IsStored old) t stored all)) (all_stored_more old new more stored s (All-tail (IsStored old) t stored all) is)
