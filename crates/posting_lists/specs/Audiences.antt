-- Audiences that are stored with a table of circles.
use Rattle.std.specs.Prelude.{ℕ, ◌≡◌, ◌<◌, List, ◌++◌, length, get_or}
use Rattle.uni_base.specs.declared.edge.Audience.{Audience}
use Rattle.uni_base.specs.declared.edge.Audience.TheVariants as audience
use Rattle.uni_base.specs.declared.edge.Key.{Key}
use Rattle.uni_base.specs.declared.edge.Key.TheVariants.{Id}
use Rattle.posting_lists.specs.declared.circles.StoredAudience.{StoredAudience}
use Rattle.posting_lists.specs.declared.circles.StoredAudience.TheVariants.{Public, Only, Circle}

-- the audience that stands stored over a table of circles
abbrev pub audience_of : List (ℕ × Key) → StoredAudience → Audience
audience_of circles Public = audience.Public
audience_of circles Only = audience.Only
audience_of circles (Circle n) = let circle = get_or circles n (0, Id 1) in audience.Circle circle.0 circle.1

-- its circle, if it has one, stands in the table
abbrev pub IsStored : List (ℕ × Key) → StoredAudience → Type 0
IsStored circles Public = Unit {0}
IsStored circles Only = Unit {0}
IsStored circles (Circle n) = n < length circles

-- a table that has gained circles at its end
abbrev pub Extends : List (ℕ × Key) → List (ℕ × Key) → Type 0
Extends old new = (added : List (ℕ × Key)) × (new ≡ old ++ added)
