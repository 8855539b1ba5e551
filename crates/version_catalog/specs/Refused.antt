-- Why a publish is refused.
use Rattle.std.specs.Prelude.{◌≡◌, ℕ, ◌<◌, ◌≤◌}
use Rattle.version_catalog.specs.declared.refusal.PublishRefusal.{PublishRefusal}
use Rattle.version_catalog.specs.declared.refusal.PublishRefusal.TheVariants.{TooMany, Memory}

-- after so many publishes under a limit: it is reached, which is said with the number of publishes; or it is not, and memory ran out
abbrev pub IsRefused : ℕ → ℕ → PublishRefusal → Type 0
IsRefused made limit (TooMany n) = (n ≡ made) × (limit ≤ made)
IsRefused made limit Memory = made < limit
