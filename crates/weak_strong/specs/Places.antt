-- Where a key stands among all keys, in rank order.
use Rattle.std.specs.Prelude.{ℕ, ◌+◌, ◌-◌, ◌*◌, ◌^◌}
use Rattle.uni_base.specs.declared.entity.DocKey.{DocKey}

-- how many keys are at or before a key, at most: by rank, highest first, then by id
abbrev pub place_of : DocKey → ℕ
place_of k = (2 ^ 32 - 1 - k.rank.0) * 2 ^ 64 + k.id
