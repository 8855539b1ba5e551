-- Layers in blocks that stacks share.
use Rattle.std.specs.Prelude.{◌≡◌, ◌≤◌, ◌^◌, List, ◌++◌, map, length, All}
use Rattle.std.specs.List.{flat_map}
use Rattle.std.specs.declared.sync.Arc.{Arc}
use Rattle.std.specs.declared.vec.Vec.{Vec}
use Rattle.std.specs.Global.{Global}

-- what references lead to
abbrev pub values : {T : Type 0} → List (Arc T Global) → List T
values = map (λ r. r.value)

-- the layers of blocks
abbrev pub layers_in : {T : Type 0} → List (Vec (Arc T Global) Global) → List T
layers_in = flat_map (λ b. values b.items)

-- blocks of 64 layers each, and not too many to count their layers
pub record AreWhole {T : Type 0} (blocks : List (Vec (Arc T Global) Global)) : Type 0 where
  pub each : All (λ b. length b.items ≡ 64) blocks
  pub few : length blocks ≤ 2 ^ 50

-- the layers of blocks, and then the newest ones
abbrev pub layers_of : {T : Type 0} → List (Vec (Arc T Global) Global) → List (Arc T Global) → List T
layers_of blocks recent = layers_in blocks ++ values recent
