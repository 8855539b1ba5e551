-- How standings combine.
use Rattle.std.proofs.Common.{◌≡◌, refl}
use Rattle.uni_meaning.specs.Standings.{either, both}
use Rattle.uni_meaning.specs.declared.standing.Standing.{Standing}
use Rattle.uni_meaning.specs.declared.standing.Standing.TheVariants.{Missed, Hidden, Shown}

pub either_missed : (a : Standing) → either a Missed ≡ a
either_missed Missed = refl
either_missed Hidden = refl
either_missed (Shown edges) = refl

pub both_missed : (a : Standing) → both a Missed ≡ a
both_missed Missed = refl
both_missed Hidden = refl
both_missed (Shown edges) = refl

pub either_assoc : (a b c : Standing) → either a (either b c) ≡ either (either a b) c
either_assoc Missed b c = refl
either_assoc (Shown edges) b c = refl
either_assoc Hidden Missed c = refl
either_assoc Hidden (Shown edges) c = refl
either_assoc Hidden Hidden Missed = refl
either_assoc Hidden Hidden Hidden = refl
either_assoc Hidden Hidden (Shown edges) = refl
