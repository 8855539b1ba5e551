pub mod FieldLemmas
mod Cut
mod Digits
mod Front
mod Pieces
pub mod LineLaws
pub mod RankedLemmas
pub mod UnitedLemmas
pub mod WalkLaws
pub mod WalkSteps
