mod AcceptedLemmas
mod AddedLemmas
pub mod EntryLemmas
pub mod FirstLemmas
mod HoldingLemmas
mod Sizes
mod TreeLemmas
