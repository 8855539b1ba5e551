pub mod CoreLemmas
pub mod ExampleRuns
pub mod Histories
pub mod Feeds
pub mod Folds
pub mod Paired
pub mod Shares
pub mod Growth
pub mod Installs
pub mod Openings
pub mod SoleLayers
pub mod Told
mod Tying
pub mod Wholes
