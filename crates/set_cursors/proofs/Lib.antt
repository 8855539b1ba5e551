pub mod Asked
mod Commons
mod Differences
mod Filtered
mod FirstKeys
mod Moved
pub mod Passed
mod PassedFirst
mod PassedPair
mod Reached
pub mod Shared
mod Weights
