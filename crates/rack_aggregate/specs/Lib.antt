pub mod Merged
pub mod Racks
pub mod Runs
