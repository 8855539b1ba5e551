pub mod Differences
pub mod Filters
pub mod Firsts
pub mod Leaps
pub mod Moves
pub mod Passed
