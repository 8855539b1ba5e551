mod Kept
pub mod Prefixes
mod Stages
mod Sums
pub mod Steps
pub mod Tokens
