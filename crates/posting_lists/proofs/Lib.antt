pub mod Bounds
pub mod Halving
pub mod Joined
pub mod Keys
pub mod Sections
pub mod Stored
