pub mod Halves
pub mod Law
pub mod Steps
