mod Counting
mod Leapt
mod Passing
mod Placed
pub mod Settled
mod Sought
mod Started
mod Walked
mod Whole
