pub mod Law
pub mod Places
pub mod Seats
pub mod Steps
