pub mod Compacting
mod Feeding
pub mod Items
mod Seated
pub mod Steps
