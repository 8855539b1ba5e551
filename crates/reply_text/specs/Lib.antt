pub mod FirstWords
pub mod Heads
pub mod Laws
pub mod Lines
pub mod Printed
