pub mod Changes
pub mod Frozen
pub mod LastWords
pub mod Sorted
pub mod Tables
pub mod Rising
pub mod Placed
pub mod Among
