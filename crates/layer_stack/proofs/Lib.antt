pub mod Grouped
pub mod Heads
pub mod Held
pub mod Laid
mod Marked
pub mod Merged
pub mod Order
pub mod Directories
pub mod TermWords
pub mod Terms
pub mod Under
pub mod Told
mod Appended
pub mod Settled
pub mod Combined
pub mod Based
pub mod Passed
