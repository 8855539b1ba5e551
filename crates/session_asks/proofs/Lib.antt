pub mod Parts
pub mod Replied
pub mod Takes
