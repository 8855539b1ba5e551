pub mod Dialects
pub mod Tree
pub mod Size
pub mod Text
pub mod Columns
pub mod Marks
pub mod Within
pub mod Examples
