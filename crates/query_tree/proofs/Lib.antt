pub mod Appends
pub mod Folds
pub mod Worked
