pub mod Begins
pub mod Counts
mod Exact
pub mod KeysOfWords
pub mod Occurs
pub mod Parted
pub mod Searched
pub mod TableWords
