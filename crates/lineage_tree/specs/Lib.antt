pub mod Accepted
pub mod Entries
pub mod Holding
pub mod Judges
pub mod Lists
pub mod Tree
