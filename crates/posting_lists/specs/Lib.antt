pub mod Audiences
pub mod Search
pub mod Postings
