pub mod Compacted
pub mod Fed
pub mod FedLine
pub mod Feeds
pub mod Fits
pub mod Seats
pub mod Steps
