pub mod Chains
pub mod Compared
pub mod Counted
pub mod Inserted
pub mod Ordered
pub mod Picked
pub mod Places
