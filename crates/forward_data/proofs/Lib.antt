pub mod Newest
pub mod Order
pub mod Combined
pub mod Based
