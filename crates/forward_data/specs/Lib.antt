pub mod Combined
pub mod Records
