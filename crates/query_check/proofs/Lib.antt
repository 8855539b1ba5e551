pub mod Faults
pub mod Operands
pub mod SeenLemmas
pub mod Declares
pub mod Columns
pub mod Places
pub mod Worked
