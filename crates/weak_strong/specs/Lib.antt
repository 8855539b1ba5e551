pub mod Marks
pub mod Places
pub mod Rules
pub mod Walking
