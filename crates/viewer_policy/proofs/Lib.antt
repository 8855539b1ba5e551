pub mod Records
pub mod Edges
pub mod Denials
pub mod Rules
