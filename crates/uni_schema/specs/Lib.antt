pub mod Examples
pub mod Header
pub mod HeaderText
pub mod Lines
pub mod Print
pub mod Refusals
pub mod Rules
pub mod Schema
