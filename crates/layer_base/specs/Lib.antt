pub mod Layers
pub mod Changes
pub mod Shared
pub mod Lookups
pub mod Among
