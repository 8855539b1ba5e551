pub mod Plan
pub mod Typing
pub mod Verticals
pub mod Laws
pub mod Examples
