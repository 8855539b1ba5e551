mod Drawing
pub mod Joined
pub mod Pieces
