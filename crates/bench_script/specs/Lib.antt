pub mod BenchScript
pub mod Pieces
