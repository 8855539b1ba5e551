mod Kept
mod Sums
