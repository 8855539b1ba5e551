pub mod FirstHits
mod Merging
mod RackHits
mod Runs
