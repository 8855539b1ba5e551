pub mod Begins
pub mod Combined
mod Cuts
pub mod Exact
pub mod FirstFound
pub mod FirstIsShown
pub mod Firsts
pub mod Homes
pub mod Led
pub mod Light
mod ListStandings
pub mod Members
pub mod PlaceStandings
pub mod PrefixOrder
mod PrefixStandings
pub mod Prefixed
mod Arrivals
mod AtPlaces
pub mod Stands
pub mod SeenNodes
mod SetStandings
pub mod SpelledOut
mod StandingOf
mod TermCuts
pub mod Typed
pub mod Unsharded
mod WalkStandings
mod Walked
mod WalkedShards
