mod Additions
mod Apart
mod Compared
mod DocKeys
pub mod EndLaws
mod Endings
mod Entries
pub mod Exact
mod Filters
mod Gathered
pub mod Gone
pub mod GraphAdded
pub mod GraphChanged
pub mod GraphCopied
pub mod GraphEdges
pub mod GraphEndings
pub mod GraphEnds
pub mod GraphEntities
pub mod GraphGrown
pub mod GraphLed
pub mod GraphLists
pub mod GraphNames
pub mod GraphOrdered
pub mod GraphPlaces
pub mod GraphSettled
pub mod GraphSources
pub mod GraphWalks
mod InOrder
mod Inserted
pub mod Kept
mod Keys
mod Leaving
pub mod Listed
pub mod Noted
mod Permuted
mod PickedInOrder
mod PickedParts
mod Placed
pub mod Published
mod Ranges
mod RankedIn
mod Reached
mod Results
mod ShardEdges
pub mod Sharded
mod SideBySide
pub mod SourceLists
mod SourceOrder
mod Starts
pub mod Steps
mod Targets
mod TargetsOf
pub mod TouchLaws
pub mod TouchedRows
mod Touching
pub mod WalkedOnce
