mod AnyTrees
mod FirstKeys
mod FoundLists
pub mod FoundRanked
mod Groups
mod HitKeys
mod HitLists
pub mod HitsWithin
mod KeptRanked
mod KeptMeant
mod MeantJoins
mod MeantLists
mod MeantNodes
mod MeantPrefixes
pub mod MeantShards
mod MeantTerms
mod OperandMarks
mod Places
mod PostingLists
mod PrefixTrees
mod Quotas
pub mod RankedShards
mod ReachedLists
mod ReadOn
pub mod ResolvedNodes
mod Runs
mod SmallJoins
mod SourceLists
pub mod TreeLineages
mod TreeRows
