pub mod ObstaclesFitting
pub mod ObstaclesDead
pub mod LengthsFirst
pub mod NeverApart
pub mod UndefinedValueless
pub mod LengthsKnown
pub mod DemandsUnmet
pub mod BracketsEmpty
pub mod SplitLengths
pub mod ObstaclesStanding
pub mod MarksLifeless
pub mod Listed
mod PathsLeading
mod SitesGrowing
mod SpelledNear
mod SpelledOwners
mod EntriesListed
mod NeedsGrowing
mod NeedsAdding
mod NeedsComplete
mod NeedsTelling
mod NeedsLacking
mod UnlikeSilent
mod UnnoticedReaching
mod UnnoticedAlone
pub mod ColumnsStanding
