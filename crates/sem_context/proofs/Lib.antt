pub mod EntriesOverrides
pub mod TextLines
pub mod Paths
pub mod EntriesReadings
mod EntriesInOrder
mod PlacingPaths
mod PlacingMissing
mod Ends
