pub mod FrontsChanged
pub mod JoinedSpelling
pub mod JoinedParts
pub mod SidesGained
pub mod JoinedKept
pub mod LevelAsked
pub mod LevelHeld
pub mod FillingMaking
pub mod FrontsAdvancing
mod LevelOthers
mod Sighted
pub mod FindingShown
pub mod FindingGaining
pub mod FindingRuled
pub mod FindingMeasures
pub mod MethodsFound
pub mod FindingSides
pub mod FindingNarrow
pub mod FindingRemaining
pub mod FindingEquations
pub mod LibraryChecksums
pub mod FindingValued
pub mod CallsFilled
