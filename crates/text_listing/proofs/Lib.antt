pub mod KnownWalks
pub mod PlacesSteps
pub mod PlainParts
