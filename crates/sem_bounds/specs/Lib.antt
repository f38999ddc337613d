pub mod Weights
pub mod Magnitude
pub mod Glance
pub mod Callers
pub mod Constants
