pub mod Messages
pub mod MessageObjects
pub mod Entries
pub mod Lines
pub mod Drawing
