pub mod Compiled
pub mod Offsets
pub mod Single
