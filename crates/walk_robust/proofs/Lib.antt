pub mod Comings
pub mod Staying
pub mod Searches
pub mod Sparing
pub mod Going
pub mod Harmless
pub mod Lackings
pub mod Resetting
