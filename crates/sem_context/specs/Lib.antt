pub mod Entries
pub mod Placing
pub mod Path
pub mod Text
