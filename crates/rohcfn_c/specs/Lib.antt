pub mod CallAnswer
pub mod Lines
pub mod Opening
pub mod Steps
pub mod Calls
pub mod Held
