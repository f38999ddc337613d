pub mod Reception
pub mod Uses
pub mod Unserved
pub mod Journal
pub mod Scores
pub mod Laws
pub mod Losses
