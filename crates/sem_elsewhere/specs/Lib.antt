pub mod Uses
pub mod Listed
pub mod Laws
pub mod Runs
pub mod Robust
pub mod Paths
pub mod Covering
pub mod Held
