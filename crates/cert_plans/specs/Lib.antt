pub mod Few
pub mod Knowing
pub mod Needing
pub mod Faults
pub mod Listed
pub mod Judging
pub mod Laws
