pub mod Bounds
pub mod Inputs
pub mod Known
pub mod Laws
pub mod Ranged
pub mod Rules
pub mod Spread
pub mod Values
