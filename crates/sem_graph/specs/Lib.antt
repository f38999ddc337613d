pub mod Calls
pub mod Order
pub mod Measures
pub mod Sort
