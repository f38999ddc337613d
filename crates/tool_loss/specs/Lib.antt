pub mod Loss
pub mod LossObjects
pub mod Told
pub mod Reach
pub mod Step
