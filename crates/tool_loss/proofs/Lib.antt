pub mod LossNumbers
