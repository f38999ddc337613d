pub mod Faults
pub mod Tables
pub mod Equations
pub mod Signature
pub mod Judged
pub mod Calling
