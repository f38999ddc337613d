pub mod Pages
pub mod Made
pub mod Prepared
pub mod Progress
pub mod Chains
pub mod Steady
pub mod Comparing
pub mod Alike
