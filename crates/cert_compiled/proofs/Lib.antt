mod Growing
pub mod Looking
mod Telling
