pub mod Words
pub mod Seeing
pub mod Reading
pub mod Levels
pub mod Pages
pub mod CodedSides
pub mod InOrder
pub mod Leaving
pub mod Growing
mod Preparing
mod Standing
mod Comparing
mod Chaining
pub mod Settled
pub mod Steadying
mod Calling
pub mod Ordered
