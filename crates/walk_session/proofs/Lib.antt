mod Writing
mod Values
mod Bounds
mod Steps
mod PagesKept
mod ReadingBack
mod ReadingHeld
pub mod Crossing
pub mod Packing
