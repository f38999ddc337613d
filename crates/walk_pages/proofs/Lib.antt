pub mod Judged
pub mod Drafting
pub mod Ending
pub mod NumbersShown
pub mod Telling
mod Leaving
pub mod Going
