pub mod Asked
pub mod Top
pub mod Reading
pub mod Writing
pub mod Searching
pub mod Laws
pub mod Sending
