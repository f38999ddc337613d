pub mod Lines
pub mod Hearing
pub mod States
pub mod Laws
pub mod Steps
pub mod Runs
pub mod Pages
