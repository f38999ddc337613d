pub mod Draw
pub mod Lint
pub mod Warnings
pub mod Meant
