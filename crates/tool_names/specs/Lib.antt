pub mod Candidates
pub mod CheckFaults
pub mod Names
pub mod Objects
pub mod Obstacles
pub mod Table
