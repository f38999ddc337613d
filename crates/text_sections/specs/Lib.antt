pub mod Mentions
pub mod Tables
pub mod Causes
pub mod Sections
pub mod Names
pub mod Fields
pub mod Marks
