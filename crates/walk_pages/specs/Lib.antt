pub mod Drafts
pub mod Reader
pub mod Writer
pub mod Picks
pub mod Kept
