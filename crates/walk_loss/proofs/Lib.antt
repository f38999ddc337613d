pub mod Elsewhere
pub mod Losing
pub mod Verdicts
pub mod Unserving
pub mod Walking
pub mod Journals
