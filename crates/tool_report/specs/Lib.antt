pub mod Accepting
pub mod Explained
pub mod ProfileLines
pub mod Prove
pub mod Reports
pub mod Surveys
