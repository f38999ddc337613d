pub mod Sending
pub mod Answers
pub mod Lacks
pub mod Laws
