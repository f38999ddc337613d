pub mod Faults
pub mod Kinds
pub mod Laws
pub mod Lexical
pub mod Names
pub mod Places
pub mod Scan
