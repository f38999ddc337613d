pub mod Crc
pub mod Methods
