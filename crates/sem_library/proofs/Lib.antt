pub mod MethodsSpelling
pub mod LsbModuli
pub mod LsbStarts
pub mod MethodsLasts
pub mod CrcRegisters
pub mod MethodsSolutions
