pub mod Marking
pub mod CallsWork
pub mod CallsRanks
pub mod OrderPushing
pub mod OrderBackward
pub mod Ordered
pub mod MeasuresFilling
pub mod Measuring
