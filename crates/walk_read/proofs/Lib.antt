pub mod WalkOffsets
pub mod TakeNarrow
pub mod TakeLemmas
pub mod TakeSpelled
pub mod PlansPicking
pub mod WalkSharing
pub mod WalkingUnder
pub mod WalkingInside
