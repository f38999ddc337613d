pub mod Knowing
pub mod KnowingStarting
pub mod FaultsGivens
pub mod KnowingFollowing
pub mod NeedingUnknown
pub mod FaultsLearning
pub mod Judged
pub mod PlanFaults
