pub mod DrawLemmas
pub mod WarningsLemmas
pub mod MeantLines
