pub mod OctetsHeld
pub mod CandidatesCapped
pub mod TableLists
pub mod TableBlanks
