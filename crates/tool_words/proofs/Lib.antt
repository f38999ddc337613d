pub mod WordsLemmas
pub mod WordsRead
pub mod WordsNumbers
