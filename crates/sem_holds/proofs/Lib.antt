pub mod ShapeLemmas
pub mod LevelsFit
pub mod LevelsFields
pub mod LevelsAlike
pub mod NumbersSeeing
