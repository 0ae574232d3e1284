pub mod Counted
pub mod Folds
pub mod Multiplying
