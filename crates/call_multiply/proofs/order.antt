pub mod Folds
pub mod Orders
