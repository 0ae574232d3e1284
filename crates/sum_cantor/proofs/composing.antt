pub mod Cofactors
pub mod Slopes
pub mod Joining
