pub mod Steps
pub mod Constant
pub mod Common
pub mod Cofactors
pub mod Shares
