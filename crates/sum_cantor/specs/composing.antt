pub mod Pairs
pub mod Cofactors
pub mod Composing
