pub mod Above
pub mod Squares
pub mod Rests
pub mod Contains
pub mod Quotients
