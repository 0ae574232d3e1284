pub mod Listed
pub mod Accepted
