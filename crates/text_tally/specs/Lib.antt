pub mod Read
pub mod Tallied
pub mod census
