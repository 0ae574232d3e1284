pub mod Search
pub mod Descent
pub mod Formula
