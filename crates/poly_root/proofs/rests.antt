pub mod Times
pub mod Raising
