pub mod Totals
pub mod Calls
mod Places
