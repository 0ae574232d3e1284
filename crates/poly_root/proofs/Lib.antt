pub mod Shifts
pub mod Largest
