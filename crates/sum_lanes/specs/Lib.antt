pub mod Lanes
pub mod openings
