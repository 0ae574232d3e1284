pub mod Scans
pub mod flat
pub mod lent
