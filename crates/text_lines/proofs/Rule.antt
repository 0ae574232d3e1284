pub mod Shown
pub mod Meters
pub mod Files
pub mod Told
pub mod FileNumbers
pub mod Census
