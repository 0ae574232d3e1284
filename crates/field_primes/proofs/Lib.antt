pub mod Wheel
pub mod Trial
pub mod Decide
