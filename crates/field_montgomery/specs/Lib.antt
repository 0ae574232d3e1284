pub mod Back
pub mod Constants
pub mod Powers
pub mod halving
