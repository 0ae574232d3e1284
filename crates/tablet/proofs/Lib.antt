pub mod OneAnswer
pub mod Outputs
