pub mod Inverted
pub mod Joined
