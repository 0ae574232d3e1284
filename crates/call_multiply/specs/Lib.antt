pub mod factors
pub mod order
