pub mod Products
pub mod Parts
