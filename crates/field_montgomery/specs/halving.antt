pub mod Almost
