pub mod Read
pub mod write
