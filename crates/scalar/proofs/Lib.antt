pub mod Bytes
pub mod Counting
pub mod Recoding
pub mod Upper
