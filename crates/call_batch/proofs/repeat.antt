pub mod Hashes
pub mod Chains
pub mod Listed
pub mod Calls
