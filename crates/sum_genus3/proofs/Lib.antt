pub mod Chains
pub mod Ends
pub mod Made
pub mod Main
