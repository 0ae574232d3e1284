pub mod Flattened
pub mod OneAnswer
pub mod FlatScans
pub mod PoleList
