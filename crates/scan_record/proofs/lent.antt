pub mod OneAnswer
pub mod PoleList
