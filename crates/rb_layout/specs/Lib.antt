pub mod Fresh
pub mod Kinds
pub mod OneLayout
pub mod Ranges
pub mod Regions
