pub mod Choices
pub mod Cleaning
pub mod Homes
pub mod Soundness
