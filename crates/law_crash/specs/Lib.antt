pub mod Between
pub mod Crash
pub mod Holds
pub mod ImageLaws
pub mod Images
pub mod Keeps
pub mod Made
