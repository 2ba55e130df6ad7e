pub mod Looks
pub mod Writers
pub mod Choices
pub mod Headers
pub mod Held
pub mod Causes
pub mod Written
pub mod Rows
