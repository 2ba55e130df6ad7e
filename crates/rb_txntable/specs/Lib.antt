pub mod Looks
pub mod Slots
