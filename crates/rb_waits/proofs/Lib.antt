pub mod Counts
pub mod Rings
pub mod Turns
pub mod Waiting
