pub mod Begun
pub mod Choices
pub mod Cleaned
pub mod Finding
pub mod FullHomes
pub mod Homes
pub mod Presence
pub mod Since
pub mod Sites
pub mod Slots
pub mod StoodBlocks
pub mod Sums
pub mod Told
pub mod Trees
pub mod Verdicts
mod Worked
