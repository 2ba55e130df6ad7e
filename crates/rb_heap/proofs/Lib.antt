pub mod Blocks
pub mod Chosen
pub mod Fresh
pub mod Lengths
pub mod Patching
pub mod Ranges
pub mod Reading
pub mod Seen
