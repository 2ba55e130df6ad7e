pub mod Calls
pub mod Evictions
pub mod Frames
pub mod OnDisk
pub mod Slots
