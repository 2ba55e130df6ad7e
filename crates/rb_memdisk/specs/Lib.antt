pub mod Record
pub mod Replays
pub mod MemDisk
