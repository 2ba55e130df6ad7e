pub mod Faults
pub mod FileDisk
pub mod Folders
pub mod Keeps
pub mod Rests
pub mod Unsynced
