pub mod Places
pub mod Images
pub mod Laws
pub mod Seen
pub mod MemFile
