pub mod DiskModel
pub mod Moments
pub mod Ranges
pub mod Writes
