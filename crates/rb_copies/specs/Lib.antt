pub mod Caches
pub mod Copies
