pub mod CachedFiles
pub mod Formats
pub mod Meaning
pub mod Openings
pub mod Patched
pub mod Scanned
pub mod StoreLaws
pub mod StoreStates
