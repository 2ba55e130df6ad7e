pub mod Entries
pub mod Takes
