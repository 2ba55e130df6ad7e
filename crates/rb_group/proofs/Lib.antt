mod Reading
pub mod Spelling
mod Writing
