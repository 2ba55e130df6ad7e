pub mod Spaced
pub mod Fields
pub mod Spellings
