pub mod Cleaning
pub mod Copies
pub mod Grouped
pub mod Looking
pub mod Plain
