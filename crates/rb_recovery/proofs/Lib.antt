pub mod Headers
pub mod Listed
pub mod Opened
pub mod Rolled
pub mod Sound
