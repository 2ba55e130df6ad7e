pub mod Chosen
pub mod Counted
pub mod Greatest
pub mod Patched
pub mod Places
