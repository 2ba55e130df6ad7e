pub mod Laws
pub mod Rolled
