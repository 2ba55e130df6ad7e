pub mod Homes
pub mod Kinds
pub mod Laws
pub mod Steps
pub mod Walk
pub mod Writes
