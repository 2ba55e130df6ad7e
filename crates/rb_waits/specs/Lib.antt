pub mod Room
pub mod Waiters
