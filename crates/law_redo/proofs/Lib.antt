pub mod Rolling
pub mod OneAfter
pub mod Heads
