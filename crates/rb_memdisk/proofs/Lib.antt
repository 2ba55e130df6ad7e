pub mod Steps
pub mod Picking
