pub mod Rollback
pub mod Steps
