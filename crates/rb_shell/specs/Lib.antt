pub mod Generation
pub mod Left
pub mod NewBooks
pub mod Over
pub mod Runs
pub mod Statuses
pub mod Steps
