pub mod Answered
pub mod Counted
pub mod Draws
pub mod Ends
pub mod Summary
