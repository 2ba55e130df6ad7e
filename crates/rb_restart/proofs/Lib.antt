pub mod Joined
pub mod Slots
pub mod Marks
pub mod Backs
pub mod Stepped
pub mod Ends
pub mod SlotEnded
pub mod Whole
