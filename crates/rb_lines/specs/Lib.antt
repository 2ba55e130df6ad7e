pub mod Cut
pub mod Ends
pub mod Faults
pub mod Pieces
pub mod Ran
pub mod Whole
