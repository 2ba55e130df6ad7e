pub mod Homes
mod Moving
mod Sweeps
pub mod Gone
pub mod Leads
pub mod Slots
pub mod Taken
