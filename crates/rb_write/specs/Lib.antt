pub mod Asks
pub mod Holding
pub mod Making
pub mod Refusals
