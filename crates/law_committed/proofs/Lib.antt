pub mod Cells
pub mod Chains
pub mod Files
pub mod Numbers
pub mod Same
