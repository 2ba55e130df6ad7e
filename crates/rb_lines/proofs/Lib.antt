pub mod Cuts
pub mod Dids
pub mod Outs
pub mod Parts
pub mod Pieces
pub mod Runs
