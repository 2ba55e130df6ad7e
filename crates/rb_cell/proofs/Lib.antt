mod Writing
pub mod CellBytes
pub mod Lengths
