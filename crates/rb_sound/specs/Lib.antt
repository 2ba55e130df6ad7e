pub mod Active
pub mod Empty
pub mod Sound
