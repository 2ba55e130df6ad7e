pub mod StreamModel
pub mod FaultPlan
pub mod MemoryModel
pub mod StandardModel
