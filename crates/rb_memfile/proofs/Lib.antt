pub mod Marking
pub mod Results
