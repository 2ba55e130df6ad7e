pub mod Fits
pub mod Made
pub mod Resumes
pub mod Since
