pub mod Ages
pub mod Outliving
