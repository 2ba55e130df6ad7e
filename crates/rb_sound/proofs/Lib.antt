pub mod Chains
pub mod EmptyHomes
pub mod Fresh
pub mod Keys
pub mod Short
pub mod Together
