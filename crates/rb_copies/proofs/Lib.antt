pub mod Keys
pub mod Lists
pub mod Scanning
pub mod Uses
