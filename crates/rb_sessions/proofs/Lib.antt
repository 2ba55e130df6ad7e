pub mod Cursors
pub mod Places
pub mod Savepoints
pub mod Table
