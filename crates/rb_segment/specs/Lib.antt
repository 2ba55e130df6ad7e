pub mod Books
pub mod Calls
pub mod Header
pub mod MoveLaws
pub mod Moves
pub mod Running
pub mod Segments
