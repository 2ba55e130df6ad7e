pub mod Acknowledged
pub mod BookLemmas
pub mod DeadLemmas
mod Worked
mod WorkedBooks
mod WorkedCalls
mod WorkedDead
mod WorkedKeys
mod WorkedModes
mod WorkedQueues
mod WorkedTests
pub mod Given
pub mod KeyLemmas
pub mod Order
pub mod RowLemmas
pub mod Stops
pub mod UsedKeys
pub mod Values
