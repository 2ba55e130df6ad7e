mod Calls
pub mod Cleaned
mod Done
pub mod Finishing
pub mod Firsts
mod Found
pub mod HolderWords
mod HomeWords
pub mod LeftOwn
mod Logged
pub mod May
mod OneBack
pub mod Owed
mod Refused
pub mod Somewhere
mod StepBack
pub mod Still
mod Told
mod WriterWords
mod Writers
pub mod Young
