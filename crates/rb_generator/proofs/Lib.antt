pub mod AnsweredLemmas
pub mod CountLemmas
pub mod DrawLemmas
mod Worked
