pub mod CallLemmas
pub mod ResumeLemmas
