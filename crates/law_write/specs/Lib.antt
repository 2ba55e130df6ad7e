pub mod Chosen
pub mod Stood
pub mod Verdict
pub mod VerdictLaws
