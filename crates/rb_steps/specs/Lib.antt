pub mod StepLaws
pub mod Steps
