pub mod BatchSteps
pub mod HomeSteps
pub mod ImagePut
pub mod Images
pub mod KeptBlocks
pub mod Spares
