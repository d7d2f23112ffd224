pub mod ByteSteps
pub mod ImageFileLaws
