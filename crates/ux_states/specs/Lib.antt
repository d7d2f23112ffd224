pub mod Met
pub mod Building
