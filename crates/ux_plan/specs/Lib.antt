pub mod Commands
pub mod FileNames
pub mod Laws
pub mod Plans
pub mod Stopping
