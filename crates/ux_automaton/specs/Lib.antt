pub mod Fronts
pub mod Steps
pub mod Targets
pub mod Landings
pub mod Onwards
pub mod Caches
pub mod FrontIndexes
pub mod Kept
