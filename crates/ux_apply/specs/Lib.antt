pub mod Names
pub mod Applying
pub mod Cursors
pub mod Applied
pub mod Kept
pub mod Unknown
