pub mod Refusing
pub mod Construct
pub mod Chains
pub mod Ranks
pub mod Compiling
