pub mod Paths
pub mod Checking
pub mod Rules
pub mod Components
pub mod Grouping
pub mod Marking
pub mod EdgeRules
