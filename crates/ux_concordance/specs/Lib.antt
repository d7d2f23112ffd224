pub mod Concordance
pub mod Contexts
pub mod Lent
pub mod Widths
pub mod Ends
