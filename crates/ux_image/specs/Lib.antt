pub mod Pieces
pub mod Codes
pub mod Cutting
pub mod Contents
pub mod Grouping
pub mod Layout
pub mod Images
pub mod Lent
