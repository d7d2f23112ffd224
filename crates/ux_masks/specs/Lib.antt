pub mod Equal
pub mod Meets
pub mod Names
pub mod Pieces
pub mod Reading
pub mod Signs
pub mod Texts
