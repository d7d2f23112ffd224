pub mod Numbers
pub mod Layout
pub mod Tests
pub mod Visit
pub mod Fronts
pub mod Reading
pub mod Visiting
