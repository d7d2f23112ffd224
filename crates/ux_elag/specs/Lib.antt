pub mod Codes
pub mod Left
pub mod Numbering
pub mod Numbers
pub mod Prepared
pub mod Ready
