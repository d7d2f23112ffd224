pub mod Spans
pub mod Tables
pub mod Kept
pub mod Words
pub mod Belonging
pub mod Accepting
pub mod Digits
pub mod Ends
