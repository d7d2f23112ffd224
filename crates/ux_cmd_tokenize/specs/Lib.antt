pub mod Tokenize
