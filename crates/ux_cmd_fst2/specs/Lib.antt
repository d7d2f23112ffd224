pub mod Fst2
