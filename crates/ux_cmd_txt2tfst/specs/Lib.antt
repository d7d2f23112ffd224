pub mod Tfst
