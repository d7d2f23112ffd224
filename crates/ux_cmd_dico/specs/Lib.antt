pub mod Dico
