pub mod ImageFiles
