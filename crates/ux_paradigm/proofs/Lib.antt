mod Examples
pub mod KeptLemmas
pub mod LineLemmas
pub mod Locality
pub mod OrderLemmas
pub mod PrintingLemmas
pub mod StrokeLemmas
