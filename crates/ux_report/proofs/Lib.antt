pub mod LinesLemmas
pub mod PlacesLemmas
pub mod ReportLemmas
