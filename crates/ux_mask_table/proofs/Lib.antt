pub mod SpansLemmas
pub mod NetMasksLemmas
pub mod RowsLemmas
pub mod MaskTableLemmas
pub mod MaskedTextLemmas
pub mod AloneLemmas
pub mod KnownLabels
