pub mod NetMasks
pub mod Spans
pub mod MaskTables
pub mod MaskedTexts
