pub mod Leading
pub mod PartIndexes
pub mod NetTables
pub mod Likely
pub mod TextBases
pub mod TextCharts
