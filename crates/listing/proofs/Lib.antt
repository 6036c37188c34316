pub mod RowLaws
pub mod Demand3Laws
pub mod FileWrittenLaws
pub mod ListLaws
pub mod ReportLaws
