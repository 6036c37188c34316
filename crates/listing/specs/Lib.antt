pub mod Rows
pub mod FileText
pub mod Reports
pub mod PrintedDemand3
