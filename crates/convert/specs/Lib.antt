pub mod Target
pub mod Moved
pub mod Converted
pub mod SameRecords
