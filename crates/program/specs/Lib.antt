pub mod Reads
pub mod Printing
