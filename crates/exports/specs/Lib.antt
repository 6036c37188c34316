pub mod Lent
pub mod Target
pub mod Codes
pub mod Numbers
pub mod Layout
pub mod Samples
