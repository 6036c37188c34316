pub mod Output
pub mod Writing
