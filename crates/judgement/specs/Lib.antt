pub mod Regions
pub mod Verdicts
pub mod Balance
pub mod Reserve
pub mod WithoutBicarbonate
pub mod Less
pub mod Answers
pub mod Cases
