pub mod SiteLevelLaws
pub mod Cases
