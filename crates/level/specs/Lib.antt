pub mod SiteLevel
pub mod Cases
