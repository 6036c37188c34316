pub mod Micrograms
pub mod FloatBits
pub mod MonthRules
pub mod YearPair
pub mod FirstMonth
pub mod SampleAnswers
pub mod Cases
