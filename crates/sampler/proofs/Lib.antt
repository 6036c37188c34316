pub mod QuotientLaws
pub mod BitsLaws
pub mod ConcentrationLaws
pub mod MonthLaws
pub mod YearLaws
pub mod FirstMonthLaws
pub mod SampleLaws
pub mod Cases
