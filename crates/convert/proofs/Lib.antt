pub mod MovedLaws
pub mod ConvertedLaws
pub mod FieldStarts
pub mod SameRecordsLaws
pub mod FaultLaws
pub mod ConvertLaws
pub mod ExampleConverted
