pub mod All
pub mod TakenLaws
pub mod TabulateLaws
pub mod EntryLaws
pub mod FieldValueLaws
pub mod KindLaws
pub mod TagLaws
pub mod SameLaws
