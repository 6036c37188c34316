pub mod WritingLaws
pub mod EachLaws
pub mod OutputLaws
