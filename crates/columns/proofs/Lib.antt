pub mod PageLineLaws
pub mod ColumnLaws
pub mod ExampleLine
