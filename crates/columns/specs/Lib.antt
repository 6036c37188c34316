pub mod PageLine
pub mod LineRead
