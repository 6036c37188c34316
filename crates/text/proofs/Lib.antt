pub mod DecimalLaws
pub mod LineLaws
pub mod TextAnswers
pub mod WordLaws
pub mod MarkLaws
