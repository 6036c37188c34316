pub mod PrintingLaws
pub mod ReaderLaws
pub mod KnownLaws
