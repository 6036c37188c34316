pub mod TextLengths
pub mod Decimal
pub mod Line
pub mod Listing
pub mod RefusalLine
pub mod TextAnswer
pub mod Words
pub mod Marks
