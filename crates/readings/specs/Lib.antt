pub mod MonthBytes
