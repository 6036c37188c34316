pub mod TwoBytes
