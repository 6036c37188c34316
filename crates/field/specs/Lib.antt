pub mod Kind
pub mod Field
pub mod Clean
