pub mod Pages
pub mod PagesDemand3
