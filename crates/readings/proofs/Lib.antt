pub mod FloatByteLaws
pub mod MadeLaws
