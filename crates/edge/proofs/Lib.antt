pub mod EdgeLaws
pub mod Determined
