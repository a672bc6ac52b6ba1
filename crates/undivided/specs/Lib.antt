-- what a reader must believe
pub mod Undivided
pub mod Plain
