-- what a reader must believe
pub mod Sides
pub mod BlockList
pub mod Claims
pub mod Damping
pub mod Lookups
pub mod Access
pub mod BlockValues
-- what the code's own functions do and ask, which no entry point's promise names
pub mod Walk
