-- what a reader must believe
pub mod Refusals
pub mod Lengths
pub mod Columns
pub mod Lent
pub mod Sums
pub mod JacobianOps
-- what the code's own functions do and ask, which no entry point's promise names
pub mod Unchecked
pub mod Rises
pub mod Reader
