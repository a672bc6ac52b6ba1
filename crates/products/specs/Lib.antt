-- what a reader must believe
pub mod SideSums
pub mod Couplings
pub mod Orders
pub mod Side
pub mod Operator
-- what the code's own functions do and ask, which no entry point's promise names
pub mod SideFits
pub mod LentCalls
pub mod PlanCheck
pub mod OrderWalk
pub mod SweepCheck
pub mod OperatorCalls
