-- The laws of specs/, and what the code's steps show of them.
pub mod SideRules
pub mod InverseRules
pub mod LentRules
pub mod PlanRules
pub mod OrderRules
pub mod SweepRules
pub mod StepRules
pub mod OperatorRules
pub mod OperatorCalls
pub mod SearchRules
