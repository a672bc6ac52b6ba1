-- The laws of specs/.
pub mod TermLaws
pub mod SpanTerms
pub mod PlanTerms
pub mod OrderLaws
pub mod OrderTerms
pub mod PlanPasses
pub mod Demand3
pub mod StepLaws
pub mod OperatorLaws
pub mod TellLaws
pub mod Calls
pub mod Carried
pub mod Closing
pub mod Hall
pub mod HallCalls
