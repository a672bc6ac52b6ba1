-- The laws of the plan's specs/ that no function's proof needs.
pub mod ConnectedLaws
pub mod RowLaws
pub mod VisibleLaws
pub mod SpanLaws
pub mod SideSpanLaws
pub mod PlanLaws
pub mod CallParts
pub mod Determined
pub mod Cases
