-- The laws of the products' specs/ that no function's proof needs.
pub mod UpdateLaws
pub mod StepLaws
pub mod CallParts
pub mod SweepCarried
pub mod Determined
pub mod DeterminedOrder
pub mod DeterminedOperator
pub mod Cases
