-- The laws of specs/. The layers above cite SideLaws, PartLaws, MapLaws, MarkLaws, LookupLaws, AccessLaws, DampingLaws and ValueLaws; the others serve the
-- proofs of the functions.
pub mod PlaceLaws
pub mod SideLaws
pub mod BlockListLaws
pub mod WalkRules
pub mod WalkLaws
pub mod CallRules
pub mod PartLaws
pub mod MapLaws
pub mod MarkLaws
pub mod DampingRules
pub mod DampingLaws
pub mod LookupRules
pub mod LookupLaws
pub mod LookupMap
pub mod AccessRules
pub mod AccessLaws
pub mod ValueRules
pub mod ValueCalls
pub mod ValueLaws
pub mod Cases
pub mod PartCases
pub mod Determined
pub mod DeterminedParts
