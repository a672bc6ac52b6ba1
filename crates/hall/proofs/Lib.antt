-- The one theorem over the hall's table, and what the self-check's proofs share.
pub mod HallTable
mod CaseRules
mod Determined
