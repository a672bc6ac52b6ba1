-- The laws of specs/. `pub` are those that the crates above cite.
pub mod RefusalLaws
pub mod CheckLaws
pub mod SumLaws
mod CountLaws
pub mod PartLaws
mod WindowLaws
mod PairWalkLaws
pub mod CallLaws
mod ReaderLaws
mod CheckRules
mod RiseLaws
mod MergeLaws
mod Rules
mod Determined
