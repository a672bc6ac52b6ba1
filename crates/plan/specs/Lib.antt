-- what a reader must believe
pub mod Owners
pub mod Lists
pub mod Spans
pub mod LentSpans
pub mod Plan
-- what the code's own functions do and ask, which no entry point's promise names
pub mod OwnerWalk
pub mod RowLists
pub mod Entries
pub mod VisibleWalk
pub mod SpanWalk
pub mod RoomCheck
pub mod ColumnLists
