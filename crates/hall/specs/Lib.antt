-- what a reader must believe
pub mod Hall
pub mod Table
-- what the code's own functions do and ask, which no entry point's promise names
pub mod Same
pub mod Calls
