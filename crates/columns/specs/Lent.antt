-- To be believed. Columns as a call is lent them. Assumes nothing.
use Rattle.std.specs.Prelude.{ℕ}
use Rattle.columns.specs.declared.lent.Columns as lent
use Rattle.columns.specs.Columns.{Columns, columns_of}

-- what a call sees of them
abbrev pub seen : lent.Columns → Columns
seen c = columns_of c.nrows c.ptrs.now c.rows.now c.values.now

-- the same entries over n rows: what a function does that goes by the length of the rows that it is lent, and asks for no row count
abbrev pub over : ℕ → lent.Columns → Columns
over n c = columns_of n c.ptrs.now c.rows.now c.values.now
