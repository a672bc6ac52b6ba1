-- To be believed. The built-in hall's tables, and what its calls are lent. Assumes nothing.
use Rattle.std.specs.Prelude.{false, List, [], ◌∷◌, ℕ, pos, negsuc, replicate, Float}
use Rattle.std.specs.Float.{binary64}
use Rattle.std.specs.Float.Ieee.{of_int, of_bits}
use Rattle.columns.specs.Columns.{Columns, columns_of}
use Rattle.blocks.specs.Claims.{mark}
use Rattle.plan.specs.Lists.{Listed}
use Rattle.plan.specs.Spans.{Spread}
use Rattle.plan.specs.Plan.{Buffers, buffers}
use Rattle.products.specs.Orders.{Swept, sweep_of}
use Rattle.products.specs.Operator.{Operands, Work}

-- whole numbers as floats: n, and -(n + 1)
abbrev pub f : ℕ → Float
f n = of_int binary64 (pos n)

abbrev pub minus : ℕ → Float
minus n = of_int binary64 (negsuc n)

-- 0.5 and 0.25
abbrev pub half : Float
half = of_bits binary64 0x3FE0_0000_0000_0000

abbrev pub quarter : Float
quarter = of_bits binary64 0x3FD0_0000_0000_0000

-- five rows; column 0 has four entries, columns 1 and 2 two each
abbrev pub columns_with : List ℕ → Columns
columns_with rows = columns_of 5 (0 ∷ 4 ∷ 6 ∷ 8 ∷ []) rows (f 1 ∷ f 2 ∷ f 3 ∷ f 4 ∷ f 1 ∷ f 1 ∷ f 2 ∷ f 1 ∷ [])

abbrev pub hall : Columns
hall = columns_with (0 ∷ 1 ∷ 3 ∷ 4 ∷ 0 ∷ 1 ∷ 3 ∷ 4 ∷ [])

-- case 6: column 2 moved to rows 1 and 4
abbrev pub moved : Columns
moved = columns_with (0 ∷ 1 ∷ 3 ∷ 4 ∷ 0 ∷ 1 ∷ 1 ∷ 4 ∷ [])

-- case 8: column 0 at rows 0, 1, 1, 4
abbrev pub repeated : Columns
repeated = columns_with (0 ∷ 1 ∷ 1 ∷ 4 ∷ 0 ∷ 1 ∷ 3 ∷ 4 ∷ [])

abbrev pub kept : List ℕ
kept = 0 ∷ 1 ∷ []

abbrev pub elims : List ℕ
elims = 1 ∷ 1 ∷ 2 ∷ 1 ∷ []

-- case 1: each row's owner; each eliminated block's rows, and where each block's begin; the eliminated blocks that the kept one sees
abbrev pub owners : List ℕ
owners = 0 ∷ 0 ∷ mark ∷ 1 ∷ 1 ∷ []

abbrev pub row_lists : Listed
row_lists = record { list = 0 ∷ 1 ∷ 3 ∷ 4 ∷ []; starts = 0 ∷ 2 ∷ 4 ∷ [] }

abbrev pub visible : Listed
visible = record { list = 0 ∷ 1 ∷ []; starts = 0 ∷ 2 ∷ [] }

-- case 2's spans, in chunks of two rows: one of either side in each
abbrev pub kept_lists : Spread
kept_lists = record { starts = 0 ∷ 1 ∷ 2 ∷ 3 ∷ []; lo = 0 ∷ 2 ∷ 3 ∷ []; hi = 2 ∷ 3 ∷ 4 ∷ []; local = 0 ∷ 0 ∷ 0 ∷ [] }

abbrev pub elims_lists : Spread
elims_lists = record { starts = 0 ∷ 1 ∷ 2 ∷ 3 ∷ []; lo = 4 ∷ 6 ∷ 7 ∷ []; hi = 6 ∷ 7 ∷ 8 ∷ []; local = 0 ∷ 1 ∷ 1 ∷ [] }

-- case 3: v, the rows after the kept sweep, t, u, and the rows at the end
abbrev pub v : List Float
v = f 2 ∷ []

abbrev pub first_rows_of : List Float
first_rows_of = f 2 ∷ f 4 ∷ f 0 ∷ f 6 ∷ f 8 ∷ []

abbrev pub t : List Float
t = f 6 ∷ f 20 ∷ []

abbrev pub u : List Float
u = f 3 ∷ f 5 ∷ []

abbrev pub last_rows : List Float
last_rows = minus 0 ∷ f 1 ∷ f 0 ∷ minus 3 ∷ f 3 ∷ []

-- what the operator is lent, with a damping
abbrev pub operands : List Float → Operands
operands d = record { v = v; inverses = half ∷ quarter ∷ []; d = d; kept = kept_lists; elims = elims_lists }

-- ---- buffers of just the room that is needed, which hold 7 before a call

abbrev pub unused_map : List ℕ
unused_map = replicate 3 7

abbrev pub unused_rows : List Float
unused_rows = replicate 5 (f 7)

abbrev pub unused_progress : List ℕ
unused_progress = replicate 3 7

abbrev pub unused_buffers : Buffers
unused_buffers =
    buffers unused_map (replicate 3 7) (replicate 3 7) (replicate 3 7) (replicate 5 7)
    (replicate 5 7) (replicate 3 7) (replicate 8 7) (replicate 2 7)
    (replicate 4 7) (replicate 8 7) (replicate 8 7) (replicate 8 7)
    (replicate 4 7) (replicate 8 7) (replicate 8 7) (replicate 8 7)

abbrev pub unused_work : Work
unused_work = record { rows = unused_rows; t = replicate 2 (f 7); u = replicate 2 (f 7); out = replicate 1 (f 7) }

-- the kept sweep of v along an order
abbrev pub swept_along : List ℕ → Swept
swept_along order = sweep_of false hall kept elims 2 unused_map v kept_lists unused_rows unused_progress order
