-- To be believed. The two sides as the code names them. Assumes nothing.
use Rattle.std.specs.Prelude.{ℕ, Bool, true, false, cond}
use Rattle.columns.specs.declared.refusal.Side.{Side}
use Rattle.columns.specs.declared.refusal.Side.TheVariants.{Kept, Eliminated}

-- which side it is: false kept, true eliminated
abbrev pub eliminated : Side → Bool
eliminated Kept = false
eliminated Eliminated = true

-- the number that a refusal gives it
abbrev pub side_number : Bool → ℕ
side_number e = cond e 1 0
