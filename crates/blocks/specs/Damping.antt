-- To be believed. Damping: its terms, and refusal 12. Assumes nothing.
use Rattle.std.specs.Prelude.{Bool, ◌||◌, cond, List, [], ◌∷◌, Float, pos}
use Rattle.std.specs.Float.{binary64}
use Rattle.std.specs.Float.Ieee.{mul, lt, is_nan, of_int}
use Rattle.columns.specs.Refusals.{Told, tell, done, refused, on_pass}
use Rattle.blocks.specs.declared.damping.Damping.{Damping}
use Rattle.std.specs.Prelude.{Result, Ok, Err}
use Rattle.columns.specs.declared.refusal.Refusal.{Refusal}

abbrev pub one : Float
one = of_int binary64 (pos 1)

-- lambda with min = max = 1
abbrev pub identity_of : Float → Damping
identity_of lambda = record { lambda = lambda; min = one; max = one }

-- 12: min or max is NaN, or min > max
unfoldable pub bad_damping : Damping → Bool
bad_damping d = is_nan d.min || (is_nan d.max || lt d.max d.min)

unfoldable pub damping_told : Damping → Told
damping_told d = cond (bad_damping d) (tell 12 []) done

-- below min it is min, above max it is max. A NaN is neither and stays, and so does a zero's sign where the zero lies between them
unfoldable pub clamped : Damping → Float → Float
clamped d x = cond (lt x d.min) d.min (cond (lt d.max x) d.max x)

-- lambda times the value clamped
unfoldable pub term_of : Damping → Float → Float
term_of d x = mul binary64 d.lambda (clamped d x)

-- the answer of `diagonal_term`: the term with 0, or the refusal
pub record Termed : Type 0 where
  pub told : Told
  pub terms : List Float

abbrev pub termed : Result Float Refusal → Termed
termed (Ok x) = record { told = done; terms = x ∷ [] }
termed (Err r) = record { told = refused r; terms = [] }

unfoldable pub diagonal_term : Damping → Float → Termed
diagonal_term d x = record { told = damping_told d; terms = on_pass (damping_told d) (term_of d x ∷ []) [] }
