-- The code's own. What the self-check's comparisons answer. Assumes nothing.
use Rattle.std.specs.Prelude.{Bool, ◌&&◌, eqb, List, length, get_or, Float, to_bits}
use Rattle.std.specs.Float.{binary64}
use Rattle.std.specs.List.{list_all, zip}
use Rattle.columns.specs.Refusals.{Told}
use Rattle.hall.specs.declared.same.Numbers.{Numbers}

-- two lists of floats have the same bit pattern, of which every NaN has one, at each place that both have
abbrev pub agree : List Float → List Float → Bool
agree xs ys = list_all (λ p. eqb (to_bits binary64 p.0) (to_bits binary64 p.1)) (zip xs ys)

-- and are as long
abbrev pub same_floats : List Float → List Float → Bool
same_floats xs ys = eqb (length xs) (length ys) && agree xs ys

-- what is told as numbers: the number, how many values there are, and two of them
abbrev pub numbers_of : Told → Numbers
numbers_of t = record { number = t.number; count = length t.values; first = get_or t.values 0 0; second = get_or t.values 1 0 }
