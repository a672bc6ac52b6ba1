-- What damping is worth at the edges: plain damping is never refused, zeros of either sign are limits, and the clamp leaves a NaN and a zero's
-- sign. Assumes nothing.
use mathlib.Core.Path.{◌≡◌, refl}
use mathlib.Core.Bool.{false}
use lib.Ieee.{Float, nan, inf, fin, lt, is_nan, of_bits, of_int, neg}
use Rattle.columns.specs.Refusals.{done}
use Rattle.columns.specs.Sums.{zero₊, zero₋}
use Rattle.blocks.specs.declared.damping.Damping.{Damping}
use Rattle.blocks.specs.Damping.{identity_of, bad_damping, damping_told, clamped}

pub identity_fine : (lambda : Float) → damping_told (identity_of lambda) ≡ done
unfolding damping_told bad_damping is_nan lt of_int
identity_fine lambda = refl

abbrev between : Float → Float → Damping
between min max = record { lambda = zero₊; min = min; max = max }

-- min 0.0 is not above max -0.0
pub zeros_fine : damping_told (between zero₊ zero₋) ≡ done
unfolding damping_told bad_damping is_nan lt of_bits neg
zeros_fine = refl

-- -0.0 is not below 0.0
pub zero_stays : clamped (between zero₊ zero₊) zero₋ ≡ zero₋
unfolding clamped lt of_bits neg
zero_stays = refl

below_nan : (x : Float) → lt x nan ≡ false
unfolding lt
below_nan nan = refl
below_nan (inf s) = refl
below_nan (fin s m e) = refl

pub nan_stays : (d : Damping) → clamped d nan ≡ nan
unfolding clamped lt
nan_stays d = rw (below_nan d.max)
