-- An export gives what its call gives, with the number and the two values in place of what the call tells. Assumes nothing.
use mathlib.Core.Path.{◌≡◌, ap}
use Rattle.columns.specs.Refusals.{Told}
use Rattle.edge.specs.Edge.{Crossed, crossed, Export, export}

pub exports : {A : Type 0} (c : Crossed) (t : Told) (left : A) → c ≡ crossed t → record { told = c; left = left } ≡ export t left
exports {A} c t left e = ap {B = Export A} (λ (x : Crossed). record { told = x; left = left }) e
