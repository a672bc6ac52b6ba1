-- Tests joined by && and ||, and lists of numbers that do not fall: what one step shows of neighbours holds of any two places. Assumes nothing.
use mathlib.Core.Path.{◌≡◌, refl, ap, subst}
use mathlib.Core.Bool.{Bool, true, false, ◌&&◌, ◌||◌}
use mathlib.Core.List.{List}
use Prim.Native.Nat.{ℕ, zero, suc, ◌+◌, ◌≤◌, ◌<◌}
use native.Mathlib.Nat.{le_of_eq, le_trans}
use native.Mathlib.Omega.{arith}
use lib.ListN.{get_or}

pub and_true : (a b : Bool) → (a && b) ≡ true → (a ≡ true) × (b ≡ true)
and_true true b e = (refl, e)
and_true false b e = let z : ◌≡◌ {A = ℕ} 0 1 = cc in absurd (omega arith)

pub or_of : (b t u : Bool) → t ≡ u → (b || t) ≡ (b || u)
or_of b t u e = rw e

-- a list whose first n numbers are each at most the next
pub rises_by : (l : List ℕ) (n : ℕ) → ((j : ℕ) → j < n → get_or l j 0 ≤ get_or l (j + 1) 0) → (i d : ℕ) → i + d ≤ n → get_or l i 0 ≤ get_or l (i + d) 0
rises_by l n r i zero h = le_of_eq (ap (λ (k : ℕ). get_or l k 0) (omega arith))
rises_by l n r i (suc d) h =
    let e : i + d + 1 ≡ i + suc d = omega arith in
    le_trans (rises_by l n r i d (omega arith)) (subst (λ (k : ℕ). get_or l (i + d) 0 ≤ get_or l k 0) e (r (i + d) (omega arith)))
