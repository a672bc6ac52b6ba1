-- What a sweep leaves of its rows. Assumes nothing.
use mathlib.Core.Path.{◌≡◌, refl, sym, ◌∙◌}
use mathlib.Core.List.{List, [], ◌∷◌}
use Prim.Native.Nat.{ℕ}
use lib.ListN.{length, get_or, length-set}
use lib.Seq.{get_or-set_other}
use lib.Ieee.{Float, nan}
use Rattle.ground.specs.Fold.{folded, All}
use Rattle.ground.proofs.FoldLaws.{folded_keeps}
use Rattle.columns.specs.declared.unchecked.Sign.{Sign}
use Rattle.columns.specs.Sums.{RowTerm, landed, swept_on}

pub length-landed : (sign : Sign) (y : List Float) (t : RowTerm) → length (landed sign y t) ≡ length y
unfolding landed
length-landed sign y t = simp length-set

-- a sweep keeps how many rows there are
pub length-swept : (sign : Sign) (y : List Float) (ts : List RowTerm) → length (swept_on sign y ts) ≡ length y
length-swept sign y ts = folded_keeps (landed sign) (λ z. length z ≡ length y) (λ z t e. length-landed sign z t ∙ e) y ts refl

-- a row that no term goes to stays as it is
pub swept-other : (sign : Sign) (r : ℕ) (y : List Float) (ts : List RowTerm) → All (λ t. t.row ≡ r → ⊥) ts → get_or (swept_on sign y ts) r nan ≡ get_or y r nan
unfolding folded landed
swept-other sign r y [] a = refl
swept-other sign r y (t ∷ ts) a = swept-other sign r (landed sign y t) ts a.1 ∙ get_or-set_other y t.row r _ nan (λ q. a.0 (sym q))
