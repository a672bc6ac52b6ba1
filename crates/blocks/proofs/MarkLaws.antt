-- What a test of an owner is worth, for `search`: o is the owner's number, and t what `is_none` answered. Assumes nothing.
use borrow.Author.Tests.{eqb-true, eqb-false}
use mathlib.Core.Path.{◌≡◌, sym, ◌∙◌}
use mathlib.Core.Bool.{Bool, true, false}
use Prim.Native.Nat.{ℕ}
use lib.Dec.{eqb}
use Rattle.blocks.specs.Claims.{mark}

module _ (o : ℕ) (t : Bool) (e : t ≡ eqb o mark) where
  pub is-mark : t ≡ true → o ≡ mark
  is-mark h = eqb-true o mark (sym e ∙ h)

  pub no_mark : t ≡ false → o ≡ mark → ⊥
  no_mark h = eqb-false o mark (sym e ∙ h)
