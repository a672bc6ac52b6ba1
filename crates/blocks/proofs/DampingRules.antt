-- What the code of src/damping.rt shows of the definitions: a lemma for each way that a function returns. Assumes nothing.
use mathlib.Core.Path.{◌≡◌, refl}
use mathlib.Core.Bool.{Bool, true, false}
use mathlib.Core.List.{[], ◌∷◌}
use Prim.Native.Nat.{◌*◌}
use borrow.Author.Rules.{rules}
use borrow.Author.Tests.{eq-eqb}
use lib.Ieee.{Float, nan, inf, fin, up, down, binary64, mul, lt, ne, is_nan, of_bits, of_int}
use Rattle.columns.specs.declared.refusal.Refusal.{Refusal}
use Rattle.columns.specs.Refusals.{Answer}
use Rattle.std.specs.Prelude.{Ok, Err}
use Rattle.columns.specs.Refusals.{tell, done, refused, told, on_pass}
use Rattle.columns.proofs.RefusalLaws.{pass_refused}
use Rattle.blocks.specs.declared.damping.Damping.{Damping}
use Rattle.blocks.specs.Damping.{one, bad_damping, damping_told, clamped, term_of, termed, diagonal_term}

pub is_one : of_bits binary64 4_607_182_418_800_017_408 ≡ one
unfolding of_bits of_int
is_one = refl

-- only a NaN differs from itself
pub nan_test : (x : Float) → ne x x ≡ is_nan x
unfolding ne is_nan
nan_test nan = refl
nan_test (inf true) = refl
nan_test (inf false) = refl
nan_test (fin true m e) = rw (eq-eqb (m * up e * down e) (m * up e * down e) refl)
nan_test (fin false m e) = rw (eq-eqb (m * up e * down e) (m * up e * down e) refl)

module _ (d : Damping) where
  -- s and t are what the tests of min and max answered
  pub bad_min : (s : Bool) → s ≡ is_nan d.min → s ≡ true → true ≡ bad_damping d
  unfolding bad_damping
  bad_min s e p = rw (← e, p)

  pub bad_max : (s t : Bool) → s ≡ is_nan d.min → s ≡ false → t ≡ is_nan d.max → t ≡ true → true ≡ bad_damping d
  unfolding bad_damping
  bad_max s t e p f q = rw (← e, p, ← f, q)

  pub bad_order_lem : (s t : Bool) → s ≡ is_nan d.min → s ≡ false → t ≡ is_nan d.max → t ≡ false → lt d.max d.min ≡ bad_damping d
  unfolding bad_damping
  bad_order_lem s t e p f q = rw (← e, p, ← f, q)

  pub damping_refused : (t : Bool) → t ≡ bad_damping d → t ≡ true → tell 12 [] ≡ damping_told d
  unfolding damping_told
  damping_refused t e p = rw (← e, p)

  pub damping_fine : (t : Bool) → t ≡ bad_damping d → t ≡ false → done ≡ damping_told d
  unfolding damping_told
  damping_fine t e p = rw (← e, p)

  module _ (x : Float) where
    pub clamp_low : lt x d.min ≡ true → d.min ≡ clamped d x
    unfolding clamped
    clamp_low p = rw p

    pub clamp_high : lt x d.min ≡ false → lt d.max x ≡ true → d.max ≡ clamped d x
    unfolding clamped
    clamp_high p q = rw (p, q)

    pub clamp_none : lt x d.min ≡ false → lt d.max x ≡ false → x ≡ clamped d x
    unfolding clamped
    clamp_none p q = rw (p, q)

    pub term_is : (y : Float) → y ≡ clamped d x → mul binary64 d.lambda y ≡ term_of d x
    unfolding term_of
    term_is y e = rw e

    pub term-refused : (a : Answer) (r : Refusal) → told a ≡ damping_told d → a ≡ Err r → termed (Err r) ≡ diagonal_term d x
    unfolding diagonal_term
    term-refused a r e p = let q : refused r ≡ damping_told d = rw p at e in rw (← q, pass_refused r (term_of d x ∷ []) [])

    pub term-done : (a : Answer) (y : Float) → told a ≡ damping_told d → a ≡ Ok tt → y ≡ term_of d x → termed (Ok y) ≡ diagonal_term d x
    unfolding diagonal_term on_pass
    term-done a y e p f = let q : done ≡ damping_told d = rw p at e in rw (← q, f)

pub ruleset damping = (
  rules,
  nan_test,
  bad_min,
  bad_max,
  bad_order_lem,
  damping_refused,
  damping_fine,
  clamp_low,
  clamp_high,
  clamp_none,
  term_is,
  term-refused,
  term-done,
)
