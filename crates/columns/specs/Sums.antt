-- To be believed. Ordered sums under IEEE 754 binary64: a list of terms, taken in one by one, each product rounded and then each sum. Assumes
-- nothing.
use Rattle.std.specs.Prelude.{List, ℕ, get_or, set, Float}
use Rattle.std.specs.Float.{nan, binary64}
use Rattle.std.specs.Float.Ieee.{add, sub, mul, neg, of_bits}
use Rattle.ground.specs.Fold.{folded}
use Rattle.columns.specs.declared.unchecked.Sign.{Sign}
use Rattle.columns.specs.declared.unchecked.Sign.TheVariants.{Plus, Minus}

-- +0.0 and -0.0
abbrev pub zero₊ : Float
zero₊ = of_bits binary64 0

abbrev pub zero₋ : Float
zero₋ = neg zero₊

-- a product that a sum takes in: its two factors
pub record Term : Type 0 where
  pub left : Float
  pub right : Float

abbrev pub term : Float → Float → Term
term a b = record { left = a; right = b }

abbrev pub product : Term → Float
product t = mul binary64 t.left t.right

unfoldable pub add_term : Float → Term → Float
add_term a t = add binary64 a (product t)

-- the terms in order, from a start
abbrev pub sum_from : Float → List Term → Float
sum_from start ts = folded add_term start ts

-- a term that goes to a row
pub record RowTerm : Type 0 where
  pub row : ℕ
  pub term : Term

-- added to what stands there, or subtracted
unfoldable pub joined : Sign → Float → Float → Float
joined Plus a t = add binary64 a t
joined Minus a t = sub binary64 a t

unfoldable pub landed : Sign → List Float → RowTerm → List Float
landed sign y t = set y t.row (joined sign (get_or y t.row nan) (product t.term))

-- rows y with the terms of a sweep, in order
abbrev pub swept_on : Sign → List Float → List RowTerm → List Float
swept_on sign y ts = folded (landed sign) y ts
