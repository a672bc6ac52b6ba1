-- The laws of counts: how often a test holds. Assumes nothing.
use mathlib.Core.Path.{◌≡◌, refl, ap, ◌∙◌}
use mathlib.Core.Bool.{Bool, true, false}
use Prim.Native.Nat.{ℕ, zero, suc, ◌+◌, ◌-◌, ◌≤◌, ◌<◌}
use native.Mathlib.Omega.{arith}
use mir.Val.{bool_byte}
use Rattle.columns.specs.Rises.{bit_of, count_n, count}

pub byte_bit : (b : Bool) → bool_byte b ≡ bit_of b
unfolding bit_of
byte_bit true = refl
byte_bit false = refl

pub byte_most : (b : Bool) → bool_byte b ≤ 1
byte_most true = omega arith
byte_most false = omega arith

bit_most : (b : Bool) → bit_of b ≤ 1
unfolding bit_of
bit_most true = omega arith
bit_most false = omega arith

bit_one : (b : Bool) → 1 ≤ bit_of b → b ≡ true
unfolding bit_of
bit_one true h = refl
bit_one false h = absurd (omega arith)

module _ (t : ℕ → Bool) where
  pub count_none : (lo hi : ℕ) → hi ≤ lo → count t lo hi ≡ 0
  unfolding count count_n
  count_none lo hi h = let e : hi - lo ≡ 0 = omega arith in rw e

  pub count-first : (lo hi : ℕ) → lo < hi → count t lo hi ≡ bit_of (t lo) + count t (lo + 1) hi
  unfolding count count_n
  count-first lo hi h =
      let e : hi - lo ≡ suc (hi - suc lo) = omega arith in
      let a : lo + 1 ≡ suc lo = omega arith in
      rw (e, a)

  count_n_split : (n m a : ℕ) → count_n t a (n + m) ≡ count_n t a n + count_n t (a + n) m
  unfolding count_n
  count_n_split zero m a =
      let e : a + 0 ≡ a = omega arith in
      let u : 0 + m ≡ m = omega arith in
      rw (e, u) (omega arith)
  count_n_split (suc n) m a =
      let e : a + suc n ≡ suc a + n = omega arith in
      let u : suc n + m ≡ suc (n + m) = omega arith in
      rw (e, u) (omega (arith, count_n_split n m (suc a)))

  pub count_split : (a b c : ℕ) → a ≤ b → b ≤ c → count t a c ≡ count t a b + count t b c
  unfolding count
  count_split a b c h l =
      let e : c - a ≡ (b - a) + (c - b) = omega arith in
      let u : a + (b - a) ≡ b = omega arith in
      rw e (count_n_split (b - a) (c - b) a ∙ ap (λ (i : ℕ). count_n t a (b - a) + count_n t i (c - b)) u)

  count_n_most : (n a : ℕ) → count_n t a n ≤ n
  unfolding count_n
  count_n_most zero a = omega arith
  count_n_most (suc n) a = omega (arith, bit_most (t a), count_n_most n (suc a))

  pub count_most : (lo hi : ℕ) → count t lo hi ≤ hi - lo
  unfolding count
  count_most lo hi = count_n_most (hi - lo) lo

  -- where as many are counted as there are places, the test holds at each
  pub count_all : (lo hi k : ℕ) → lo ≤ k → k < hi → hi - lo ≤ count t lo hi → t k ≡ true
  count_all lo hi k l h full =
      bit_one (t k) (omega (arith, count_split lo k hi l (omega arith), count-first k hi h, count_most lo k, count_most (k + 1) hi))

  -- A loop that counts: what is counted so far and what is left are the whole.
  pub count_turn : {k hi : ℕ} (n m b : ℕ) (r : Bool) {z : ℕ} → k < hi → n + count t k hi ≡ z → r ≡ t k → b ≡ bit_of r → m ≡ n + b → m + count t (k + 1) hi ≡ z
  count_turn {k} {hi} n m b r h inv e f q = omega (arith, count-first k hi h, f ∙ ap bit_of e)

  pub count-done : {k hi : ℕ} (n : ℕ) {z : ℕ} → hi ≤ k → n + count t k hi ≡ z → n ≡ z
  count-done {k} {hi} n h inv = omega (arith, count_none k hi h)
