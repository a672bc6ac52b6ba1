-- What a search or a walk by methods of iterators comes to: `any` over places is `some`, and three lists side by side are read at one place. Assumes nothing.
use Rattle.std.proofs.Common.{◌≡◌, ℕ, zero, suc, ◌+◌, ◌<◌, Bool, ◌||◌, List, [], ◌∷◌, length, get_or, sym, ap, ◌∙◌, zero-add, arith}
use Rattle.std.specs.List.{range_with_len, list_any, zip}
use Rattle.ground.specs.First.{some}
use Rattle.ground.proofs.FirstLaws.{some_first, some_none}

module _ (bad : ℕ → Bool) where
  any_from : (lo n : ℕ) → list_any bad (range_with_len lo n) ≡ some bad lo (lo + n)
  any_from lo zero = sym (some_none bad lo (lo + 0) (omega arith))
  any_from lo (suc n) =
      let e : lo + 1 + n ≡ lo + suc n = omega arith in
      ap (λ (b : Bool). bad lo || b) (any_from (lo + 1) n ∙ ap (λ (hi : ℕ). some bad (lo + 1) hi) e)
      ∙ sym (some_first bad lo (lo + suc n) (omega arith))

  pub any_some : (n : ℕ) → list_any bad (range_with_len 0 n) ≡ some bad 0 n
  any_some n = any_from 0 n ∙ ap (λ (hi : ℕ). some bad 0 hi) (zero-add n)

-- a turn of a loop over three lists side by side: where its numbers stand
pub three_turn : (xs ys zs : List ℕ) (k a b c : ℕ) (d : (ℕ × ℕ) × ℕ) → k < length (zip (zip xs ys) zs) → ((a, b), c) ≡ get_or (zip (zip xs ys) zs) k d
    → (k < length xs) × (a ≡ get_or xs k 0) × (b ≡ get_or ys k 0) × (c ≡ get_or zs k 0)
three_turn [] ys zs k a b c d h e = absurd (omega arith)
three_turn (x ∷ xs) [] zs k a b c d h e = absurd (omega arith)
three_turn (x ∷ xs) (y ∷ ys) [] k a b c d h e = absurd (omega arith)
three_turn (x ∷ xs) (y ∷ ys) (z ∷ zs) zero a b c d h e = (omega arith, ap (λ (p : (ℕ × ℕ) × ℕ). p.0.0) e, ap (λ (p : (ℕ × ℕ) × ℕ). p.0.1) e, ap (λ (p : (ℕ × ℕ) × ℕ). p.1) e)
three_turn (x ∷ xs) (y ∷ ys) (z ∷ zs) (suc k) a b c d h e = let t = three_turn xs ys zs k a b c d (omega arith) e in (omega arith, t.1, t.2, t.3)
