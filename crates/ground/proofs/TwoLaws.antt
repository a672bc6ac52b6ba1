-- A walk over a list by twos, as `chunks_exact(2)` hands them on: where it stands, told by how many are gone. Assumes nothing.
use Rattle.std.proofs.Common.{◌≡◌, ℕ, ◌+◌, ◌-◌, ◌/◌, ◌<◌, ◌≤◌, List, ◌++◌, length, get_or, drop, ap, sym, ◌∙◌, arith}
use Rattle.std.proofs.lemmas.List.{length-drop, length-append, get_or-drop, get_or_append_left, drop-drop, drop_at}

-- the two that w holds are taken, where k were gone and `rest` was left, and `rest'` is left after them
pub record TwoTaken (xs rest' w : List ℕ) (k : ℕ) : Type 0 where
  pub inside : k < length xs / 2
  pub first : get_or w 0 0 ≡ get_or xs (k + k) 0
  pub second : get_or w 1 0 ≡ get_or xs (k + k + 1) 0
  pub next : rest' ≡ drop (k + 1 + (k + 1)) xs

module _ (size : ℕ) (xs rest : List ℕ) (k : ℕ) (two : size ≡ 2) (at : rest ≡ drop (k + k) xs) where
  pub two_taken : (rest' w : List ℕ) → rest ≡ w ++ rest' → length w ≡ size → TwoTaken xs rest' w k
  two_taken rest' w e l =
      let n : length w + length rest' ≡ length xs - (k + k) = sym (length-append w rest') ∙ ap length (sym e ∙ at) ∙ length-drop (k + k) xs in
      let m : k + 1 + (k + 1) ≡ k + k + 2 = omega arith in
      let one : (i : ℕ) → i < 2 → get_or w i 0 ≡ get_or xs (k + k + i) 0 = λ i h.
      sym (get_or_append_left w rest' 0 i (rw (l, two) h)) ∙ ap (λ (ys : List ℕ). get_or ys i 0) (sym e ∙ at) ∙ get_or-drop (k + k) xs i 0 in
      let z : k + k + 0 ≡ k + k = omega arith in
      record {
        inside = omega (arith, n, l, two);
        first = rw z at (one 0 (omega arith));
        second = one 1 (omega arith);
        next = rw m (sym (drop_at w rest' 2 (l ∙ two)) ∙ ap (λ (ys : List ℕ). drop 2 ys) (sym e ∙ at) ∙ drop-drop 2 (k + k) xs);
      }

  -- no two are left where fewer than two numbers are
  pub two_none : length rest < size → length xs / 2 ≤ k
  two_none h = omega (arith, ap length at, length-drop (k + k) xs, two)
