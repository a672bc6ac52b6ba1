-- The places from `from` up to `to` of a list, as a list of their own. Assumes nothing.
use Rattle.std.proofs.Common.{◌≡◌, ℕ, ◌+◌, ◌-◌, ◌<◌, ◌≤◌, List, [], ◌∷◌, length, get_or, take, drop, arith, ap, sym, ◌∙◌}
use Rattle.std.proofs.lemmas.List.{length-drop, get_or-drop, get_or-take, drop-drop}
use lib.Seq.{length-take-le}
use Rattle.columns.specs.Unchecked.{RunThere}

-- what is left of a walk over xs that has passed k of them: the next one and the rest after it, or nothing
module _ {A : Type 0} (xs : List A) (k : ℕ) (rest : List A) where
  pub next_inside : (x : A) → drop k xs ≡ x ∷ rest → k < length xs
  next_inside x e = omega (arith, ap length e, length-drop k xs)

  pub next_is : (x d : A) → drop k xs ≡ x ∷ rest → x ≡ get_or xs k d
  next_is x d e = sym (let z : k + 0 ≡ k = omega arith in rw z at (sym (get_or-drop k xs 0 d) ∙ ap (λ (l : List A). get_or l 0 d) e))

  pub next_rest : (x : A) → drop k xs ≡ x ∷ rest → rest ≡ drop (k + 1) xs
  next_rest x e = sym (ap (λ (l : List A). drop 1 l) e) ∙ drop-drop 1 k xs

pub none_left : {A : Type 0} (xs : List A) (k : ℕ) → drop k xs ≡ [] → length xs ≤ k
none_left xs k e = omega (arith, ap length e, length-drop k xs)

module _ {A : Type 0} (xs : List A) (from to : ℕ) (run : RunThere (length xs) from to) where
  pub part_length : length (take (to - from) (drop from xs)) ≡ to - from
  part_length = length-take-le (to - from) (drop from xs) (rw (length-drop from xs) (omega (arith, run.order, run.inside)))

  pub part_at : (i : ℕ) (d : A) → i < to - from → get_or (take (to - from) (drop from xs)) i d ≡ get_or xs (from + i) d
  part_at i d h = get_or-take (to - from) (drop from xs) i d h ∙ get_or-drop from xs i d
