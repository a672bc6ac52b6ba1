-- A walk over the places from `lo` up to `hi` of two lists at once: where it stands, told by what is left of each. Assumes nothing.
use Rattle.std.proofs.Common.{◌≡◌, ℕ, suc, ◌+◌, ◌-◌, ◌<◌, ◌≤◌, List, [], ◌∷◌, length, get_or, take, drop, arith, ap, sym, ◌∙◌}
use Rattle.std.proofs.lemmas.List.{length-drop}
use Rattle.columns.specs.Unchecked.{RunThere, EntryFits, EntriesFit}
use Rattle.columns.proofs.PartLaws.{next_inside, next_is, next_rest, none_left, part_length, part_at}

abbrev pub part : {A : Type 0} → List A → ℕ → ℕ → List A
part xs lo hi = take (hi - lo) (drop lo xs)

-- entries that fit are there, where there are some
pub entries_run : (rows : List ℕ) (nvalues n lo hi : ℕ) → EntriesFit rows nvalues n lo hi → lo < hi → RunThere (length rows) lo hi × RunThere nvalues lo hi
entries_run rows nvalues n lo hi f l =
    let e = f.each (hi - 1) (omega arith) (omega arith) in
    (record { order = omega arith; inside = omega (arith, e.there) }, record { order = omega arith; inside = omega (arith, e.there, e.paired) })

-- how far the walk has come
abbrev pub gone : {A : Type 0} → ℕ → ℕ → List A → ℕ
gone lo hi a = hi - lo - length a

pub record Both {A B : Type 0} (xs : List A) (ys : List B) (lo hi : ℕ) (a : List A) (b : List B) : Type 0 where
  pub left : a ≡ drop (gone lo hi a) (part xs lo hi)
  pub right : b ≡ drop (gone lo hi a) (part ys lo hi)

-- one pair more: it stands at the place that is as far from hi as numbers were left
pub record PairNext {A B : Type 0} (xs : List A) (ys : List B) (lo hi : ℕ) (a a' : List A) (b' : List B) (x : A) (y : B) : Type 0 where
  pub next : Both xs ys lo hi a' b'
  pub low : lo ≤ hi - length a
  pub high : hi - length a < hi
  pub on : hi - length a' ≡ hi - length a + 1
  pub first : (d : A) → x ≡ get_or xs (hi - length a) d
  pub second : (d : B) → y ≡ get_or ys (hi - length a) d

module _ {A B : Type 0} (xs : List A) (ys : List B) (lo hi : ℕ) (p : RunThere (length xs) lo hi) (q : RunThere (length ys) lo hi) where
  pub both_start : (a : List A) (b : List B) → a ≡ part xs lo hi → b ≡ part ys lo hi → Both xs ys lo hi a b × (hi - length a ≡ lo)
  both_start a b e f =
      let l = part_length xs lo hi p in
      let n : length a ≡ hi - lo = ap length e ∙ l in
      let z : gone lo hi a ≡ 0 = omega arith in
      (record { left = rw z e; right = rw z f }, omega (arith, n, p.order))

  module _ (a : List A) (b : List B) (w : Both xs ys lo hi a b) where
    few : length a ≤ hi - lo
    few = omega (arith, ap length w.left, length-drop (gone lo hi a) (part xs lo hi), part_length xs lo hi p)

    pub both_next : (a' : List A) (b' : List B) (x : A) (y : B) → a ≡ x ∷ a' → b ≡ y ∷ b' → PairNext xs ys lo hi a a' b' x y
    both_next a' b' x y e f =
        let k = gone lo hi a in
        let n : length a ≡ suc (length a') = ap length e in
        let i : drop k (part xs lo hi) ≡ x ∷ a' = sym w.left ∙ e in
        let j : drop k (part ys lo hi) ≡ y ∷ b' = sym w.right ∙ f in
        let z : gone lo hi a' ≡ k + 1 = omega (arith, few) in
        let at : lo + k ≡ hi - length a = omega (arith, few, p.order) in
        let l : k < hi - lo = omega (arith, few) in
        record {
          next = record { left = rw z (next_rest (part xs lo hi) k a' x i); right = rw z (next_rest (part ys lo hi) k b' y j) };
          low = omega (arith, few, p.order);
          high = omega (arith, few, p.order);
          on = omega (arith, few, p.order);
          first = λ d. next_is (part xs lo hi) k a' x d i ∙ rw at at (part_at xs lo hi p k d l);
          second = λ d. next_is (part ys lo hi) k b' y d j ∙ rw at at (part_at ys lo hi q k d l);
        }

    -- where one of them has nothing left, the walk has come to hi
    pub left_end : length a ≡ 0 → hi ≤ hi - length a
    left_end e = omega arith

    pub right_end : length b ≡ 0 → hi ≤ hi - length a
    right_end e =
        omega (arith, ap length w.right, length-drop (gone lo hi a) (part ys lo hi), part_length ys lo hi q, few)
