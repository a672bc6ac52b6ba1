-- What a sweep makes of a row is the sum of that row's own terms in their order, from what the row held: so term lists that agree row by row make
-- the same rows. Assumes nothing.
use mathlib.Core.Path.{◌≡◌, refl, sym, ap, ◌∙◌}
use mathlib.Core.List.{List, [], ◌∷◌}
use Prim.Native.Nat.{ℕ, ◌<◌}
use native.Mathlib.Decide.{ℕ_discrete}
use lib.ListN.{length, get_or}
use lib.Seq.{get_or-set_same, get_or-set_other, ext_get_or}
use lib.Ieee.{Float, nan}
use Rattle.ground.specs.Fold.{folded}
use Rattle.ground.specs.Buckets.{bucket}
use Rattle.ground.proofs.BucketLaws.{bucket_same, bucket-other}
use Rattle.columns.specs.declared.unchecked.Sign.{Sign}
use Rattle.columns.specs.Sums.{RowTerm, landed, swept_on}
use Rattle.columns.proofs.SumLaws.{length-landed, length-swept}
use Rattle.undivided.specs.Undivided.{row_of, own_terms, join_term, join_all}

-- one term, seen from row r
landed_same : (sign : Sign) (y : List Float) (t : RowTerm) (r : ℕ) → r < length y → t.row ≡ r → get_or (landed sign y t) r nan ≡ join_term sign (get_or y r nan) t
unfolding landed join_term
landed_same sign y t r h e = rw e (get_or-set_same y r _ nan h)

landed-other : (sign : Sign) (y : List Float) (t : RowTerm) (r : ℕ) → (t.row ≡ r → ⊥) → get_or (landed sign y t) r nan ≡ get_or y r nan
unfolding landed
landed-other sign y t r e = get_or-set_other y t.row r _ nan (λ q. e (sym q))

-- row r holds what it held with its own terms, in order, each product rounded and then joined
pub row-swept : (sign : Sign) (y : List Float) (ts : List RowTerm) (r : ℕ) → r < length y → get_or (swept_on sign y ts) r nan ≡ join_all sign (get_or y r nan) (own_terms r ts)
unfolding folded bucket
row-swept sign y [] r h = refl
row-swept sign y (t ∷ ts) r h = row-swept sign (landed sign y t) ts r (rw (length-landed sign y t) h) ∙ go (ℕ_discrete t.row r)
  where
    go : Dec (t.row ≡ r) → join_all sign (get_or (landed sign y t) r nan) (own_terms r ts) ≡ join_all sign (get_or y r nan) (own_terms r (t ∷ ts))
    go (yes e) = rw (landed_same sign y t r h e, bucket_same row_of r t ts e)
    go (no e) = rw (landed-other sign y t r e, bucket-other row_of r t ts e)

-- term lists that agree row by row make the same rows
pub rows_same : (sign : Sign) (y : List Float) (ts us : List RowTerm) → ((r : ℕ) → r < length y → own_terms r ts ≡ own_terms r us) → swept_on sign y ts ≡ swept_on sign y us
rows_same sign y ts us e =
    ext_get_or nan _ _ (length-swept sign y ts ∙ sym (length-swept sign y us)) (λ r h.
    let l : r < length y = rw (length-swept sign y ts) at h in
    row-swept sign y ts r l ∙ ap (λ zs. join_all sign (get_or y r nan) zs) (e r l) ∙ sym (row-swept sign y us r l))
