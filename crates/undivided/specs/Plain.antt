-- To be believed. The operator written without spans: document 01's sums, column by column in block order. Assumes nothing.
use Rattle.std.specs.Prelude.{List, ℕ, replicate, Float}
use Rattle.columns.specs.declared.unchecked.Sign.TheVariants.{Plus, Minus}
use Rattle.columns.specs.Columns.{Columns}
use Rattle.columns.specs.Sums.{zero₊, swept_on}
use Rattle.products.specs.SideSums.{side_terms, inverse_times}
use Rattle.products.specs.Operator.{eliminated_sums, kept_sums, Work}

-- y = F·v, from +0.0
abbrev pub plain_rows : Columns → List ℕ → List Float → List Float
plain_rows m kept v = swept_on Plus (replicate m.nrows zero₊) (side_terms m kept v)

-- t = Eᵀ·y and u = inverses·t
abbrev pub plain_t : Columns → List ℕ → List ℕ → List Float → List Float
plain_t m kept elims v = eliminated_sums m elims (plain_rows m kept v)

abbrev pub plain_u : Columns → List ℕ → List ℕ → List Float → List Float → List Float
plain_u m kept elims v inverses = inverse_times elims inverses (plain_t m kept elims v)

-- y − E·u
abbrev pub plain_reduced : Columns → List ℕ → List ℕ → List Float → List Float → List Float
plain_reduced m kept elims v inverses = swept_on Minus (plain_rows m kept v) (side_terms m elims (plain_u m kept elims v inverses))

-- and out = Fᵀ·y + d·v
unfoldable pub plain_operated : Columns → List ℕ → List ℕ → List Float → List Float → List Float → Work
plain_operated m kept elims v inverses d = record {
  rows = plain_reduced m kept elims v inverses;
  t = plain_t m kept elims v;
  u = plain_u m kept elims v inverses;
  out = kept_sums m kept d v (plain_reduced m kept elims v inverses);
}
