-- Demand 2 of the operator: over the plan of both sides its rows, t, u and out are document 01's sums written without spans; so they do not hang on the
-- chunk length. Assumes nothing.
use mathlib.Core.Path.{◌≡◌, sym, ◌∙◌}
use mathlib.Core.Bool.{true, false}
use mathlib.Core.List.{List}
use Prim.Native.Nat.{ℕ}
use lib.ListN.{length, replicate, length-replicate}
use lib.Ieee.{Float}
use Rattle.columns.specs.declared.unchecked.Sign.TheVariants.{Plus, Minus}
use Rattle.columns.specs.Columns.{Columns}
use Rattle.columns.specs.Sums.{zero₊, swept_on}
use Rattle.columns.proofs.SumLaws.{length-swept}
use Rattle.plan.specs.Spans.{Spread}
use Rattle.products.specs.SideSums.{side_terms}
use Rattle.products.specs.Operator.{kept_rows, reduced_rows, Operands, operated}
use Rattle.undivided.specs.Undivided.{SidePlanned}
use Rattle.undivided.specs.Plain.{plain_rows, plain_u, plain_operated}
use Rattle.undivided.proofs.Demand3.{rows_of_plan}

module _ (m : Columns) (kept elims : List ℕ) (len : ℕ) (o : Operands) (p : SidePlanned m kept elims false len o.kept) (q : SidePlanned m kept elims true len o.elims) where
  kept_plain : kept_rows m o.kept o.v ≡ plain_rows m kept o.v
  kept_plain = rows_of_plan m kept elims false len o.kept p Plus (replicate m.nrows zero₊) (length-replicate m.nrows zero₊) o.v

  elims_plain : (u y : List Float) → length y ≡ m.nrows → reduced_rows m o.elims u y ≡ swept_on Minus y (side_terms m elims u)
  elims_plain u y n = rows_of_plan m kept elims true len o.elims q Minus y n u

  pub operator_plain : operated m kept elims o ≡ plain_operated m kept elims o.v o.inverses o.d
  unfolding operated plain_operated
  operator_plain =
      let n : length (plain_rows m kept o.v) ≡ m.nrows = length-swept Plus (replicate m.nrows zero₊) (side_terms m kept o.v) ∙ length-replicate m.nrows zero₊ in
      rw (kept_plain, elims_plain (plain_u m kept elims o.v o.inverses) (plain_rows m kept o.v) n)

-- two plans of the same columns and blocks, whatever their chunk lengths
pub operator_any_length : (m : Columns) (kept elims : List ℕ) (len len' : ℕ) (v inverses d : List Float) (ks es ks' es' : Spread)
    → SidePlanned m kept elims false len ks → SidePlanned m kept elims true len es → SidePlanned m kept elims false len' ks' → SidePlanned m kept elims true len' es'
    → operated m kept elims (record { v = v; inverses = inverses; d = d; kept = ks; elims = es }) ≡ operated m kept elims (record { v = v; inverses = inverses; d = d; kept = ks'; elims = es' })
operator_any_length m kept elims len len' v inverses d ks es ks' es' p q p' q' =
    operator_plain m kept elims len (record { v = v; inverses = inverses; d = d; kept = ks; elims = es }) p q
    ∙ sym (operator_plain m kept elims len' (record { v = v; inverses = inverses; d = d; kept = ks'; elims = es' }) p' q')
