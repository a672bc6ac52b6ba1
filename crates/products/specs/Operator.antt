-- To be believed. The reduced operator over a plan as it is lent: out = Fᵀ(F·v − E·(inverses·Eᵀ·F·v)) + d·v. Assumes nothing.
use Rattle.std.specs.Prelude.{ℕ, true, false, cond, List, [], ◌∷◌, ◌++◌, length, replicate, ◌==◌, nat_lt, slice_index_or, Float}
use Rattle.std.specs.Float.{nan}
use Rattle.ground.specs.Gather.{list_of}
use Rattle.columns.specs.declared.unchecked.Sign.TheVariants.{Plus, Minus}
use Rattle.columns.specs.Refusals.{Told, on_pass, or_else}
use Rattle.columns.specs.Lengths.{wrong_length}
use Rattle.columns.specs.Columns.{Columns, column_count}
use Rattle.columns.specs.Sums.{zero₊, zero₋, Term, term, sum_from, swept_on}
use Rattle.columns.specs.JacobianOps.{gather_terms}
use Rattle.blocks.specs.Sides.{side_dof}
use Rattle.blocks.specs.Claims.{late_blocks, claims, map_after}
use Rattle.blocks.specs.BlockValues.{value_count}
use Rattle.plan.specs.Spans.{chunk_count_of, Spread}
use Rattle.products.specs.SideSums.{column_at, side_gather, inverse_times}
use Rattle.products.specs.Orders.{bad_plan, plan_terms, early_chunked, plan_lengths}

-- ---- the steps

-- y = F·v, from +0.0
abbrev pub kept_rows : Columns → Spread → List Float → List Float
kept_rows m s v = swept_on Plus (replicate m.nrows zero₊) (plan_terms m s v)

-- t = Eᵀ·y, from -0.0
abbrev pub eliminated_sums : Columns → List ℕ → List Float → List Float
eliminated_sums m elims y = side_gather zero₋ m elims y

-- y − E·u
abbrev pub reduced_rows : Columns → Spread → List Float → List Float → List Float
reduced_rows m s u y = swept_on Minus y (plan_terms m s u)

-- the damping term of local number l: none where d is empty; it is never skipped
unfoldable pub damp_term : List Float → List Float → ℕ → List Term
damp_term d v l = cond (nat_lt l (length d)) (term (slice_index_or d l nan) (slice_index_or v l nan) ∷ []) []

-- out = Fᵀ·y + d·v, each from -0.0
unfoldable pub kept_sum : Columns → List ℕ → List Float → List Float → List Float → ℕ → Float
kept_sum m kept d v y l = sum_from zero₋ (gather_terms m y (column_at kept l) ++ damp_term d v l)

abbrev pub kept_sums : Columns → List ℕ → List Float → List Float → List Float → List Float
kept_sums m kept d v y = list_of (kept_sum m kept d v y) (side_dof kept)

-- ---- the call

-- what is lent beside columns, sides, map and chunk length
pub record Operands : Type 0 where
  pub v : List Float
  pub inverses : List Float
  pub d : List Float
  pub kept : Spread
  pub elims : Spread

-- the buffers that it fills
pub record Work : Type 0 where
  pub rows : List Float
  pub t : List Float
  pub u : List Float
  pub out : List Float

-- d, of n entries, is right where it is empty or as long as the kept dof
unfoldable pub damp_length : ℕ → ℕ → ℕ
damp_length n dof = cond (n == 0) dof n

-- how long v, inverses, d, rows, t, u and out are
pub record Sizes : Type 0 where
  pub v : ℕ
  pub inverses : ℕ
  pub d : ℕ
  pub rows : ℕ
  pub t : ℕ
  pub u : ℕ
  pub out : ℕ

abbrev pub sizes_of : Operands → Work → Sizes
sizes_of o w = record {
  v = length o.v;
  inverses = length o.inverses;
  d = length o.d;
  rows = length w.rows;
  t = length w.t;
  u = length w.u;
  out = length w.out;
}

-- the pairs, for that many rows and chunks, the two dofs and the count of the inverses' values
abbrev pub operator_pairs : ℕ → ℕ → ℕ → ℕ → ℕ → Sizes → Spread → Spread → List ℕ
operator_pairs nrows chunks kept_dof elims_dof count z kept elims =
    z.v ∷ kept_dof
    ∷ z.inverses ∷ count
    ∷ damp_length z.d kept_dof ∷ kept_dof
    ∷ plan_lengths chunks kept
    (plan_lengths chunks elims
    (z.rows ∷ nrows
    ∷ z.t ∷ elims_dof
    ∷ z.u ∷ elims_dof
    ∷ z.out ∷ kept_dof ∷ []))

unfoldable pub operator_lengths : Columns → List ℕ → List ℕ → ℕ → Operands → Work → List ℕ
operator_lengths m kept elims len o w =
    operator_pairs m.nrows (chunk_count_of m.nrows len) (side_dof kept) (side_dof elims) (value_count elims) (sizes_of o w) o.kept o.elims

-- 1 to 9, 11 and 13, kept first
abbrev pub operator_told : Columns → List ℕ → List ℕ → ℕ → List ℕ → Operands → Work → Told
operator_told m kept elims len map o w =
    or_else (early_chunked m kept elims len map)
    (or_else (late_blocks m kept elims)
    (or_else (wrong_length (operator_lengths m kept elims len o w))
    (or_else (bad_plan false m kept len o.kept) (bad_plan true m elims len o.elims))))

-- rows, t, u and out end as the steps leave them
unfoldable pub operated : Columns → List ℕ → List ℕ → Operands → Work
operated m kept elims o =
    let y = kept_rows m o.kept o.v in
    let t = eliminated_sums m elims y in
    let u = inverse_times elims o.inverses t in
    let rows = reduced_rows m o.elims u y in
    record { rows = rows; t = t; u = u; out = kept_sums m kept o.d o.v rows }

-- what a call tells, and what it leaves; a refused one leaves all but the map as it was
pub record Operated : Type 0 where
  pub told : Told
  pub map : List ℕ
  pub work : Work

unfoldable pub schur_operator : Columns → List ℕ → List ℕ → ℕ → List ℕ → Operands → Work → Operated
schur_operator m kept elims len map o w =
    let t = operator_told m kept elims len map o w in
    record {
      told = t;
      map = map_after (early_chunked m kept elims len map) t (column_count m) (claims (column_count m) kept elims) map;
      work = on_pass t (operated m kept elims o) w;
    }
