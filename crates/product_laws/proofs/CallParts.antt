-- What `sweep`, `step` and `apply_schur_operator` are lent, and what they leave, by name: the parameters of each in their order, a at entry and t at
-- exit. Assumes nothing.
use mathlib.Core.Bool.{Bool}
use mathlib.Core.List.{List}
use Prim.Native.Nat.{ℕ}
use lib.Ieee.{Float}
use contract.Lifetimes.{Lfts}
use denote.Triple.Clauses.{AtExit}
use borrow.Fn.Kinds.{ended_of}
use borrow.Fn.World.{ArgsD}
use Rattle.columns.specs.Columns.{Columns}
use Rattle.columns.specs.Lent.{seen}
use Rattle.plan.specs.Spans.{Spread}
use Rattle.plan.specs.LentSpans.{spread_lent}
use Rattle.products.specs.Side.{eliminated}
use Rattle.products.specs.Operator.{Operands, Work}
use Rattle.products.specs.contracts.order.sweep as sweeping
use Rattle.products.proofs.order.sweep.Kinds as sweep_kinds
use Rattle.products.specs.contracts.order.step as stepping
use Rattle.products.proofs.order.step.Kinds as step_kinds
use Rattle.products.specs.contracts.operator.apply_schur_operator as operating
use Rattle.products.proofs.operator.apply_schur_operator.Kinds as operator_kinds

-- ---- sweep

module _ (κs : Lfts 8) (a : ArgsD sweeping.signature κs) where
  abbrev pub sweep_side : Bool
  sweep_side = eliminated a.0

  abbrev pub sweep_columns : Columns
  sweep_columns = seen a.1.0

  abbrev pub sweep_kept : List ℕ
  sweep_kept = a.1.1.0.kept.now

  abbrev pub sweep_elims : List ℕ
  sweep_elims = a.1.1.0.elims.now

  abbrev pub sweep_len : ℕ
  sweep_len = a.1.1.1.1.0

  abbrev pub sweep_lists : Spread
  sweep_lists = spread_lent a.1.1.1.1.1.1.0

  abbrev pub sweep_map : List ℕ
  sweep_map = a.1.1.1.0.now

  abbrev pub sweep_vector : List Float
  sweep_vector = a.1.1.1.1.1.0.now

  abbrev pub sweep_rows : List Float
  sweep_rows = a.1.1.1.1.1.1.1.0.now

  abbrev pub sweep_progress : List ℕ
  sweep_progress = a.1.1.1.1.1.1.1.1.0.now

  abbrev pub sweep_order : List ℕ
  sweep_order = a.1.1.1.1.1.1.1.1.1.0.now

module _ (κs : Lfts 8) (t : AtExit (ended_of 8 sweep_kinds.ps sweep_kinds.r) κs) where
  abbrev pub sweep_map_left : List ℕ
  sweep_map_left = t.1.1.1.0.now

  abbrev pub sweep_rows_left : List Float
  sweep_rows_left = t.1.1.1.1.1.1.1.0.now

  abbrev pub sweep_progress_left : List ℕ
  sweep_progress_left = t.1.1.1.1.1.1.1.1.0.now

-- ---- step

module _ (κs : Lfts 7) (a : ArgsD stepping.signature κs) where
  abbrev pub step_side : Bool
  step_side = eliminated a.0

  abbrev pub step_columns : Columns
  step_columns = seen a.1.0

  abbrev pub step_kept : List ℕ
  step_kept = a.1.1.0.kept.now

  abbrev pub step_elims : List ℕ
  step_elims = a.1.1.0.elims.now

  abbrev pub step_len : ℕ
  step_len = a.1.1.1.1.0

  abbrev pub step_lists : Spread
  step_lists = spread_lent a.1.1.1.1.1.1.0

  abbrev pub step_map : List ℕ
  step_map = a.1.1.1.0.now

  abbrev pub step_vector : List Float
  step_vector = a.1.1.1.1.1.0.now

  abbrev pub step_rows : List Float
  step_rows = a.1.1.1.1.1.1.1.0.now

  abbrev pub step_progress : List ℕ
  step_progress = a.1.1.1.1.1.1.1.1.0.now

  abbrev pub step_chunk_of : ℕ
  step_chunk_of = a.1.1.1.1.1.1.1.1.1.0

module _ (κs : Lfts 7) (t : AtExit (ended_of 7 step_kinds.ps step_kinds.r) κs) where
  abbrev pub step_map_left : List ℕ
  step_map_left = t.1.1.1.0.now

  abbrev pub step_rows_left : List Float
  step_rows_left = t.1.1.1.1.1.1.1.0.now

  abbrev pub step_progress_left : List ℕ
  step_progress_left = t.1.1.1.1.1.1.1.1.0.now

-- ---- apply_schur_operator

module _ (κs : Lfts 12) (a : ArgsD operating.signature κs) where
  abbrev pub operator_columns : Columns
  operator_columns = seen a.0

  abbrev pub operator_kept : List ℕ
  operator_kept = a.1.0.kept.now

  abbrev pub operator_elims : List ℕ
  operator_elims = a.1.0.elims.now

  abbrev pub operator_len : ℕ
  operator_len = a.1.1.1.0

  abbrev pub operator_map : List ℕ
  operator_map = a.1.1.0.now

  abbrev pub operator_operands : Operands
  operator_operands = record {
    v = a.1.1.1.1.0.now;
    inverses = a.1.1.1.1.1.0.now;
    d = a.1.1.1.1.1.1.0.now;
    kept = spread_lent a.1.1.1.1.1.1.1.0;
    elims = spread_lent a.1.1.1.1.1.1.1.1.0;
  }

  abbrev pub operator_work : Work
  operator_work = record { rows = a.1.1.1.1.1.1.1.1.1.0.now; t = a.1.1.1.1.1.1.1.1.1.1.0.now; u = a.1.1.1.1.1.1.1.1.1.1.1.0.now; out = a.1.1.1.1.1.1.1.1.1.1.1.1.0.now }

module _ (κs : Lfts 12) (t : AtExit (ended_of 12 operator_kinds.ps operator_kinds.r) κs) where
  abbrev pub operator_map_left : List ℕ
  operator_map_left = t.1.1.0.now

  abbrev pub operator_work_left : Work
  operator_work_left = record { rows = t.1.1.1.1.1.1.1.1.1.0.now; t = t.1.1.1.1.1.1.1.1.1.1.0.now; u = t.1.1.1.1.1.1.1.1.1.1.1.0.now; out = t.1.1.1.1.1.1.1.1.1.1.1.1.0.now }
