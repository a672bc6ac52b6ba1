-- To be believed. What crosses the edge. Enums do not, so that an export returns the answer's number and writes its values through two numbers.
-- Assumes nothing.
use Rattle.std.specs.Prelude.{List, ℕ, get_or, Float}
use Rattle.columns.specs.Refusals.{Told}
use Rattle.plan.specs.Plan.{Buffers, Outcome}
use Rattle.products.specs.Operator.{Work, Operated}
use Rattle.products.specs.Couplings.{Made}

-- the number, and the two values, 0 where there is none
pub record Crossed : Type 0 where
  pub number : ℕ
  pub first : ℕ
  pub second : ℕ

abbrev pub crossed : Told → Crossed
crossed t = record { number = t.number; first = get_or t.values 0 0; second = get_or t.values 1 0 }

-- what an export gives: what crossed, and the buffers as the call leaves them
pub record Export (A : Type 0) : Type 0 where
  pub told : Crossed
  pub left : A

abbrev pub export : {A : Type 0} → Told → A → Export A
export t left = record { told = crossed t; left = left }

-- of the plan, of the operator and of the update
abbrev pub plan_export : Outcome → Export Buffers
plan_export o = export o.told o.left

abbrev pub operator_export : Operated → Export (List ℕ × Work)
operator_export o = export o.told (o.map, o.work)

abbrev pub update_export : Made → Export (List ℕ × List Float)
update_export o = export o.told (o.map, o.out)
