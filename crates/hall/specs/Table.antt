-- To be believed. The (P) cases of the built-in hall, one table: what the definitions that the promises cite give on the hall's tables, and document
-- 01's figures. proofs/HallTable.antt shows it. Assumes nothing.
use Rattle.std.specs.Prelude.{◌≡◌, true, false, List, [], ◌∷◌, ◌++◌, ℕ, replicate}
use Rattle.columns.specs.Refusals.{tell, done}
use Rattle.columns.specs.Columns.{checked}
use Rattle.columns.specs.JacobianOps.{column_dot, diag_jt_j}
use Rattle.blocks.specs.Claims.{mark}
use Rattle.plan.specs.Plan.{Buffers, buffers, lent, planned}
use Rattle.products.specs.Operator.{kept_rows, schur_operator}
use Rattle.products.specs.Couplings.{coupling}
use Rattle.hall.specs.Hall.{
  f,
  half,
  hall,
  moved,
  repeated,
  kept,
  elims,
  owners,
  row_lists,
  visible,
  kept_lists,
  elims_lists,
  v,
  first_rows_of,
  t,
  u,
  last_rows,
  operands,
  unused_map,
  unused_rows,
  unused_buffers,
  unused_work,
  swept_along,
}

-- what buffer 0 holds after a success, and after a refusal 7 to 14
abbrev pub filled_map : List ℕ
filled_map = 0 ∷ 1 ∷ 2 ∷ []

abbrev pub marked_map : List ℕ
marked_map = mark ∷ mark ∷ mark ∷ []

-- a list, and n places past it as they were
abbrev pub past : List ℕ → ℕ → List ℕ
past l n = l ++ replicate n 7

-- all buffers after cases 1 and 2
abbrev pub plan_lists : Buffers
plan_lists =
    buffers filled_map (0 ∷ 7 ∷ 7 ∷ []) (1 ∷ 2 ∷ 7 ∷ []) (0 ∷ 1 ∷ 7 ∷ []) owners
    (past row_lists.list 1) row_lists.starts (past visible.list 6) visible.starts
    kept_lists.starts (past kept_lists.lo 5) (past kept_lists.hi 5) (past kept_lists.local 5)
    elims_lists.starts (past elims_lists.lo 5) (past elims_lists.hi 5) (past elims_lists.local 5)

pub record HallTable : Type 0 where
  -- 1 and 2: the plan, in chunks of two rows
  pub plan : planned hall kept elims 2 unused_buffers
      ≡ record {
        told = tell 0 (3 ∷ 3 ∷ []);
        left = plan_lists;
      }
  -- 3: the rows after the kept sweep; the operator, and with damping 0.5
  pub kept-rows : kept_rows hall kept_lists v ≡ first_rows_of
  pub operator : schur_operator hall kept elims 2 unused_map (operands []) unused_work
      ≡ record { told = done; map = filled_map; work = record { rows = last_rows; t = t; u = u; out = f 1 ∷ [] } }
  pub damped : schur_operator hall kept elims 2 unused_map (operands (half ∷ [])) unused_work
      ≡ record { told = done; map = filled_map; work = record { rows = last_rows; t = t; u = u; out = f 2 ∷ [] } }
  -- 4: the coupling times 1, 2, and its transpose times 2
  pub times : coupling true hall kept elims unused_map (f 1 ∷ f 2 ∷ []) unused_rows (replicate 1 (f 7))
      ≡ record { told = done; map = filled_map; rows = f 1 ∷ f 1 ∷ f 0 ∷ f 4 ∷ f 2 ∷ []; out = f 23 ∷ [] }
  pub transpose : coupling false hall kept elims unused_map v unused_rows (replicate 2 (f 7))
      ≡ record { told = done; map = filled_map; rows = first_rows_of; out = t }
  -- 5: dots of columns, and the diagonal
  pub dot_0_1 : column_dot hall 0 1 ≡ record { told = done; sums = f 3 ∷ [] }
  pub dot_0_2 : column_dot hall 0 2 ≡ record { told = done; sums = f 10 ∷ [] }
  pub diagonal : diag_jt_j hall (replicate 3 (f 7)) ≡ record { told = done; out = f 30 ∷ f 2 ∷ f 5 ∷ [] }
  -- 6: column 2 moved: refusal 10, blocks 1 and 0; map and owners hold the mark, the other buffers what they held
  pub connected : planned moved kept elims 2 unused_buffers
      ≡ record {
        told = tell 10 (1 ∷ 0 ∷ []);
        left = lent marked_map (mark ∷ mark ∷ mark ∷ mark ∷ mark ∷ []) unused_buffers;
      }
  -- 7: the kept sweep along 2, 0, 1; and along 0, 0, 1, along 0, 1 and along 3, refused
  pub swept : swept_along (2 ∷ 0 ∷ 1 ∷ [])
      ≡ record { told = done; map = filled_map; rows = first_rows_of; progress = 1 ∷ 1 ∷ 1 ∷ [] }
  pub twice : swept_along (0 ∷ 0 ∷ 1 ∷ [])
      ≡ record { told = tell 14 (1 ∷ []); map = marked_map; rows = unused_rows; progress = 0 ∷ 0 ∷ 0 ∷ [] }
  pub short : swept_along (0 ∷ 1 ∷ [])
      ≡ record { told = tell 14 (2 ∷ []); map = marked_map; rows = unused_rows; progress = 0 ∷ 0 ∷ 0 ∷ [] }
  pub missing : swept_along (3 ∷ [])
      ≡ record { told = tell 14 (0 ∷ []); map = marked_map; rows = unused_rows; progress = 0 ∷ 0 ∷ 0 ∷ [] }
  -- 8: column 0 at rows 0, 1, 1, 4: refusal 3, column 0, entry 2
  pub bad_row : checked repeated ≡ tell 3 (0 ∷ 2 ∷ [])
