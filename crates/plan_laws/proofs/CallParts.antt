-- What `plan` is lent, and what it leaves, by name: its parameters in their order, a at entry and t at exit. Assumes nothing.
use mathlib.Core.List.{List}
use Prim.Native.Nat.{ℕ}
use contract.Lifetimes.{Lfts}
use denote.Triple.Clauses.{AtExit}
use borrow.Fn.Kinds.{ended_of}
use borrow.Fn.World.{ArgsD}
use Rattle.columns.specs.Columns.{Columns}
use Rattle.columns.specs.Lent.{seen}
use Rattle.plan.specs.Plan.{Buffers, buffers}
use Rattle.plan.specs.contracts.structure.plan as planning
use Rattle.plan.proofs.structure.plan.Kinds as plan_kinds

module _ (κs : Lfts 19) (a : ArgsD planning.signature κs) where
  abbrev pub plan_columns : Columns
  plan_columns = seen a.0

  abbrev pub plan_kept : List ℕ
  plan_kept = a.1.0.kept.now

  abbrev pub plan_elims : List ℕ
  plan_elims = a.1.0.elims.now

  abbrev pub plan_len : ℕ
  plan_len = a.1.1.0

  abbrev pub plan_lent : Buffers
  plan_lent =
      buffers
      a.1.1.1.0.now a.1.1.1.1.0.now a.1.1.1.1.1.0.now a.1.1.1.1.1.1.0.now
      a.1.1.1.1.1.1.1.0.now a.1.1.1.1.1.1.1.1.0.now a.1.1.1.1.1.1.1.1.1.0.now a.1.1.1.1.1.1.1.1.1.1.0.now
      a.1.1.1.1.1.1.1.1.1.1.1.0.now a.1.1.1.1.1.1.1.1.1.1.1.1.0.now a.1.1.1.1.1.1.1.1.1.1.1.1.1.0.now a.1.1.1.1.1.1.1.1.1.1.1.1.1.1.0.now
      a.1.1.1.1.1.1.1.1.1.1.1.1.1.1.1.0.now a.1.1.1.1.1.1.1.1.1.1.1.1.1.1.1.1.0.now a.1.1.1.1.1.1.1.1.1.1.1.1.1.1.1.1.1.0.now a.1.1.1.1.1.1.1.1.1.1.1.1.1.1.1.1.1.1.0.now
      a.1.1.1.1.1.1.1.1.1.1.1.1.1.1.1.1.1.1.1.0.now

module _ (κs : Lfts 19) (t : AtExit (ended_of 19 plan_kinds.ps plan_kinds.r) κs) where
  abbrev pub plan_leaves_of : Buffers
  plan_leaves_of =
      buffers
      t.1.1.1.0.now t.1.1.1.1.0.now t.1.1.1.1.1.0.now t.1.1.1.1.1.1.0.now
      t.1.1.1.1.1.1.1.0.now t.1.1.1.1.1.1.1.1.0.now t.1.1.1.1.1.1.1.1.1.0.now t.1.1.1.1.1.1.1.1.1.1.0.now
      t.1.1.1.1.1.1.1.1.1.1.1.0.now t.1.1.1.1.1.1.1.1.1.1.1.1.0.now t.1.1.1.1.1.1.1.1.1.1.1.1.1.0.now t.1.1.1.1.1.1.1.1.1.1.1.1.1.1.0.now
      t.1.1.1.1.1.1.1.1.1.1.1.1.1.1.1.0.now t.1.1.1.1.1.1.1.1.1.1.1.1.1.1.1.1.0.now t.1.1.1.1.1.1.1.1.1.1.1.1.1.1.1.1.1.0.now t.1.1.1.1.1.1.1.1.1.1.1.1.1.1.1.1.1.1.0.now
      t.1.1.1.1.1.1.1.1.1.1.1.1.1.1.1.1.1.1.1.0.now
