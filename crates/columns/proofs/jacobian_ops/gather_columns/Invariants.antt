use Rattle.std.proofs.Common.{◌≡◌, length, slice_set}
use Rattle.ground.specs.Gather.{list_of}
use Rattle.ground.specs.Range.{range}
use Rattle.columns.specs.Lent.{over}
use Rattle.columns.specs.JacobianOps.{gathered}
use Rattle.columns.proofs.jacobian_ops.gather_columns.Given as goal

abbrev pub invariant-loop-j : goal.invariant-loop-j
invariant-loop-j l =
    (length l.out ≡ length l.initial.out)
    × (range (λ i z. slice_set z i (gathered (over (length l.v) l.columns) l.v i)) l.j (length l.initial.out) l.out
    ≡ list_of (gathered (over (length l.v) l.columns) l.v) (length l.initial.out))
