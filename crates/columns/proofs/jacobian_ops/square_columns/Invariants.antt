use Rattle.std.proofs.Common.{◌≡◌, length, slice_set}
use Rattle.ground.specs.Gather.{list_of}
use Rattle.ground.specs.Range.{range}
use Rattle.columns.specs.JacobianOps.{squared_in}
use Rattle.columns.proofs.jacobian_ops.square_columns.Given as goal

abbrev pub invariant-loop-j : goal.invariant-loop-j
invariant-loop-j l =
    (length l.out ≡ length l.initial.out)
    × (range (λ i z. slice_set z i (squared_in l.columns.ptrs.now l.columns.values.now i)) l.j (length l.initial.out) l.out
    ≡ list_of (squared_in l.columns.ptrs.now l.columns.values.now) (length l.initial.out))
