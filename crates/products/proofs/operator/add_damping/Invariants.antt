-- `operator::add_damping` meets its contract. Assumes nothing.
use Rattle.std.proofs.Common.{◌≡◌, ◌-◌, length}
use Rattle.ground.specs.Range.{range}
use Rattle.products.specs.OperatorCalls.{damp_at, damped_on}
use Rattle.products.proofs.operator.add_damping.Given as goal

abbrev pub invariant-loop-l : goal.invariant-loop-l
invariant-loop-l l =
    (length l.out ≡ length l.initial.out) × (range (damp_at l.d l.v) l.l (length l.d) l.out ≡ damped_on l.d l.v l.initial.out)

abbrev pub decreases-loop-l : goal.decreases-loop-l
decreases-loop-l l =
    length l.d - l.l
