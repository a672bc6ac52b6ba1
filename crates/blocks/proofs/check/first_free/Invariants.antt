-- `check::first_free` looks for the first place that is free. Assumes nothing.
use Rattle.std.proofs.Common.{◌≡◌, ◌≤◌}
use Rattle.ground.specs.First.{first}
use Rattle.blocks.specs.Walk.{is_free_of}
use Rattle.blocks.proofs.check.first_free.Given as goal

abbrev pub invariant-loop-c : goal.invariant-loop-c
invariant-loop-c l = (l.c ≤ l.n) × (first (is_free_of l.map) l.c l.n ≡ first (is_free_of l.map) 0 l.n)
