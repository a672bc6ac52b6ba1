-- `blocks::eliminated_blocks::squares_before` meets its contract. Assumes nothing.
use mathlib.Core.Path.{◌≡◌}
use Prim.Native.Nat.{◌-◌, ◌≤◌}
use Rattle.blocks.specs.Access.{squares_before}
use Rattle.blocks.proofs.eliminated_blocks.squares_before.Given as goal

abbrev pub invariant-loop-k : goal.invariant-loop-k
invariant-loop-k l =
    (l.k ≤ l.b) × (l.sum ≤ l.most) × (l.sum ≡ squares_before l.elims l.k)
