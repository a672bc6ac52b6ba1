use Rattle.std.proofs.Common.{◌≡◌, ◌||◌, ◌-◌, length}
use Rattle.ground.specs.First.{some}
use Rattle.columns.specs.Columns.{falls}
use Rattle.columns.proofs.WindowLaws.{gone, IsRest}
use Rattle.columns.proofs.check.some_pointer_falls.Given as goal

abbrev pub invariant-loop-before : goal.invariant-loop-before
invariant-loop-before l =
    (goal.iterator-loop-before).can_next l.before-iterator
    × (goal.iterator-loop-before).is_finite l.before-iterator
    × IsRest l.ptrs l.before-iterator.parts.rest.now
    × ((l.bad || some (falls l.ptrs) (gone l.ptrs l.before-iterator.parts.rest.now) (length l.ptrs - 1)) ≡ some (falls l.ptrs) 0 (length l.ptrs - 1))
