-- `order::count_places` meets its contract. Assumes nothing.
use Rattle.std.proofs.Common.{◌≡◌, ◌-◌, ◌≤◌, length}
use Rattle.ground.specs.First.{first}
use Rattle.products.specs.Orders.{place_bad}
use Rattle.products.specs.OrderWalk.{starts_only, counts}
use Rattle.products.proofs.order.count_places.Given as goal

abbrev pub invariant-loop-i : goal.invariant-loop-i
invariant-loop-i l =
    (l.i ≤ length l.order) × (length l.progress ≡ length l.initial.progress) × (l.progress ≡ counts (length l.initial.progress) l.order l.i) × (first (place_bad (length l.initial.progress) (starts_only l.starts) l.order) l.i (length l.order) ≡ first (place_bad (length l.initial.progress) (starts_only l.starts) l.order) 0 (length l.order))

abbrev pub decreases-loop-i : goal.decreases-loop-i
decreases-loop-i l =
    length l.order - l.i
