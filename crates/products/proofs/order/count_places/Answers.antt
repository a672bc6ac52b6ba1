-- `order::count_places` meets its contract. Assumes nothing.
use Rattle.std.proofs.Common.{ℕ, ◌+◌, length, ap, ◌∙◌, le_antisymm, arith, length-set}
use Rattle.products.specs.OrderWalk.{counts}
use Rattle.products.proofs.OrderRules.{counted, place-told, next_in, next_more, counts-next, ordering}
use Rattle.ground.proofs.FirstLaws.{first_stop, first_turn, first_end}
use Rattle.std.proofs.Common.{not}
use Rattle.products.proofs.order.count_places.Goals as goal

pub returns-then-not-has_next : goal.returns-then-not-has_next
returns-then-not-has_next c =
    counted _ _ _ _ c.loop-i.i c.loop-i.invariant.2 (first_stop _ c.loop-i-test.true c.loop-i.invariant.3 (place-told _ c.args.starts.now c.args.order.now c.loop-i.progress c.loop-i.i _ c.has_next.result _ c.loop-i.invariant.2 c.wide-c.ensures.value c.has_next.ensures (ap not c.if-not-has_next.true)))

pub bounds-progress-c : goal.bounds-progress-c
bounds-progress-c c =
    next_in c.args.starts.now c.loop-i.progress _ c.has_next.result c.has_next.ensures (ap not c.if-not-has_next.false)

pub overflow_add-progress : goal.overflow_add-progress
overflow_add-progress c =
    omega (arith, next_more c.args.starts.now c.loop-i.progress _ c.has_next.result c.has_next.ensures (ap not c.if-not-has_next.false) (omega (arith, c.type_inv.starts (c.wide-c.result + 1))))

pub bounds-progress-c-in-loop-i : goal.bounds-progress-c-in-loop-i
bounds-progress-c-in-loop-i c =
    next_in c.args.starts.now c.loop-i.progress _ c.has_next.result c.has_next.ensures (ap not c.if-not-has_next.false)

pub loop-i-preserved : goal.loop-i-preserved
loop-i-preserved c = (
  search ordering,
  simp length-set c.loop-i.invariant.1,
  counts-next (length c.args.progress.now) c.args.order.now c.loop-i.progress c.loop-i.i c.wide-c.result c.loop-i.invariant.2 c.wide-c.ensures.value (omega (arith, c.loop-i.invariant.1, next_in c.args.starts.now c.loop-i.progress c.wide-c.result c.has_next.result c.has_next.ensures (ap not c.if-not-has_next.false))),
  first_turn _ c.loop-i-test.true c.loop-i.invariant.3 (place-told _ c.args.starts.now c.args.order.now c.loop-i.progress c.loop-i.i _ c.has_next.result _ c.loop-i.invariant.2 c.wide-c.ensures.value c.has_next.ensures (ap not c.if-not-has_next.false)),
)

pub returns : goal.returns
returns c =
    counted _ _ _ _ _ (c.loop-i.invariant.2 ∙ ap (λ (i : ℕ). counts (length c.args.progress.now) c.args.order.now i) (le_antisymm c.loop-i.invariant.0 c.loop-i-test.false)) (first_end _ c.loop-i.invariant.0 c.loop-i-test.false c.loop-i.invariant.3)
