-- `spans_sweep::sweep_plan` meets its contract. Assumes nothing.
use Rattle.std.proofs.Common.{◌≡◌, length}
use Rattle.ground.specs.Gather.{gather}
use Rattle.ground.specs.Fold.{folded}
use Rattle.columns.specs.Sums.{landed, swept_on}
use Rattle.products.specs.Orders.{span_terms}
use Rattle.products.specs.OrderWalk.{entries_only, spans_only}
use Rattle.products.proofs.spans_sweep.sweep_plan.Given as goal

abbrev pub invariant-loop-k : goal.invariant-loop-k
invariant-loop-k l =
    (length l.y ≡ length l.initial.y) × (folded (landed l.sign) l.y (gather (span_terms (entries_only l.columns.rows.now l.columns.values.now) (spans_only l.spans.lo.now l.spans.hi.now l.spans.local.now) l.v) l.k (length l.spans.lo.now)) ≡ swept_on l.sign l.initial.y (gather (span_terms (entries_only l.columns.rows.now l.columns.values.now) (spans_only l.spans.lo.now l.spans.hi.now l.spans.local.now) l.v) 0 (length l.spans.lo.now)))
