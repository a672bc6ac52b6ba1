-- `columns::unchecked::gather_entries` takes in a pair a turn. Assumes nothing.
use Rattle.std.proofs.Common.{◌≡◌, ◌<◌, ◌≤◌, ◌-◌, ap, ◌∙◌, arith, length, inl, inr}
use lib.Ieee.{nan}
use Rattle.ground.proofs.FoldLaws.{fold_turn, fold_done}
use Rattle.columns.specs.JacobianOps.{entry_term}
use Rattle.columns.specs.Sums.{add_term}
use Rattle.columns.specs.Unchecked.{RunThere}
use Rattle.columns.proofs.PairWalkLaws.{both_start, both_next, left_end, right_end}
use Rattle.columns.proofs.Rules.{takes_one}
use Rattle.columns.proofs.unchecked.gather_entries.Goals as goal

pub loop-row-init : goal.loop-row-init
loop-row-init c =
    let e = c.into_iter-row-iterator.ensures.into_iter_gives in
    let r : RunThere (length c.args.values.now) c.args.lo c.args.hi = rw c.requires.paired c.requires.run in
    let b = both_start c.args.rows.now c.args.values.now c.args.lo c.args.hi c.requires.run r _ _
    (ap (λ i. i.a.rest.now) e ∙ ap (λ i. i.rest.now) c.zip-row-items.ensures.first ∙ c.iter.ensures.rest)
    (ap (λ i. i.b.rest.now) e ∙ c.zip-row-items.ensures.second.0) in
    (b.0, rw b.1)

pub bounds-y-wide : goal.bounds-y-wide
bounds-y-wide c =
    let r : RunThere (length c.args.values.now) c.args.lo c.args.hi = rw c.requires.paired c.requires.run in
    let s = c.in-Some.ensures.steps in
    let n = both_next c.args.rows.now c.args.values.now c.args.lo c.args.hi c.requires.run r _ _ c.loop-row.invariant.0 _ _ _ _ s.0 s.1 in
    rw (c.wide.ensures.value, n.first 0) (c.requires.fit.each _ n.low n.high).below

pub loop-row-preserved : goal.loop-row-preserved
loop-row-preserved c =
    let r : RunThere (length c.args.values.now) c.args.lo c.args.hi = rw c.requires.paired c.requires.run in
    let s = c.in-Some.ensures.steps in
    let n = both_next c.args.rows.now c.args.values.now c.args.lo c.args.hi c.requires.run r _ _ c.loop-row.invariant.0 _ _ _ _ s.0 s.1 in (
      n.next,
      rw n.on (fold_turn add_term (entry_term c.args.rows.now c.args.values.now c.args.y.now) _ n.high c.loop-row.invariant.1
          (takes_one _ _ _ _ _ _ _ _ (n.first 0) (n.second nan) (rw c.wide.ensures.value at c.add_term-acc.ensures))),
    )

pub returns : goal.returns
returns c =
    let r : RunThere (length c.args.values.now) c.args.lo c.args.hi = rw c.requires.paired c.requires.run in
    let end : c.args.hi ≤ c.args.hi - length c.loop-row.row-iterator.a.rest.now = elim c.in-None.ensures.steps [
      | inl u ↦ left_end c.args.rows.now c.args.values.now c.args.lo c.args.hi c.requires.run r _ _ c.loop-row.invariant.0 u.1.0
      | inr u ↦ right_end c.args.rows.now c.args.values.now c.args.lo c.args.hi c.requires.run r _ _ c.loop-row.invariant.0 u.1.0
    ] in
    fold_done add_term (entry_term c.args.rows.now c.args.values.now c.args.y.now) end c.loop-row.invariant.1
