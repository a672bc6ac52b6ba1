-- `columns::unchecked::land_all` lands a pair a turn. Assumes nothing.
use Rattle.std.proofs.Common.{◌≡◌, ◌≤◌, ◌-◌, ap, sym, ◌∙◌, refl, arith, length, inl, inr}
use lib.Ieee.{nan}
use Rattle.ground.specs.Gather.{gather}
use Rattle.ground.proofs.GatherLaws.{gather_none}
use Rattle.ground.proofs.FoldLaws.{fold_turn, fold_done, folded-one}
use Rattle.columns.specs.JacobianOps.{landing}
use Rattle.columns.specs.Sums.{landed, swept_on}
use Rattle.columns.proofs.PairWalkLaws.{entries_run, both_start, both_next, left_end, right_end}
use Rattle.columns.proofs.SumLaws.{length-landed}
use Rattle.columns.proofs.Rules.{lands_none, lands_one}
use Rattle.columns.proofs.unchecked.land_all.Goals as goal

pub returns-then-hi-lo : goal.returns-then-hi-lo
returns-then-hi-lo c = lands_none _ _ _ _ _ _ _ c.if-hi-lo.true

pub loop-row-init : goal.loop-row-init
loop-row-init c =
    let r = entries_run _ _ _ _ _ c.requires (omega (arith, c.if-hi-lo.false)) in
    let e = c.into_iter-row-iterator.ensures.into_iter_gives in
    let b = both_start c.args.rows.now c.args.values.now c.args.lo c.args.hi r.0 r.1 _ _
    (ap (λ i. i.a.rest.now) e ∙ ap (λ i. i.rest.now) c.zip-row-items.ensures.first ∙ c.iter.ensures.rest)
    (ap (λ i. i.b.rest.now) e ∙ c.zip-row-items.ensures.second.0) in
    (b.0, refl, rw b.1)

pub land-requires : goal.land-requires
land-requires c =
    let r = entries_run _ _ _ _ _ c.requires (omega (arith, c.if-hi-lo.false)) in
    let s = c.in-Some.ensures.steps in
    let n = both_next c.args.rows.now c.args.values.now c.args.lo c.args.hi r.0 r.1 _ _ c.loop-row.invariant.0 _ _ _ _ s.0 s.1 in
    rw (n.first 0, c.loop-row.invariant.1) (c.requires.each _ n.low n.high).below

pub loop-row-preserved : goal.loop-row-preserved
loop-row-preserved c =
    let r = entries_run _ _ _ _ _ c.requires (omega (arith, c.if-hi-lo.false)) in
    let s = c.in-Some.ensures.steps in
    let n = both_next c.args.rows.now c.args.values.now c.args.lo c.args.hi r.0 r.1 _ _ c.loop-row.invariant.0 _ _ _ _ s.0 s.1 in (
      n.next,
      ap length c.land.ensures ∙ length-landed _ _ _ ∙ c.loop-row.invariant.1,
      rw n.on (fold_turn (landed c.args.sign) (landing c.args.rows.now c.args.values.now c.args.x) _ n.high c.loop-row.invariant.2
          (lands_one _ _ _ _ _ _ _ _ _ (n.first 0) (n.second nan) c.land.ensures)),
    )

pub returns : goal.returns
returns c =
    let r = entries_run _ _ _ _ _ c.requires (omega (arith, c.if-hi-lo.false)) in
    let end : c.args.hi ≤ c.args.hi - length c.loop-row.row-iterator.a.rest.now = elim c.in-None.ensures.steps [
      | inl u ↦ left_end c.args.rows.now c.args.values.now c.args.lo c.args.hi r.0 r.1 _ _ c.loop-row.invariant.0 u.1.0
      | inr u ↦ right_end c.args.rows.now c.args.values.now c.args.lo c.args.hi r.0 r.1 _ _ c.loop-row.invariant.0 u.1.0
    ] in
    fold_done (landed c.args.sign) (landing c.args.rows.now c.args.values.now c.args.x) end c.loop-row.invariant.2
