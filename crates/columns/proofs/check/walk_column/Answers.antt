-- `columns::check::walk_column` walks while nothing is bad, so it stops at the first bad row or at the end: each turn's facts are those of `WalkedTo`.
-- Assumes nothing.
use Rattle.std.proofs.Common.{◌≡◌, ◌+◌, ◌<◌, ◌≤◌, ◌^◌, ℕ, List, ap, sym, ◌∙◌, arith, length, drop, lit<}
use Rattle.ground.specs.First.{first}
use Rattle.columns.specs.Columns.{row_bad}
use Rattle.columns.proofs.PartLaws.{next_inside, next_is, next_rest, none_left}
use Rattle.columns.proofs.ReaderLaws.{least_at, least_first, WalkedTo, stops_there, stops_ended, above_there, walk_stops, walk_turn}
use Rattle.columns.proofs.check.walk_column.Goals as goal

-- what a turn knows
abbrev known : (nrows : ℕ) (rows : List ℕ) (at least : ℕ) → least < 2 ^ 64 → at ≤ length rows → least ≡ least_at rows at
    → first (row_bad nrows rows 0) at (length rows) ≡ first (row_bad nrows rows 0) 0 (length rows) → WalkedTo nrows rows
known nrows rows at least f h e r = record { at = at; least = least; fits = f; inside = h; floor = e; rest = r }

pub loop-at-init : goal.loop-at-init
loop-at-init c =
    let e = c.into_iter-at-iterator.ensures.into_iter_gives in
    let iter = ap (λ i. i.iter) e ∙ c.enumerate-at-items.ensures.source in
    let at = ap (λ i. i.count) e ∙ c.enumerate-at-items.ensures.count in
    let r = c.reader.ensures in
    (rw (iter, r.0, r.1, at), lit< tt, rw at (omega arith), rw at (least_first c.args.rows.now), rw at)

pub returns-then-row_bad : goal.returns-then-row_bad
returns-then-row_bad c =
    let rows = c.args.rows.now in
    let at = c.loop-at.at-iterator.count in
    let i = c.loop-at.invariant in
    let s = c.in-Some.ensures.steps in
    let e = sym i.0 ∙ s.0 in
    let x = c.wide-row.ensures.value ∙ next_is rows _ _ _ 0 e in
    let t = sym (stops_there c.args.nrows rows c.loop-at.least at _ (next_inside rows _ _ _ e) x) ∙ sym c.if-row_bad.ensures in
    s.1 ∙ walk_stops _ _ (known c.args.nrows rows at c.loop-at.least i.1 i.2 i.3 i.4) t

pub loop-at-preserved : goal.loop-at-preserved
loop-at-preserved c =
    let rows = c.args.rows.now in
    let at = c.loop-at.at-iterator.count in
    let i = c.loop-at.invariant in
    let s = c.in-Some.ensures.steps in
    let e = sym i.0 ∙ s.0 in
    let l = next_inside rows _ _ _ e in
    let x = c.wide-row.ensures.value ∙ next_is rows _ _ _ 0 e in
    let t = sym (stops_there c.args.nrows rows c.loop-at.least at _ l x) ∙ sym c.if-row_bad.ensures in
    let f : c.wide-row.result + 1 < 2 ^ 64 = omega arith in
    let w = walk_turn _ _ (known c.args.nrows rows at c.loop-at.least i.1 i.2 i.3 i.4) _ f (above_there c.args.nrows rows c.loop-at.least at _ l x) t in
    (next_rest rows _ _ _ e ∙ ap (λ k. drop k rows) (sym s.2), f, rw s.2 w.inside, rw s.2 w.floor, rw s.2 w.rest)

pub returns : goal.returns
returns c =
    let rows = c.args.rows.now in
    let at = c.loop-at.at-iterator.count in
    let i = c.loop-at.invariant in
    let n = none_left _ _ (sym i.0 ∙ c.in-None.ensures.steps.0.0) in
    let s = walk_stops _ _ (known c.args.nrows rows at c.loop-at.least i.1 i.2 i.3 i.4) (stops_ended c.args.nrows rows c.loop-at.least at n) in
    let a : length rows ≡ at = omega (arith, i.2, n) in
    a ∙ s
