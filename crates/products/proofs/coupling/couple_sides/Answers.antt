-- `coupling::couple_sides` tells what the blocks' check, and then the lengths' check, tells. Past both the lengths are those that `couple` asks, and what it leaves is
-- the product, from the chosen side to the other. Assumes nothing.
use Rattle.std.proofs.Common.{◌≡◌, not, ap, ◌∙◌}
use Rattle.std.proofs.lemmas.Result.{err_from_is_err_and}
use Rattle.columns.specs.Lent.{seen}
use Rattle.blocks.specs.Sides.{side_dof, side_of}
use Rattle.blocks.specs.Claims.{BlocksKeep}
use Rattle.products.specs.Side.{eliminated}
use Rattle.products.specs.Couplings.{coupling_lengths}
use Rattle.products.proofs.LentRules.{LentPassed, first-refused, first_keep, then_refused, then_passes, dofs-fit, coupling_lengths_lem, coupling-refused, coupling-fits, coupling-done}
use Rattle.products.proofs.coupling.couple_sides.Goals.{In_ok-check_blocks, In_ok-check_lengths}
use Rattle.products.proofs.coupling.couple_sides.Goals as goal

-- past the blocks' check, and past the lengths'

keep : (c : In_ok-check_blocks) → BlocksKeep (seen c.args.columns) c.args.sides.kept.now c.args.sides.elims.now c.args.map.now
keep c = first_keep _ _ _ _ c.check_blocks.result _ c.check_blocks.ensures c.in_ok-check_blocks.was

gathered : (c : In_ok-check_lengths) → c.chosen-gathered.result.now ≡ side_of (not (eliminated c.args.from)) c.args.sides.kept.now c.args.sides.elims.now
gathered c = c.chosen-gathered.ensures ∙ ap (λ e. side_of e c.args.sides.kept.now c.args.sides.elims.now) c.other.ensures

passed : (c : In_ok-check_lengths) → LentPassed (seen c.args.columns) c.args.sides.kept.now c.args.sides.elims.now c.args.map.now
    (coupling_lengths (seen c.args.columns) (side_of (eliminated c.args.from) c.args.sides.kept.now c.args.sides.elims.now) (side_of (not (eliminated c.args.from)) c.args.sides.kept.now c.args.sides.elims.now) c.args.v.now c.args.y.now c.args.out.now)
    c.check_lengths.new.map
passed c =
    let w = c.side_dof.ensures ∙ ap side_dof c.chosen-swept.ensures in
    let h = c.side_dof-2.ensures ∙ ap side_dof (gathered c) in
    then_passes _ _ _ _ c.check_blocks.result _ c.check_blocks.ensures c.in_ok-check_blocks.was c.check_lengths.result _ _ c.count.ensures _ _ (coupling_lengths_lem _ _ _ c.args.v.now c.args.y.now c.args.out.now _ _ w h) c.check_lengths.ensures c.in_ok-check_lengths.was

pub returns-in_err-check_blocks : goal.returns-in_err-check_blocks
returns-in_err-check_blocks c =
    let p = err_from_is_err_and c.from_residual.result c.from_residual.ensures.1 in
    rw (p.1, p.2)
    (coupling-refused (eliminated c.args.from) _ _ _ _ c.args.v.now c.args.y.now c.args.out.now _ _ (first-refused _ _ _ _ c.check_blocks.result _ c.check_blocks.ensures _ _ c.in_err-check_blocks.was))

pub side_dof-requires : goal.side_dof-requires
side_dof-requires c = rw c.chosen-swept.ensures (dofs-fit _ _ _ _ (keep (goal.at.side_dof-requires c).In_ok-check_blocks) (eliminated c.args.from))

pub side_dof-requires-2 : goal.side_dof-requires-2
side_dof-requires-2 c = rw (c.chosen-gathered.ensures, c.other.ensures) (dofs-fit _ _ _ _ (keep (goal.at.side_dof-requires-2 c).In_ok-check_blocks) _)

pub returns-in_err-check_lengths : goal.returns-in_err-check_lengths
returns-in_err-check_lengths c =
    let e = eliminated c.args.from in
    let w = c.side_dof.ensures ∙ ap side_dof c.chosen-swept.ensures in
    let h = c.side_dof-2.ensures ∙ ap side_dof (c.chosen-gathered.ensures ∙ ap (λ e. side_of e c.args.sides.kept.now c.args.sides.elims.now) c.other.ensures) in
    let p = err_from_is_err_and c.from_residual-in_err-check_lengths.result c.from_residual-in_err-check_lengths.ensures.1 in
    rw (p.1, p.2)
    (coupling-refused e _ _ _ _ c.args.v.now c.args.y.now c.args.out.now _ _
    (then_refused _ _ _ _ c.check_blocks.result _ c.check_blocks.ensures c.in_ok-check_blocks.was c.check_lengths.result _ _ c.count.ensures _ _ (coupling_lengths_lem _ _ _ c.args.v.now c.args.y.now c.args.out.now _ _ w h) c.check_lengths.ensures _ c.in_err-check_lengths.was))

pub couple-requires : goal.couple-requires
couple-requires c =
    let s = (goal.at.couple-requires c).In_ok-check_lengths in
    rw (c.chosen-swept.ensures, gathered s) (coupling-fits (eliminated c.args.from) _ _ _ _ c.args.v.now c.args.y.now c.args.out.now _ (passed s))

pub returns : goal.returns
returns c =
    let s = (goal.at.returns c).In_ok-check_lengths in
    coupling-done (eliminated c.args.from) _ _ _ _ c.args.v.now c.args.y.now c.args.out.now _ (passed s) _ _ (rw (c.chosen-swept.ensures, gathered s) at c.couple.ensures)
