-- `structure::plan` meets its contract: what each check has shown is said once, at the step past it. Assumes nothing.
use mathlib.Core.Path.{◌≡◌, refl}
use mathlib.Core.List.{◌++◌}
use lib.ListN.{drop}
use Rattle.std.proofs.lemmas.Result.{err_from_is_err_and}
use Rattle.columns.specs.Refusals.{done}
use Rattle.columns.specs.Lent.{seen}
use Rattle.columns.proofs.CallLaws.{told-refused, told-done}
use Rattle.blocks.specs.Claims.{parts_told}
use Rattle.plan.specs.Owners.{owner_list}
use Rattle.plan.specs.Spans.{chunk_told}
use Rattle.plan.specs.Plan.{buffers}
use Rattle.plan.proofs.PlanCalls.{Early, Walked, early_room, map-room, plan_ready, room-is, kept-columns, elims-columns, elims-blocks, plan-owners, plan-lists, plan-visible, visible-left, kept_spans, elims-spans, plan_parts, plan-room, plan_walk, mapped_is, plan-connected, owners-is, plan_all, listed-count, listed-list, numbered_list, span_count_lem, span_lists, rows-listed, plan_of_lem}
use Rattle.plan.proofs.structure.plan.Goals.{In_ok-check_parts, In_ok-check_room, In_ok-walk_blocks, In_default}
use Rattle.plan.proofs.structure.plan.Goals as goal

-- 1 to 5 passed, then 6, then 7 to 9, then 10

parts : (c : In_ok-check_parts) → done ≡ parts_told (seen c.args.columns) c.args.sides.kept.now c.args.sides.elims.now (chunk_told c.args.chunk_len)
parts c = told-done _ _ _ (rw c.check_chunk.ensures at c.check_parts.ensures) c.in_ok-check_parts.was

early : (c : In_ok-check_room) → Early (seen c.args.columns) c.args.sides.kept.now c.args.sides.elims.now c.args.chunk_len
    (buffers c.args.map.now c.args.kept_cols.now c.args.elims_cols.now c.args.elims_blocks.now c.args.owners.now c.args.row_list.now c.args.row_starts.now
    c.args.visible.now c.args.visible_starts.now
    c.args.kept_starts.now c.args.kept_lo.now c.args.kept_hi.now c.args.kept_local.now
    c.args.elims_starts.now c.args.elims_lo.now c.args.elims_hi.now c.args.elims_local.now)
early c = record {
  parts = told-done _ _ _ (rw c.check_chunk.ensures at c.check_parts.ensures) c.in_ok-check_parts.was;
  fits = told-done _ _ _ (room-is _ _ _ _ _ _ c.check_room.ensures) c.in_ok-check_room.was;
}

walked : (c : In_ok-walk_blocks) → Walked (seen c.args.columns) c.args.sides.kept.now c.args.sides.elims.now c.args.chunk_len
    (buffers c.args.map.now c.args.kept_cols.now c.args.elims_cols.now c.args.elims_blocks.now c.args.owners.now c.args.row_list.now c.args.row_starts.now
    c.args.visible.now c.args.visible_starts.now
    c.args.kept_starts.now c.args.kept_lo.now c.args.kept_hi.now c.args.kept_local.now
    c.args.elims_starts.now c.args.elims_lo.now c.args.elims_hi.now c.args.elims_local.now)
    c.walk_blocks.new.map
walked c = record {
  early = record {
    parts = told-done _ _ _ (rw c.check_chunk.ensures at c.check_parts.ensures) c.in_ok-check_parts.was;
    fits = told-done _ _ _ (room-is _ _ _ _ _ _ c.check_room.ensures) c.in_ok-check_room.was;
  };
  walk = rw (c.count-n.ensures, c.in_ok-walk_blocks.was) at c.walk_blocks.ensures;
}

pub returns-in_err-check_parts : goal.returns-in_err-check_parts
returns-in_err-check_parts c =
    let p = err_from_is_err_and c.from_residual.result c.from_residual.ensures.1 in
    rw (p.1, p.2)
    (plan_parts _ _ _ _ _ _ (told-refused _ _ _ (rw c.check_chunk.ensures at c.check_parts.ensures) c.in_err-check_parts.was))

pub check_room-requires : goal.check_room-requires
check_room-requires c = early_room _ _ _ _ (parts (goal.at.check_room-requires c).In_ok-check_parts)

pub returns-in_err-check_room : goal.returns-in_err-check_room
returns-in_err-check_room c =
    let p = err_from_is_err_and c.from_residual-in_err-check_room.result c.from_residual-in_err-check_room.ensures.1 in
    rw (p.1, p.2)
    (plan-room _ _ _ _ _ _ (parts (goal.at.returns-in_err-check_room c).In_ok-check_parts)
    (told-refused _ _ _ (room-is _ _ _ _ _ _ c.check_room.ensures) c.in_err-check_room.was))

pub walk_blocks-requires : goal.walk_blocks-requires
walk_blocks-requires c = rw c.count-n.ensures (map-room (early (goal.at.walk_blocks-requires c).In_ok-check_room))

pub returns-in_err-walk_blocks : goal.returns-in_err-walk_blocks
returns-in_err-walk_blocks c =
    let p = err_from_is_err_and c.from_residual-in_err-walk_blocks.result c.from_residual-in_err-walk_blocks.ensures.1 in
    rw (p.1, p.2)
    (plan_walk _ _ (early (goal.at.returns-in_err-walk_blocks c).In_ok-check_room)
    (rw (c.count-n.ensures, c.in_err-walk_blocks.was) at c.walk_blocks.ensures))

pub row_owners-requires : goal.row_owners-requires
row_owners-requires c = plan-owners (plan_ready (walked (goal.at.row_owners-requires c).In_ok-walk_blocks))

pub returns-in-Err : goal.returns-in-Err
returns-in-Err c =
    plan-connected (walked (goal.at.returns-in-Err c).In_ok-walk_blocks) (rw c.in-Err.is at c.row_owners.ensures) c.in-Err.refusal _ refl
    (rw c.count-n.ensures at c.mark_map.ensures)

pub list_columns-kept_dof-requires : goal.list_columns-kept_dof-requires
list_columns-kept_dof-requires c = kept-columns (plan_ready (walked (goal.at.list_columns-kept_dof-requires c).In_ok-walk_blocks))

pub list_columns-elims_dof-requires : goal.list_columns-elims_dof-requires
list_columns-elims_dof-requires c = elims-columns (plan_ready (walked (goal.at.list_columns-elims_dof-requires c).In_ok-walk_blocks))

pub list_blocks-requires : goal.list_blocks-requires
list_blocks-requires c = elims-blocks (plan_ready (walked (goal.at.list_blocks-requires c).In_ok-walk_blocks))

-- what `row_owners` left
owned : (c : In_default) → c.row_owners.new.owners ≡ owner_list (seen c.args.columns) c.args.sides.elims.now ++ drop c.args.columns.nrows c.args.owners.now
owned c = owners-is _ _ _ (rw c.in_default.is at c.row_owners.ensures) refl

pub row_lists-requires : goal.row_lists-requires
row_lists-requires c =
    rw (owned (goal.at.row_lists-requires c).In_default) (plan-lists (plan_ready (walked (goal.at.row_lists-requires c).In_ok-walk_blocks)) _)

pub visible_lists-requires : goal.visible_lists-requires
visible_lists-requires c =
    rw (owned (goal.at.visible_lists-requires c).In_default) (plan-visible (plan_ready (walked (goal.at.visible_lists-requires c).In_ok-walk_blocks)) _)

pub spans-kept_spans-requires : goal.spans-kept_spans-requires
spans-kept_spans-requires c =
    rw (listed-list _ _ c.list_columns-kept_dof.ensures, listed-count _ _ c.list_columns-kept_dof.ensures)
    (kept_spans (plan_ready (walked (goal.at.spans-kept_spans-requires c).In_ok-walk_blocks)) _)

pub spans-eliminated_spans-requires : goal.spans-eliminated_spans-requires
spans-eliminated_spans-requires c =
    rw (listed-list _ _ c.list_columns-elims_dof.ensures, listed-count _ _ c.list_columns-elims_dof.ensures)
    (elims-spans (plan_ready (walked (goal.at.spans-eliminated_spans-requires c).In_ok-walk_blocks)) _)

pub returns : goal.returns
returns c =
    let w = walked (goal.at.returns c).In_ok-walk_blocks in
    let o = owned (goal.at.returns c).In_default in
    let m = seen c.args.columns in
    plan_all w (rw c.in_default.is at c.row_owners.ensures) refl _ _ _
    (span_count_lem m _ _ _ _ c.list_columns-kept_dof.ensures c.spans-kept_spans.ensures)
    (span_count_lem m _ _ _ _ c.list_columns-elims_dof.ensures c.spans-eliminated_spans.ensures)
    (plan_of_lem m c.args.sides.kept.now c.args.sides.elims.now c.args.chunk_len _ _ (mapped_is w)
    (listed-list _ _ c.list_columns-kept_dof.ensures) (listed-list _ _ c.list_columns-elims_dof.ensures) (numbered_list _ _ c.list_blocks.ensures)
    o (rows-listed m _ c.args.owners.now _ _ o c.row_lists.ensures) (visible-left (plan_ready w) _ _ o c.visible_lists.ensures)
    (span_lists m _ _ _ _ c.list_columns-kept_dof.ensures c.spans-kept_spans.ensures) (span_lists m _ _ _ _ c.list_columns-elims_dof.ensures c.spans-eliminated_spans.ensures))
