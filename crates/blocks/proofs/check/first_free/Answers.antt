-- `check::first_free` stops at the first free place. Assumes nothing.
use Rattle.std.proofs.Common.{◌≡◌, ◌<◌, ◌≤◌, sym, ◌∙◌, arith, length}
use lib.Seq.{get_or-take, length-take-le}
use Rattle.ground.proofs.FirstLaws.{first_turn, first_stop, first_end}
use Rattle.blocks.specs.Walk.{is_free_of}
use Rattle.blocks.proofs.WalkRules.{found_at, found_none, is_free, is_taken}
use Rattle.blocks.proofs.check.first_free.Goals as goal

pub returns-then-place : goal.returns-then-place
returns-then-place c =
    let map = c.args.map.now in
    let l : c.loop-c.c < c.args.n = omega (arith, length-take-le c.args.n map c.requires, c.loop-c-test.true) in
    found_at _ _ _ (first_stop (is_free_of map) l c.loop-c.invariant.1 (is_free map _ (sym (get_or-take c.args.n map c.loop-c.c 0 l) ∙ c.if-place.true))) l

pub loop-c-preserved : goal.loop-c-preserved
loop-c-preserved c =
    let map = c.args.map.now in
    let l : c.loop-c.c < c.args.n = omega (arith, length-take-le c.args.n map c.requires, c.loop-c-test.true) in (
      omega (arith, l),
      first_turn (is_free_of map) l c.loop-c.invariant.1 (is_taken map _ (λ e. c.if-place.false (get_or-take c.args.n map c.loop-c.c 0 l ∙ e))),
    )

pub returns : goal.returns
returns c =
    let end : c.args.n ≤ c.loop-c.c = omega (arith, length-take-le c.args.n c.args.map.now c.requires, c.loop-c-test.false) in
    found_none _ _ _ (first_end (is_free_of c.args.map.now) c.loop-c.invariant.0 end c.loop-c.invariant.1) (omega arith)
