-- `lists::list_block` meets its contract. Assumes nothing.
use mathlib.Core.Path.{◌∙◌}
use native.Mathlib.Omega.{arith}
use Rattle.ground.proofs.ListLaws.{front_turn, front-done}
use Rattle.plan.proofs.lists.list_block.Goals as goal

pub loop-i-preserved : goal.loop-i-preserved
loop-i-preserved g c = λ v h. rw (c.loop-i.invariant v h) (front_turn 0 _ _ _ _ c.loop-i-test.true (h _ _ _ c.number.ensures))

pub returns : goal.returns
returns g c = λ v h. c.loop-i.invariant v h ∙ front-done 0 _ c.args.places.now c.loop-i.i (omega arith)
