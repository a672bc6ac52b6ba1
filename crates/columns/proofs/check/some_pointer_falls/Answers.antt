-- `columns::check::some_pointer_falls` keeps whether one of the pairs that are gone falls. Assumes nothing.
use Rattle.std.proofs.Common.{ap, ◌∙◌, ◌+◌, rules}
use Rattle.ground.proofs.FirstLaws.{some-done}
use Rattle.columns.specs.Columns.{falls}
use Rattle.columns.proofs.CheckRules.{pointers_read}
use Rattle.columns.proofs.WindowLaws.{gone, rest_all, rest_none, pair_taken, pair_seen}
use Rattle.columns.proofs.check.some_pointer_falls.Goals as goal

pub loop-before-init : goal.loop-before-init
loop-before-init c =
    let a = rest_all _ _ (ap (λ i. i.parts.rest.now) c.into_iter-before-iterator.ensures.into_iter_gives ∙ c.array_windows-before-items.ensures.rest) in
    (search rules, tt, a.0, rw a.1)

pub loop-before-preserved : goal.loop-before-preserved
loop-before-preserved c =
    let i = c.loop-before.invariant in
    let s = c.in-Some.ensures.steps in
    let p = pair_taken _ _ _ _ _ i.0.1 i.2 s.1.0 s.1.1 s.1.2 in
    (search rules, tt, p.next, pair_seen p (falls c.args.ptrs.now) _ (rw (p.first, p.second) (pointers_read _ _)) _ _ i.3)

pub returns : goal.returns
returns c =
    let i = c.loop-before.invariant in
    some-done (falls c.args.ptrs.now) _ (rest_none _ _ _ i.0.1 i.2 c.in-None.ensures.steps.1.0) i.3
