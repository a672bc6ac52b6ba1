-- `columns::refusal::bad_pair` stops at the first pair that misfits. Assumes nothing.
use Rattle.std.proofs.Common.{◌≡◌, ◌∙◌, ◌+◌, ap, sym, refl, arith, length}
use Rattle.ground.proofs.FirstLaws.{first_turn, first_stop, first_end}
use Rattle.ground.proofs.TwoLaws.{two_taken, two_none}
use Rattle.columns.specs.Lengths.{pair_bad}
use Rattle.columns.proofs.CheckRules.{pair_tested, pair_found, pair_none}
use Rattle.columns.proofs.refusal.bad_pair.Goals as goal

pub loop-k-init : goal.loop-k-init
loop-k-init c =
    let e = c.into_iter-k-iterator.ensures.into_iter_gives in
    let chunks = ap (λ i. i.iter) e ∙ c.enumerate-k-items.ensures.source in
    let k = ap (λ i. i.count) e ∙ c.enumerate-k-items.ensures.count in (
      ap (λ i. i.size) chunks ∙ c.chunks_exact.ensures.size,
      ap (λ i. i.rest.now) chunks ∙ c.chunks_exact.ensures.rest ∙ rw k,
      rw k (omega arith),
      rw k,
    )

pub returns-then-misfits : goal.returns-then-misfits
returns-then-misfits c =
    let i = c.loop-k.invariant in
    let s = c.in-Some.ensures.steps in
    let t = two_taken _ c.args.pairs.now _ _ i.0 i.1 _ _ s.0.1.0 s.0.1.1 in
    let bad = pair_tested _ _ _ _ _ t.first t.second ∙ sym c.if-misfits.ensures in
    pair_found _ _ _ _ (s.1 ∙ first_stop (pair_bad c.args.exact c.args.pairs.now) t.inside i.3 bad) (rw s.1 t.second) (rw s.1 t.inside)

pub loop-k-preserved : goal.loop-k-preserved
loop-k-preserved c =
    let i = c.loop-k.invariant in
    let s = c.in-Some.ensures.steps in
    let t = two_taken _ c.args.pairs.now _ _ i.0 i.1 _ _ s.0.1.0 s.0.1.1 in
    let fine = pair_tested _ _ _ _ _ t.first t.second ∙ sym c.if-misfits.ensures in (
      s.0.0 ∙ i.0,
      t.next ∙ rw s.2,
      omega (arith, s.2, t.inside),
      rw s.2 (first_turn (pair_bad c.args.exact c.args.pairs.now) t.inside i.3 fine),
    )

pub returns : goal.returns
returns c =
    let i = c.loop-k.invariant in
    pair_none _ _ (first_end (pair_bad c.args.exact c.args.pairs.now) i.2 (two_none _ c.args.pairs.now _ _ i.0 i.1 c.in-None.ensures.steps.0.1.0) i.3)
