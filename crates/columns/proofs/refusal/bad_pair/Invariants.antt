-- `columns::refusal::bad_pair` looks for the first pair that misfits. Assumes nothing.
use Rattle.std.proofs.Common.{◌≡◌, ◌≤◌, ◌+◌, ◌/◌, length, drop}
use Rattle.ground.specs.First.{first}
use Rattle.columns.specs.Lengths.{pair_bad}
use Rattle.columns.proofs.refusal.bad_pair.Given as goal

abbrev pub invariant-loop-k : goal.invariant-loop-k
invariant-loop-k l =
    let k = l.k-iterator.count in
    let bad = pair_bad l.exact l.pairs in
    (l.k-iterator.iter.size ≡ 2)
    × (l.k-iterator.iter.rest.now ≡ drop (k + k) l.pairs)
    × (k ≤ length l.pairs / 2)
    × (first bad k (length l.pairs / 2) ≡ first bad 0 (length l.pairs / 2))
