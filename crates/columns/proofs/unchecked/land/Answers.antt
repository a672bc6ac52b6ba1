-- `columns::unchecked::land` meets its contract. Assumes nothing.
use Rattle.std.proofs.Common.{refl}
use Rattle.columns.specs.Sums.{landed}
use Rattle.columns.proofs.unchecked.land.Goals as goal

pub returns : goal.returns
unfolding landed
returns c = rw (c.join.ensures, c.wide-r.ensures.value) refl
