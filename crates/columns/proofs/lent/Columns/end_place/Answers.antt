use Rattle.columns.specs.Columns.{end_in}
use Rattle.columns.proofs.lent.Columns.end_place.Goals as goal

pub returns : goal.returns
unfolding end_in
returns c = search c.wide.ensures.value
