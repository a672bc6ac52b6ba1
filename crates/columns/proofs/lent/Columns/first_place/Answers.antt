use Rattle.columns.specs.Columns.{first_in}
use Rattle.columns.proofs.lent.Columns.first_place.Goals as goal

pub returns : goal.returns
unfolding first_in
returns c = search c.wide.ensures.value
