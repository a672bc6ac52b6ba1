-- `Blocks::next` leaves a block fewer. Assumes nothing.
use Rattle.blocks.proofs.BlockListLaws.{fewer}
use Rattle.blocks.proofs.sides.BlocksIterator.next.Goals as goal

pub returns-clause-goes : goal.returns-clause-goes
returns-clause-goes c = let s = c.in_ok-pair.ensures.cases in record { on = λ _. (tt, tt, fewer _ _ s.1 s.2); keeps = tt; rests = λ _. tt }
