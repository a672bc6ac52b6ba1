-- `blocks::damping::Damping::identity` meets its contract. Assumes nothing.
use lib.Ieee.{of_bits, of_int}
use Rattle.blocks.proofs.DampingRules.{damping}
use Rattle.blocks.proofs.damping.Damping.identity.Goals as goal

pub returns : goal.returns
unfolding of_bits of_int
returns c = search damping
