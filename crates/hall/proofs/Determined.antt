-- Any two outcomes that the promise of `hall_ok` permits agree, since it names the one. `Post` is the contract's own reading, at the arguments a, the
-- result and the parameters at exit. Assumes nothing.
use mathlib.Core.Path.{◌≡◌}
use mathlib.Core.Bool.{Bool}
use contract.Lifetimes.{Lfts}
use Rattle.ground.proofs.DeterminedLaws.{named}
use Rattle.hall.proofs.hall_ok.Reads as hall-ok-reads

pub hall_ok : (κs : Lfts 0) (a : _) (s t : _) (p q : Bool) → hall-ok-reads.Post κs a p s → hall-ok-reads.Post κs a q t → p ≡ q
hall_ok κs a s t p q = named _ p q
