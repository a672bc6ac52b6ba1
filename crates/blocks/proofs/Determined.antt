-- Any two outcomes that the promise of a public function of src/check.rt or src/owner.rt permits agree. `Post` is the contract's own reading, at the
-- arguments a, the answer and the parameters at exit. Assumes nothing.
use mathlib.Core.Path.{◌≡◌, ap}
use mathlib.Core.Bool.{Bool}
use mathlib.Core.List.{List}
use Prim.Native.Nat.{ℕ}
use contract.Lifetimes.{Lfts}
use Rattle.ground.specs.Determined.{Determined}
use Rattle.ground.proofs.DeterminedLaws.{by_equation, named}
use Rattle.columns.specs.Refusals.{Answer}
use Rattle.columns.specs.Refusals.{told}
use Rattle.columns.proofs.RefusalLaws.{answer_of, answer_back, told_determined}
use Rattle.blocks.specs.Claims.{Mapped}
use Rattle.blocks.proofs.check.check_parts.Reads as parts
use Rattle.blocks.proofs.check.mark_map.Reads as marking
use Rattle.blocks.proofs.check.walk_blocks.Reads as walk
use Rattle.blocks.proofs.check.check_blocks.Reads as blocks
use Rattle.blocks.proofs.owner.Owner.is_none.Reads as none

-- what is told with the map that is left
pub mapped_determined : (w : Mapped) → Determined (λ (o : Answer × List ℕ). record { told = told o.0; map = o.1 } ≡ w)
mapped_determined =
    by_equation (λ (o : Answer × List ℕ). record { told = told o.0; map = o.1 }) (λ (w : Mapped). (answer_of w.told, w.map))
    (λ o. ap (λ (a : Answer). (a, o.1)) (answer_back o.0))

pub check_parts : (κs : Lfts 2) (a : _) (s t : _) (p q : Answer) → parts.Post κs a p s → parts.Post κs a q t → p ≡ q
check_parts κs a s t p q = told_determined _ p q

pub mark-map : (κs : Lfts 1) (a : _) (s t : _) (p q : _) → marking.Post κs a p s → marking.Post κs a q t → s.0.now ≡ t.0.now
mark-map κs a s t p q = named _ s.0.now t.0.now

pub is_none : (κs : Lfts 0) (a : _) (s t : _) (p q : Bool) → none.Post κs a p s → none.Post κs a q t → p ≡ q
is_none κs a s t p q = named _ p q

pub walk_blocks_lem : (κs : Lfts 2) (a : _) (s t : _) (p q : Answer) → walk.Post κs a p s → walk.Post κs a q t
    → ◌≡◌ {A = Answer × List ℕ} (p, s.1.1.0.now) (q, t.1.1.0.now)
walk_blocks_lem κs a s t p q = mapped_determined _ (p, s.1.1.0.now) (q, t.1.1.0.now)

pub check_blocks_lem : (κs : Lfts 3) (a : _) (s t : _) (p q : Answer) → blocks.Post κs a p s → blocks.Post κs a q t
    → ◌≡◌ {A = Answer × List ℕ} (p, s.1.1.0.now) (q, t.1.1.0.now)
check_blocks_lem κs a s t p q = mapped_determined _ (p, s.1.1.0.now) (q, t.1.1.0.now)
