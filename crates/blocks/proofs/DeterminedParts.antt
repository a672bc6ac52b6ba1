-- Any two outcomes that the contract of damping, a lookup or block access permits agree. `Post` is the contract's own reading: at the
-- arguments a, the result and the parameters as the call leaves them. Each is the general law `by_equation`, or `named`, where the contract
-- names the result. Assumes nothing.
use mathlib.Core.Path.{◌≡◌, refl, ap}
use mathlib.Core.Bool.{cond}
use mathlib.Core.List.{List}
use Prim.Native.Nat.{ℕ}
use contract.Lifetimes.{Lfts}
use lib.Dec.{eqb}
use lib.ListN.{get_or}
use lib.Ieee.{Float, nan}
use Rattle.ground.proofs.DeterminedLaws.{by_equation, named}
use Rattle.columns.specs.declared.refusal.Refusal.{Refusal}
use Rattle.columns.specs.Refusals.{Answer}
use Rattle.columns.specs.Refusals.{told}
use Rattle.columns.proofs.RefusalLaws.{refusal_of, refusal_back, number-some, answer_of, answer_back}
use Rattle.blocks.specs.declared.damping.Damping.{Damping}
use Rattle.std.specs.Prelude.{Option, Result, Ok, Err}
use Rattle.blocks.specs.declared.partition.ColSlot.{ColSlot}
use Rattle.blocks.specs.declared.eliminated_blocks.Place.{Place}
use Rattle.blocks.specs.Damping.{Termed, termed}
use Rattle.blocks.specs.BlockValues.{ValuesLeft}
use Rattle.blocks.proofs.damping.Damping.identity.Reads as identity
use Rattle.blocks.proofs.damping.Damping.diagonal_term.Reads as diagonal
use Rattle.blocks.proofs.partition.slot.Reads as slots
use Rattle.blocks.proofs.partition.kept_local.Reads as kept
use Rattle.blocks.proofs.partition.eliminated_local.Reads as eliminated
use Rattle.blocks.proofs.partition.kept_offset.Reads as kept_offset
use Rattle.blocks.proofs.partition.eliminated_offset.Reads as eliminated_offset
use Rattle.blocks.proofs.eliminated_blocks.block_place.Reads as places
use Rattle.blocks.proofs.eliminated_blocks.block.Reads as blocks
use Rattle.blocks.proofs.eliminated_blocks.dof.Reads as dofs
use Rattle.blocks.proofs.eliminated_blocks.at.Reads as entries
use Rattle.blocks.proofs.eliminated_blocks.count_values.Reads as counts
use Rattle.blocks.proofs.eliminated_blocks.gather_from_jacobian.Reads as gathers
use Rattle.blocks.proofs.eliminated_blocks.damp.Reads as damps
use Rattle.blocks.proofs.sides.blocks_of.Reads as lists

unfoldable term_back_of : Termed → Result Float Refusal
term_back_of d = cond (eqb d.told.number 0) (Ok (get_or d.terms 0 nan)) (Err (refusal_of d.told))

term_back_lem : (d : Result Float Refusal) → term_back_of (termed d) ≡ d
unfolding term_back_of
term_back_lem (Ok x) = refl
term_back_lem (Err r) = rw (number-some r) (ap (λ (s : Refusal). Err s) (refusal_back r))

pub identity_of_lem : (κs : Lfts 0) (a : _) (s t : _) (p q : Damping) → identity.Post κs a p s → identity.Post κs a q t → p ≡ q
identity_of_lem κs a s t p q = named _ p q

pub diagonal-term : (κs : Lfts 0) (a : _) (s t : _) (p q : Result Float Refusal) → diagonal.Post κs a p s → diagonal.Post κs a q t → p ≡ q
diagonal-term κs a s t p q = by_equation termed term_back_of term_back_lem _ p q

pub slot : (κs : Lfts 1) (a : _) (s t : _) (p q : Option ColSlot) → slots.Post κs a p s → slots.Post κs a q t → p ≡ q
slot κs a s t p q = named _ p q

-- the list itself is handed on
pub blocks-of : (κs : Lfts 1) (a : _) (s t : _) (p q : _) → lists.Post κs a p s → lists.Post κs a q t → p.rest ≡ q.rest
blocks-of κs a s t p q = named _ p.rest q.rest

pub kept-local : (κs : Lfts 1) (a : _) (s t : _) (p q : Option ℕ) → kept.Post κs a p s → kept.Post κs a q t → p ≡ q
kept-local κs a s t p q = named _ p q

pub eliminated-local : (κs : Lfts 1) (a : _) (s t : _) (p q : Option (ℕ × ℕ)) → eliminated.Post κs a p s → eliminated.Post κs a q t → p ≡ q
eliminated-local κs a s t p q = named _ p q

pub kept-offset : (κs : Lfts 1) (a : _) (s t : _) (p q : Option ℕ) → kept_offset.Post κs a p s → kept_offset.Post κs a q t → p ≡ q
kept-offset κs a s t p q = named _ p q

pub eliminated-offset : (κs : Lfts 1) (a : _) (s t : _) (p q : Option ℕ) → eliminated_offset.Post κs a p s → eliminated_offset.Post κs a q t → p ≡ q
eliminated-offset κs a s t p q = named _ p q

pub block-place : (κs : Lfts 1) (a : _) (s t : _) (p q : Place) → places.Post κs a p s → places.Post κs a q t → p ≡ q
block-place κs a s t p q = named _ p q

-- the part's contents; where it lies in memory no contract says
pub block : (κs : Lfts 2) (a : _) (s t : _) (p q : _) → blocks.Post κs a p s → blocks.Post κs a q t → p.now ≡ q.now
block κs a s t p q = named _ p.now q.now

pub dof : (κs : Lfts 1) (a : _) (s t : _) (p q : Option ℕ) → dofs.Post κs a p s → dofs.Post κs a q t → p ≡ q
dof κs a s t p q = named _ p q

pub at : (κs : Lfts 2) (a : _) (s t : _) (p q : Option Float) → entries.Post κs a p s → entries.Post κs a q t → p ≡ q
at κs a s t p q = named _ p q

pub count-values : (κs : Lfts 1) (a : _) (s t : _) (p q : ℕ) → counts.Post κs a p s → counts.Post κs a q t → p ≡ q
count-values κs a s t p q = named _ p q

-- an answer, with the map and the block values that the call leaves
abbrev Outcome : Type 0
Outcome = Answer × List ℕ × List Float

abbrev outcome : Answer → List ℕ → List Float → Outcome
outcome a map values = (a, map, values)

values_determined : (r : ValuesLeft) (p q : Outcome) → record { told = told p.0; map = p.1; values = p.2 } ≡ r → record { told = told q.0; map = q.1; values = q.2 } ≡ r
    → p ≡ q
values_determined r =
    by_equation (λ (o : Outcome). record { told = told o.0; map = o.1; values = o.2 }) (λ (w : ValuesLeft). outcome (answer_of w.told) w.map w.values)
    (λ o. ap (λ (a : Answer). outcome a o.1 o.2) (answer_back o.0)) r

pub gather_from_jacobian_lem : (κs : Lfts 4) (a : _) (s t : _) (p q : Answer) → gathers.Post κs a p s → gathers.Post κs a q t
    → outcome p s.1.1.0.now s.1.1.1.0.now ≡ outcome q t.1.1.0.now t.1.1.1.0.now
gather_from_jacobian_lem κs a s t p q =
    values_determined _ (outcome p s.1.1.0.now s.1.1.1.0.now)
    (outcome q t.1.1.0.now t.1.1.1.0.now)

pub damp : (κs : Lfts 4) (a : _) (s t : _) (p q : Answer) → damps.Post κs a p s → damps.Post κs a q t
    → outcome p s.1.1.0.now s.1.1.1.1.0.now ≡ outcome q t.1.1.0.now t.1.1.1.1.0.now
damp κs a s t p q =
    values_determined _ (outcome p s.1.1.0.now s.1.1.1.1.0.now)
    (outcome q t.1.1.0.now t.1.1.1.1.0.now)
