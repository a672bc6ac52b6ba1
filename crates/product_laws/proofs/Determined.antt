-- Any two outcomes that the promise of a call of src/coupling.rt or src/update.rt permits agree: what it tells, the map and each result. `Post` is
-- the contract's own reading, at the arguments a, the answer and the parameters at exit. Assumes nothing.
use mathlib.Core.Path.{◌≡◌, ap}
use mathlib.Core.List.{List}
use Prim.Native.Nat.{ℕ}
use lib.Ieee.{Float}
use contract.Lifetimes.{Lfts}
use Rattle.ground.specs.Determined.{Determined}
use Rattle.ground.proofs.DeterminedLaws.{by_equation}
use Rattle.columns.specs.Refusals.{Answer, told}
use Rattle.columns.proofs.RefusalLaws.{answer_of, answer_back}
use Rattle.products.specs.Couplings.{Made, Coupled}
use Rattle.products.proofs.coupling.apply_eliminated_inverse.Reads as inverse
use Rattle.products.proofs.coupling.coupling_times.Reads as times
use Rattle.products.proofs.coupling.coupling_transpose_times.Reads as transpose
use Rattle.products.proofs.update.combine_updates.Reads as update

-- an answer, with the map and a result that are left
made_determined : (w : Made) → Determined (λ (o : Answer × List ℕ × List Float). record { told = told o.0; map = o.1; out = o.2 } ≡ w)
made_determined =
    by_equation (λ (o : Answer × List ℕ × List Float). record { told = told o.0; map = o.1; out = o.2 }) (λ (w : Made). (answer_of w.told, w.map, w.out))
    (λ o. ap (λ (a : Answer). (a, o.1, o.2)) (answer_back o.0))

-- and with rows
coupled_determined : (w : Coupled) → Determined (λ (o : Answer × List ℕ × List Float × List Float). record { told = told o.0; map = o.1; rows = o.2; out = o.3 } ≡ w)
coupled_determined =
    by_equation (λ (o : Answer × List ℕ × List Float × List Float). record { told = told o.0; map = o.1; rows = o.2; out = o.3 })
    (λ (w : Coupled). (answer_of w.told, w.map, w.rows, w.out))
    (λ o. ap (λ (a : Answer). (a, o.1, o.2, o.3)) (answer_back o.0))

pub apply_eliminated_inverse_lem : (κs : Lfts 6) (a : _) (s t : _) (p q : Answer) → inverse.Post κs a p s → inverse.Post κs a q t
    → ◌≡◌ {A = Answer × List ℕ × List Float} (p, s.1.1.0.now, s.1.1.1.1.1.0.now) (q, t.1.1.0.now, t.1.1.1.1.1.0.now)
apply_eliminated_inverse_lem κs a s t p q =
    made_determined _ (p, s.1.1.0.now, s.1.1.1.1.1.0.now) (q, t.1.1.0.now, t.1.1.1.1.1.0.now)

pub coupling-times : (κs : Lfts 6) (a : _) (s t : _) (p q : Answer) → times.Post κs a p s → times.Post κs a q t
    → ◌≡◌ {A = Answer × List ℕ × List Float × List Float} (p, s.1.1.0.now, s.1.1.1.1.0.now, s.1.1.1.1.1.0.now)
    (q, t.1.1.0.now, t.1.1.1.1.0.now, t.1.1.1.1.1.0.now)
coupling-times κs a s t p q =
    coupled_determined _ (p, s.1.1.0.now, s.1.1.1.1.0.now, s.1.1.1.1.1.0.now)
    (q, t.1.1.0.now, t.1.1.1.1.0.now, t.1.1.1.1.1.0.now)

pub coupling-transpose-times : (κs : Lfts 6) (a : _) (s t : _) (p q : Answer) → transpose.Post κs a p s → transpose.Post κs a q t
    → ◌≡◌ {A = Answer × List ℕ × List Float × List Float} (p, s.1.1.0.now, s.1.1.1.1.0.now, s.1.1.1.1.1.0.now)
    (q, t.1.1.0.now, t.1.1.1.1.0.now, t.1.1.1.1.1.0.now)
coupling-transpose-times κs a s t p q =
    coupled_determined _ (p, s.1.1.0.now, s.1.1.1.1.0.now, s.1.1.1.1.1.0.now)
    (q, t.1.1.0.now, t.1.1.1.1.0.now, t.1.1.1.1.1.0.now)

pub combine_updates_lem : (κs : Lfts 6) (a : _) (s t : _) (p q : Answer) → update.Post κs a p s → update.Post κs a q t
    → ◌≡◌ {A = Answer × List ℕ × List Float} (p, s.1.1.0.now, s.1.1.1.1.1.0.now) (q, t.1.1.0.now, t.1.1.1.1.1.0.now)
combine_updates_lem κs a s t p q =
    made_determined _ (p, s.1.1.0.now, s.1.1.1.1.1.0.now) (q, t.1.1.0.now, t.1.1.1.1.1.0.now)
