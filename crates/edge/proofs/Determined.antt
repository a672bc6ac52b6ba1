-- Any two outcomes that the promise of a call that crosses, or of a crossing, permits agree: the number, its two values and every buffer. `Post` is the
-- contract's own reading, at the arguments a, the result and the parameters at exit. Assumes nothing.
use mathlib.Core.Path.{◌≡◌, refl}
use mathlib.Core.List.{List}
use Prim.Native.Nat.{ℕ}
use lib.Ieee.{Float}
use contract.Lifetimes.{Lfts}
use Rattle.ground.specs.Determined.{Determined}
use Rattle.ground.proofs.DeterminedLaws.{by_equation}
use Rattle.plan.specs.Plan.{Buffers, buffers}
use Rattle.products.specs.Operator.{Work}
use Rattle.edge.specs.Edge.{Crossed, Export}
use Rattle.edge.proofs.cross.cross_refusal.Reads as cross-refusal-reads
use Rattle.edge.proofs.cross.cross_answer.Reads as cross-answer-reads
use Rattle.edge.proofs.exports.pivotfern_plan.Reads as plan-reads
use Rattle.edge.proofs.exports.pivotfern_operator.Reads as operator-reads
use Rattle.edge.proofs.exports.pivotfern_update.Reads as update-reads

-- what an export gives can be read back from what crossed
pub crossed_determined : (w : Crossed) → Determined (λ (o : ℕ × ℕ × ℕ). record { number = o.0; first = o.1; second = o.2 } ≡ w)
crossed_determined = by_equation (λ (o : ℕ × ℕ × ℕ). record { number = o.0; first = o.1; second = o.2 }) (λ (w : Crossed). (w.number, w.first, w.second)) (λ o. refl)

pub export_determined : (A : Type 0) (w : Export A) → Determined (λ (o : ℕ × ℕ × ℕ × A). record { told = record { number = o.0; first = o.1; second = o.2 }; left = o.3 } ≡ w)
export_determined A =
    by_equation (λ (o : ℕ × ℕ × ℕ × A). record { told = record { number = o.0; first = o.1; second = o.2 }; left = o.3 })
    (λ (w : Export A). (w.told.number, w.told.first, w.told.second, w.left)) (λ o. refl)

pub cross_refusal : (κs : Lfts 2) (a : _) (s t : _) (p q : ℕ) → cross-refusal-reads.Post κs a p s → cross-refusal-reads.Post κs a q t
    → ◌≡◌ {A = ℕ × ℕ × ℕ} (p, s.1.0.now, s.1.1.0.now) (q, t.1.0.now, t.1.1.0.now)
cross_refusal κs a s t p q = crossed_determined _ (p, s.1.0.now, s.1.1.0.now) (q, t.1.0.now, t.1.1.0.now)

pub cross_answer : (κs : Lfts 2) (a : _) (s t : _) (p q : ℕ) → cross-answer-reads.Post κs a p s → cross-answer-reads.Post κs a q t
    → ◌≡◌ {A = ℕ × ℕ × ℕ} (p, s.1.0.now, s.1.1.0.now) (q, t.1.0.now, t.1.1.0.now)
cross_answer κs a s t p q = crossed_determined _ (p, s.1.0.now, s.1.1.0.now) (q, t.1.0.now, t.1.1.0.now)

pub plan : (κs : Lfts 24) (a : _) (s t : _) (p q : ℕ) → plan-reads.Post κs a p s → plan-reads.Post κs a q t
    → ◌≡◌ {A = ℕ × ℕ × ℕ × Buffers} (p, s.1.1.1.1.1.1.1.1.1.1.1.1.1.1.1.1.1.1.1.1.1.1.1.1.0.now, s.1.1.1.1.1.1.1.1.1.1.1.1.1.1.1.1.1.1.1.1.1.1.1.1.1.0.now, buffers s.1.1.1.1.1.1.1.0.now s.1.1.1.1.1.1.1.1.0.now s.1.1.1.1.1.1.1.1.1.0.now s.1.1.1.1.1.1.1.1.1.1.0.now s.1.1.1.1.1.1.1.1.1.1.1.0.now s.1.1.1.1.1.1.1.1.1.1.1.1.0.now s.1.1.1.1.1.1.1.1.1.1.1.1.1.0.now s.1.1.1.1.1.1.1.1.1.1.1.1.1.1.0.now s.1.1.1.1.1.1.1.1.1.1.1.1.1.1.1.0.now s.1.1.1.1.1.1.1.1.1.1.1.1.1.1.1.1.0.now s.1.1.1.1.1.1.1.1.1.1.1.1.1.1.1.1.1.0.now s.1.1.1.1.1.1.1.1.1.1.1.1.1.1.1.1.1.1.0.now s.1.1.1.1.1.1.1.1.1.1.1.1.1.1.1.1.1.1.1.0.now s.1.1.1.1.1.1.1.1.1.1.1.1.1.1.1.1.1.1.1.1.0.now s.1.1.1.1.1.1.1.1.1.1.1.1.1.1.1.1.1.1.1.1.1.0.now s.1.1.1.1.1.1.1.1.1.1.1.1.1.1.1.1.1.1.1.1.1.1.0.now s.1.1.1.1.1.1.1.1.1.1.1.1.1.1.1.1.1.1.1.1.1.1.1.0.now)
    (q, t.1.1.1.1.1.1.1.1.1.1.1.1.1.1.1.1.1.1.1.1.1.1.1.1.0.now, t.1.1.1.1.1.1.1.1.1.1.1.1.1.1.1.1.1.1.1.1.1.1.1.1.1.0.now, buffers t.1.1.1.1.1.1.1.0.now t.1.1.1.1.1.1.1.1.0.now t.1.1.1.1.1.1.1.1.1.0.now t.1.1.1.1.1.1.1.1.1.1.0.now t.1.1.1.1.1.1.1.1.1.1.1.0.now t.1.1.1.1.1.1.1.1.1.1.1.1.0.now t.1.1.1.1.1.1.1.1.1.1.1.1.1.0.now t.1.1.1.1.1.1.1.1.1.1.1.1.1.1.0.now t.1.1.1.1.1.1.1.1.1.1.1.1.1.1.1.0.now t.1.1.1.1.1.1.1.1.1.1.1.1.1.1.1.1.0.now t.1.1.1.1.1.1.1.1.1.1.1.1.1.1.1.1.1.0.now t.1.1.1.1.1.1.1.1.1.1.1.1.1.1.1.1.1.1.0.now t.1.1.1.1.1.1.1.1.1.1.1.1.1.1.1.1.1.1.1.0.now t.1.1.1.1.1.1.1.1.1.1.1.1.1.1.1.1.1.1.1.1.0.now t.1.1.1.1.1.1.1.1.1.1.1.1.1.1.1.1.1.1.1.1.1.0.now t.1.1.1.1.1.1.1.1.1.1.1.1.1.1.1.1.1.1.1.1.1.1.0.now t.1.1.1.1.1.1.1.1.1.1.1.1.1.1.1.1.1.1.1.1.1.1.1.0.now)
plan κs a s t p q =
    export_determined Buffers _ (p, s.1.1.1.1.1.1.1.1.1.1.1.1.1.1.1.1.1.1.1.1.1.1.1.1.0.now, s.1.1.1.1.1.1.1.1.1.1.1.1.1.1.1.1.1.1.1.1.1.1.1.1.1.0.now, buffers s.1.1.1.1.1.1.1.0.now s.1.1.1.1.1.1.1.1.0.now s.1.1.1.1.1.1.1.1.1.0.now s.1.1.1.1.1.1.1.1.1.1.0.now s.1.1.1.1.1.1.1.1.1.1.1.0.now s.1.1.1.1.1.1.1.1.1.1.1.1.0.now s.1.1.1.1.1.1.1.1.1.1.1.1.1.0.now s.1.1.1.1.1.1.1.1.1.1.1.1.1.1.0.now s.1.1.1.1.1.1.1.1.1.1.1.1.1.1.1.0.now s.1.1.1.1.1.1.1.1.1.1.1.1.1.1.1.1.0.now s.1.1.1.1.1.1.1.1.1.1.1.1.1.1.1.1.1.0.now s.1.1.1.1.1.1.1.1.1.1.1.1.1.1.1.1.1.1.0.now s.1.1.1.1.1.1.1.1.1.1.1.1.1.1.1.1.1.1.1.0.now s.1.1.1.1.1.1.1.1.1.1.1.1.1.1.1.1.1.1.1.1.0.now s.1.1.1.1.1.1.1.1.1.1.1.1.1.1.1.1.1.1.1.1.1.0.now s.1.1.1.1.1.1.1.1.1.1.1.1.1.1.1.1.1.1.1.1.1.1.0.now s.1.1.1.1.1.1.1.1.1.1.1.1.1.1.1.1.1.1.1.1.1.1.1.0.now)
    (q, t.1.1.1.1.1.1.1.1.1.1.1.1.1.1.1.1.1.1.1.1.1.1.1.1.0.now, t.1.1.1.1.1.1.1.1.1.1.1.1.1.1.1.1.1.1.1.1.1.1.1.1.1.0.now, buffers t.1.1.1.1.1.1.1.0.now t.1.1.1.1.1.1.1.1.0.now t.1.1.1.1.1.1.1.1.1.0.now t.1.1.1.1.1.1.1.1.1.1.0.now t.1.1.1.1.1.1.1.1.1.1.1.0.now t.1.1.1.1.1.1.1.1.1.1.1.1.0.now t.1.1.1.1.1.1.1.1.1.1.1.1.1.0.now t.1.1.1.1.1.1.1.1.1.1.1.1.1.1.0.now t.1.1.1.1.1.1.1.1.1.1.1.1.1.1.1.0.now t.1.1.1.1.1.1.1.1.1.1.1.1.1.1.1.1.0.now t.1.1.1.1.1.1.1.1.1.1.1.1.1.1.1.1.1.0.now t.1.1.1.1.1.1.1.1.1.1.1.1.1.1.1.1.1.1.0.now t.1.1.1.1.1.1.1.1.1.1.1.1.1.1.1.1.1.1.1.0.now t.1.1.1.1.1.1.1.1.1.1.1.1.1.1.1.1.1.1.1.1.0.now t.1.1.1.1.1.1.1.1.1.1.1.1.1.1.1.1.1.1.1.1.1.0.now t.1.1.1.1.1.1.1.1.1.1.1.1.1.1.1.1.1.1.1.1.1.1.0.now t.1.1.1.1.1.1.1.1.1.1.1.1.1.1.1.1.1.1.1.1.1.1.1.0.now)

pub operator : (κs : Lfts 23) (a : _) (s t : _) (p q : ℕ) → operator-reads.Post κs a p s → operator-reads.Post κs a q t
    → ◌≡◌ {A = ℕ × ℕ × ℕ × (List ℕ × Work)} (p, s.1.1.1.1.1.1.1.1.1.1.1.1.1.1.1.1.1.1.1.1.1.1.1.0.now, s.1.1.1.1.1.1.1.1.1.1.1.1.1.1.1.1.1.1.1.1.1.1.1.1.0.now, (s.1.1.1.1.1.1.0.now, record { rows = s.1.1.1.1.1.1.1.1.1.1.1.1.1.1.1.1.1.1.1.0.now; t = s.1.1.1.1.1.1.1.1.1.1.1.1.1.1.1.1.1.1.1.1.0.now; u = s.1.1.1.1.1.1.1.1.1.1.1.1.1.1.1.1.1.1.1.1.1.0.now; out = s.1.1.1.1.1.1.1.1.1.1.1.1.1.1.1.1.1.1.1.1.1.1.0.now }))
    (q, t.1.1.1.1.1.1.1.1.1.1.1.1.1.1.1.1.1.1.1.1.1.1.1.0.now, t.1.1.1.1.1.1.1.1.1.1.1.1.1.1.1.1.1.1.1.1.1.1.1.1.0.now, (t.1.1.1.1.1.1.0.now, record { rows = t.1.1.1.1.1.1.1.1.1.1.1.1.1.1.1.1.1.1.1.0.now; t = t.1.1.1.1.1.1.1.1.1.1.1.1.1.1.1.1.1.1.1.1.0.now; u = t.1.1.1.1.1.1.1.1.1.1.1.1.1.1.1.1.1.1.1.1.1.0.now; out = t.1.1.1.1.1.1.1.1.1.1.1.1.1.1.1.1.1.1.1.1.1.1.0.now }))
operator κs a s t p q =
    export_determined (List ℕ × Work) _ (p, s.1.1.1.1.1.1.1.1.1.1.1.1.1.1.1.1.1.1.1.1.1.1.1.0.now, s.1.1.1.1.1.1.1.1.1.1.1.1.1.1.1.1.1.1.1.1.1.1.1.1.0.now, (s.1.1.1.1.1.1.0.now, record { rows = s.1.1.1.1.1.1.1.1.1.1.1.1.1.1.1.1.1.1.1.0.now; t = s.1.1.1.1.1.1.1.1.1.1.1.1.1.1.1.1.1.1.1.1.0.now; u = s.1.1.1.1.1.1.1.1.1.1.1.1.1.1.1.1.1.1.1.1.1.0.now; out = s.1.1.1.1.1.1.1.1.1.1.1.1.1.1.1.1.1.1.1.1.1.1.0.now }))
    (q, t.1.1.1.1.1.1.1.1.1.1.1.1.1.1.1.1.1.1.1.1.1.1.1.0.now, t.1.1.1.1.1.1.1.1.1.1.1.1.1.1.1.1.1.1.1.1.1.1.1.1.0.now, (t.1.1.1.1.1.1.0.now, record { rows = t.1.1.1.1.1.1.1.1.1.1.1.1.1.1.1.1.1.1.1.0.now; t = t.1.1.1.1.1.1.1.1.1.1.1.1.1.1.1.1.1.1.1.1.0.now; u = t.1.1.1.1.1.1.1.1.1.1.1.1.1.1.1.1.1.1.1.1.1.0.now; out = t.1.1.1.1.1.1.1.1.1.1.1.1.1.1.1.1.1.1.1.1.1.1.0.now }))

pub update : (κs : Lfts 11) (a : _) (s t : _) (p q : ℕ) → update-reads.Post κs a p s → update-reads.Post κs a q t
    → ◌≡◌ {A = ℕ × ℕ × ℕ × (List ℕ × List Float)} (p, s.1.1.1.1.1.1.1.1.1.1.0.now, s.1.1.1.1.1.1.1.1.1.1.1.0.now, (s.1.1.1.1.1.1.0.now, s.1.1.1.1.1.1.1.1.1.0.now))
    (q, t.1.1.1.1.1.1.1.1.1.1.0.now, t.1.1.1.1.1.1.1.1.1.1.1.0.now, (t.1.1.1.1.1.1.0.now, t.1.1.1.1.1.1.1.1.1.0.now))
update κs a s t p q =
    export_determined (List ℕ × List Float) _ (p, s.1.1.1.1.1.1.1.1.1.1.0.now, s.1.1.1.1.1.1.1.1.1.1.1.0.now, (s.1.1.1.1.1.1.0.now, s.1.1.1.1.1.1.1.1.1.0.now))
    (q, t.1.1.1.1.1.1.1.1.1.1.0.now, t.1.1.1.1.1.1.1.1.1.1.1.0.now, (t.1.1.1.1.1.1.0.now, t.1.1.1.1.1.1.1.1.1.0.now))
