-- Any two outcomes that an export's promise permits agree: the number, its two values and every buffer. Each law is the library function's as it
-- stands, so the export's promise is that function's. `Post` is the contract's own reading, at the arguments a, the result and the parameters at
-- exit. Assumes nothing.
use mathlib.Core.Path.{◌≡◌}
use mathlib.Core.List.{List}
use Prim.Native.Nat.{ℕ}
use lib.Ieee.{Float}
use contract.Lifetimes.{Lfts}
use Rattle.plan.specs.Plan.{Buffers, buffers}
use Rattle.products.specs.Operator.{Work}
use Rattle.edge.proofs.Determined as library
use Rattle.edge_c.proofs.exports.pivotfern_plan.Reads as plan_reads
use Rattle.edge_c.proofs.exports.pivotfern_operator.Reads as operator_reads
use Rattle.edge_c.proofs.exports.pivotfern_update.Reads as update_reads

pub plan : (κs : Lfts 24) (a : _) (s t : _) (p q : ℕ) → plan_reads.Post κs a p s → plan_reads.Post κs a q t
    → ◌≡◌ {A = ℕ × ℕ × ℕ × Buffers} (p, s.1.1.1.1.1.1.1.1.1.1.1.1.1.1.1.1.1.1.1.1.1.1.1.1.0.now, s.1.1.1.1.1.1.1.1.1.1.1.1.1.1.1.1.1.1.1.1.1.1.1.1.1.0.now, buffers s.1.1.1.1.1.1.1.0.now s.1.1.1.1.1.1.1.1.0.now s.1.1.1.1.1.1.1.1.1.0.now s.1.1.1.1.1.1.1.1.1.1.0.now s.1.1.1.1.1.1.1.1.1.1.1.0.now s.1.1.1.1.1.1.1.1.1.1.1.1.0.now s.1.1.1.1.1.1.1.1.1.1.1.1.1.0.now s.1.1.1.1.1.1.1.1.1.1.1.1.1.1.0.now s.1.1.1.1.1.1.1.1.1.1.1.1.1.1.1.0.now s.1.1.1.1.1.1.1.1.1.1.1.1.1.1.1.1.0.now s.1.1.1.1.1.1.1.1.1.1.1.1.1.1.1.1.1.0.now s.1.1.1.1.1.1.1.1.1.1.1.1.1.1.1.1.1.1.0.now s.1.1.1.1.1.1.1.1.1.1.1.1.1.1.1.1.1.1.1.0.now s.1.1.1.1.1.1.1.1.1.1.1.1.1.1.1.1.1.1.1.1.0.now s.1.1.1.1.1.1.1.1.1.1.1.1.1.1.1.1.1.1.1.1.1.0.now s.1.1.1.1.1.1.1.1.1.1.1.1.1.1.1.1.1.1.1.1.1.1.0.now s.1.1.1.1.1.1.1.1.1.1.1.1.1.1.1.1.1.1.1.1.1.1.1.0.now)
    (q, t.1.1.1.1.1.1.1.1.1.1.1.1.1.1.1.1.1.1.1.1.1.1.1.1.0.now, t.1.1.1.1.1.1.1.1.1.1.1.1.1.1.1.1.1.1.1.1.1.1.1.1.1.0.now, buffers t.1.1.1.1.1.1.1.0.now t.1.1.1.1.1.1.1.1.0.now t.1.1.1.1.1.1.1.1.1.0.now t.1.1.1.1.1.1.1.1.1.1.0.now t.1.1.1.1.1.1.1.1.1.1.1.0.now t.1.1.1.1.1.1.1.1.1.1.1.1.0.now t.1.1.1.1.1.1.1.1.1.1.1.1.1.0.now t.1.1.1.1.1.1.1.1.1.1.1.1.1.1.0.now t.1.1.1.1.1.1.1.1.1.1.1.1.1.1.1.0.now t.1.1.1.1.1.1.1.1.1.1.1.1.1.1.1.1.0.now t.1.1.1.1.1.1.1.1.1.1.1.1.1.1.1.1.1.0.now t.1.1.1.1.1.1.1.1.1.1.1.1.1.1.1.1.1.1.0.now t.1.1.1.1.1.1.1.1.1.1.1.1.1.1.1.1.1.1.1.0.now t.1.1.1.1.1.1.1.1.1.1.1.1.1.1.1.1.1.1.1.1.0.now t.1.1.1.1.1.1.1.1.1.1.1.1.1.1.1.1.1.1.1.1.1.0.now t.1.1.1.1.1.1.1.1.1.1.1.1.1.1.1.1.1.1.1.1.1.1.0.now t.1.1.1.1.1.1.1.1.1.1.1.1.1.1.1.1.1.1.1.1.1.1.1.0.now)
plan = library.plan

pub operator : (κs : Lfts 23) (a : _) (s t : _) (p q : ℕ) → operator_reads.Post κs a p s → operator_reads.Post κs a q t
    → ◌≡◌ {A = ℕ × ℕ × ℕ × (List ℕ × Work)} (p, s.1.1.1.1.1.1.1.1.1.1.1.1.1.1.1.1.1.1.1.1.1.1.1.0.now, s.1.1.1.1.1.1.1.1.1.1.1.1.1.1.1.1.1.1.1.1.1.1.1.1.0.now, (s.1.1.1.1.1.1.0.now, record { rows = s.1.1.1.1.1.1.1.1.1.1.1.1.1.1.1.1.1.1.1.0.now; t = s.1.1.1.1.1.1.1.1.1.1.1.1.1.1.1.1.1.1.1.1.0.now; u = s.1.1.1.1.1.1.1.1.1.1.1.1.1.1.1.1.1.1.1.1.1.0.now; out = s.1.1.1.1.1.1.1.1.1.1.1.1.1.1.1.1.1.1.1.1.1.1.0.now }))
    (q, t.1.1.1.1.1.1.1.1.1.1.1.1.1.1.1.1.1.1.1.1.1.1.1.0.now, t.1.1.1.1.1.1.1.1.1.1.1.1.1.1.1.1.1.1.1.1.1.1.1.1.0.now, (t.1.1.1.1.1.1.0.now, record { rows = t.1.1.1.1.1.1.1.1.1.1.1.1.1.1.1.1.1.1.1.0.now; t = t.1.1.1.1.1.1.1.1.1.1.1.1.1.1.1.1.1.1.1.1.0.now; u = t.1.1.1.1.1.1.1.1.1.1.1.1.1.1.1.1.1.1.1.1.1.0.now; out = t.1.1.1.1.1.1.1.1.1.1.1.1.1.1.1.1.1.1.1.1.1.1.0.now }))
operator = library.operator

pub update : (κs : Lfts 11) (a : _) (s t : _) (p q : ℕ) → update_reads.Post κs a p s → update_reads.Post κs a q t
    → ◌≡◌ {A = ℕ × ℕ × ℕ × (List ℕ × List Float)} (p, s.1.1.1.1.1.1.1.1.1.1.0.now, s.1.1.1.1.1.1.1.1.1.1.1.0.now, (s.1.1.1.1.1.1.0.now, s.1.1.1.1.1.1.1.1.1.0.now))
    (q, t.1.1.1.1.1.1.1.1.1.1.0.now, t.1.1.1.1.1.1.1.1.1.1.1.0.now, (t.1.1.1.1.1.1.0.now, t.1.1.1.1.1.1.1.1.1.0.now))
update = library.update
