-- Any two outcomes that the promise of a call that crosses permits agree: the number, its two values and every buffer. `Post` is the
-- contract's own reading, at the arguments a, the result and the parameters at exit. Assumes nothing.
use mathlib.Core.Path.{◌≡◌, refl}
use mathlib.Core.List.{List}
use Prim.Native.Nat.{ℕ}
use lib.Ieee.{Float}
use contract.Lifetimes.{Lfts}
use Rattle.ground.specs.Determined.{Determined}
use Rattle.ground.proofs.DeterminedLaws.{by_equation}
use Rattle.edge.proofs.Determined.{crossed_determined, export_determined}
use Rattle.edge_compare.specs.Compare.{Looked, looked}
use Rattle.edge_compare.proofs.column_exports.pivotfern_check_columns.Reads as check-columns-reads
use Rattle.edge_compare.proofs.column_exports.pivotfern_column_dot.Reads as column-dot-reads
use Rattle.edge_compare.proofs.column_exports.pivotfern_jt_vec.Reads as jt-vec-reads
use Rattle.edge_compare.proofs.column_exports.pivotfern_diag_jt_j.Reads as diag-jt-j-reads
use Rattle.edge_compare.proofs.column_exports.pivotfern_jt_j_vec_product.Reads as jt-j-vec-product-reads
use Rattle.edge_compare.proofs.block_exports.pivotfern_check_blocks.Reads as check-blocks-reads
use Rattle.edge_compare.proofs.block_exports.pivotfern_slot.Reads as slot-reads
use Rattle.edge_compare.proofs.block_exports.pivotfern_kept_local.Reads as kept-local-reads
use Rattle.edge_compare.proofs.block_exports.pivotfern_eliminated_local.Reads as eliminated-local-reads
use Rattle.edge_compare.proofs.block_exports.pivotfern_block.Reads as block_reads
use Rattle.edge_compare.proofs.block_exports.pivotfern_gather_from_jacobian.Reads as gather-from-jacobian-reads
use Rattle.edge_compare.proofs.block_exports.pivotfern_damp.Reads as damp-reads
use Rattle.edge_compare.proofs.block_exports.pivotfern_diagonal_term.Reads as diagonal-term-reads
use Rattle.edge_compare.proofs.product_exports.pivotfern_apply_eliminated_inverse.Reads as apply-eliminated-inverse-reads
use Rattle.edge_compare.proofs.product_exports.pivotfern_coupling_times.Reads as coupling-times-reads
use Rattle.edge_compare.proofs.product_exports.pivotfern_coupling_transpose_times.Reads as coupling-transpose-times-reads
use Rattle.edge_compare.proofs.product_exports.pivotfern_step.Reads as step-reads
use Rattle.edge_compare.proofs.product_exports.pivotfern_sweep.Reads as sweep-reads

-- what a lookup gives
looked_determined : (w : Looked) → Determined (λ (o : ℕ × ℕ × ℕ). looked o.0 o.1 o.2 ≡ w)
looked_determined = by_equation (λ (o : ℕ × ℕ × ℕ). looked o.0 o.1 o.2) (λ (w : Looked). (w.kind, w.first, w.second)) (λ o. refl)

pub check_columns : (κs : Lfts 5) (a : _) (s t : _) (p q : ℕ) → check-columns-reads.Post κs a p s → check-columns-reads.Post κs a q t → ◌≡◌ {A = ℕ × ℕ × ℕ} (p, s.1.1.1.1.0.now, s.1.1.1.1.1.0.now) (q, t.1.1.1.1.0.now, t.1.1.1.1.1.0.now)
check_columns κs a s t p q = crossed_determined _ (p, s.1.1.1.1.0.now, s.1.1.1.1.1.0.now) (q, t.1.1.1.1.0.now, t.1.1.1.1.1.0.now)

pub column_dot_lem : (κs : Lfts 6) (a : _) (s t : _) (p q : ℕ) → column-dot-reads.Post κs a p s → column-dot-reads.Post κs a q t
    → ◌≡◌ {A = ℕ × ℕ × ℕ × Float} (p, s.1.1.1.1.1.1.1.0.now, s.1.1.1.1.1.1.1.1.0.now, s.1.1.1.1.1.1.0.now)
    (q, t.1.1.1.1.1.1.1.0.now, t.1.1.1.1.1.1.1.1.0.now, t.1.1.1.1.1.1.0.now)
column_dot_lem κs a s t p q =
    export_determined Float _ (p, s.1.1.1.1.1.1.1.0.now, s.1.1.1.1.1.1.1.1.0.now, s.1.1.1.1.1.1.0.now)
    (q, t.1.1.1.1.1.1.1.0.now, t.1.1.1.1.1.1.1.1.0.now, t.1.1.1.1.1.1.0.now)

pub jt_vec_lem : (κs : Lfts 7) (a : _) (s t : _) (p q : ℕ) → jt-vec-reads.Post κs a p s → jt-vec-reads.Post κs a q t
    → ◌≡◌ {A = ℕ × ℕ × ℕ × (List Float)} (p, s.1.1.1.1.1.1.0.now, s.1.1.1.1.1.1.1.0.now, s.1.1.1.1.1.0.now)
    (q, t.1.1.1.1.1.1.0.now, t.1.1.1.1.1.1.1.0.now, t.1.1.1.1.1.0.now)
jt_vec_lem κs a s t p q =
    export_determined (List Float) _ (p, s.1.1.1.1.1.1.0.now, s.1.1.1.1.1.1.1.0.now, s.1.1.1.1.1.0.now)
    (q, t.1.1.1.1.1.1.0.now, t.1.1.1.1.1.1.1.0.now, t.1.1.1.1.1.0.now)

pub diag_jt_j_lem : (κs : Lfts 6) (a : _) (s t : _) (p q : ℕ) → diag-jt-j-reads.Post κs a p s → diag-jt-j-reads.Post κs a q t
    → ◌≡◌ {A = ℕ × ℕ × ℕ × (List Float)} (p, s.1.1.1.1.1.0.now, s.1.1.1.1.1.1.0.now, s.1.1.1.1.0.now)
    (q, t.1.1.1.1.1.0.now, t.1.1.1.1.1.1.0.now, t.1.1.1.1.0.now)
diag_jt_j_lem κs a s t p q =
    export_determined (List Float) _ (p, s.1.1.1.1.1.0.now, s.1.1.1.1.1.1.0.now, s.1.1.1.1.0.now)
    (q, t.1.1.1.1.1.0.now, t.1.1.1.1.1.1.0.now, t.1.1.1.1.0.now)

pub jt_j_vec_product_lem : (κs : Lfts 8) (a : _) (s t : _) (p q : ℕ) → jt-j-vec-product-reads.Post κs a p s → jt-j-vec-product-reads.Post κs a q t
    → ◌≡◌ {A = ℕ × ℕ × ℕ × (List Float × List Float)} (p, s.1.1.1.1.1.1.1.0.now, s.1.1.1.1.1.1.1.1.0.now, (s.1.1.1.1.1.0.now, s.1.1.1.1.1.1.0.now))
    (q, t.1.1.1.1.1.1.1.0.now, t.1.1.1.1.1.1.1.1.0.now, (t.1.1.1.1.1.0.now, t.1.1.1.1.1.1.0.now))
jt_j_vec_product_lem κs a s t p q =
    export_determined (List Float × List Float) _ (p, s.1.1.1.1.1.1.1.0.now, s.1.1.1.1.1.1.1.1.0.now, (s.1.1.1.1.1.0.now, s.1.1.1.1.1.1.0.now))
    (q, t.1.1.1.1.1.1.1.0.now, t.1.1.1.1.1.1.1.1.0.now, (t.1.1.1.1.1.0.now, t.1.1.1.1.1.1.0.now))

pub check_blocks_lem : (κs : Lfts 8) (a : _) (s t : _) (p q : ℕ) → check-blocks-reads.Post κs a p s → check-blocks-reads.Post κs a q t
    → ◌≡◌ {A = ℕ × ℕ × ℕ × (List ℕ)} (p, s.1.1.1.1.1.1.1.0.now, s.1.1.1.1.1.1.1.1.0.now, s.1.1.1.1.1.1.0.now)
    (q, t.1.1.1.1.1.1.1.0.now, t.1.1.1.1.1.1.1.1.0.now, t.1.1.1.1.1.1.0.now)
check_blocks_lem κs a s t p q =
    export_determined (List ℕ) _ (p, s.1.1.1.1.1.1.1.0.now, s.1.1.1.1.1.1.1.1.0.now, s.1.1.1.1.1.1.0.now)
    (q, t.1.1.1.1.1.1.1.0.now, t.1.1.1.1.1.1.1.1.0.now, t.1.1.1.1.1.1.0.now)

pub slot : (κs : Lfts 4) (a : _) (s t : _) (p q : ℕ) → slot-reads.Post κs a p s → slot-reads.Post κs a q t → ◌≡◌ {A = ℕ × ℕ × ℕ} (p, s.1.1.1.0.now, s.1.1.1.1.0.now) (q, t.1.1.1.0.now, t.1.1.1.1.0.now)
slot κs a s t p q = looked_determined _ (p, s.1.1.1.0.now, s.1.1.1.1.0.now) (q, t.1.1.1.0.now, t.1.1.1.1.0.now)

pub kept-local : (κs : Lfts 3) (a : _) (s t : _) (p q : ℕ) → kept-local-reads.Post κs a p s → kept-local-reads.Post κs a q t → ◌≡◌ {A = ℕ × ℕ × ℕ} (p, s.1.1.0.now, s.1.1.1.0.now) (q, t.1.1.0.now, t.1.1.1.0.now)
kept-local κs a s t p q = looked_determined _ (p, s.1.1.0.now, s.1.1.1.0.now) (q, t.1.1.0.now, t.1.1.1.0.now)

pub eliminated-local : (κs : Lfts 3) (a : _) (s t : _) (p q : ℕ) → eliminated-local-reads.Post κs a p s → eliminated-local-reads.Post κs a q t → ◌≡◌ {A = ℕ × ℕ × ℕ} (p, s.1.1.0.now, s.1.1.1.0.now) (q, t.1.1.0.now, t.1.1.1.0.now)
eliminated-local κs a s t p q = looked_determined _ (p, s.1.1.0.now, s.1.1.1.0.now) (q, t.1.1.0.now, t.1.1.1.0.now)

pub block : (κs : Lfts 4) (a : _) (s t : _) (p q : ℕ) → block_reads.Post κs a p s → block_reads.Post κs a q t → ◌≡◌ {A = ℕ × ℕ × ℕ} (p, s.1.1.1.0.now, s.1.1.1.1.0.now) (q, t.1.1.1.0.now, t.1.1.1.1.0.now)
block κs a s t p q = looked_determined _ (p, s.1.1.1.0.now, s.1.1.1.1.0.now) (q, t.1.1.1.0.now, t.1.1.1.1.0.now)

pub gather_from_jacobian_lem : (κs : Lfts 9) (a : _) (s t : _) (p q : ℕ) → gather-from-jacobian-reads.Post κs a p s → gather-from-jacobian-reads.Post κs a q t
    → ◌≡◌ {A = ℕ × ℕ × ℕ × (List ℕ × List Float)} (p, s.1.1.1.1.1.1.1.1.0.now, s.1.1.1.1.1.1.1.1.1.0.now, (s.1.1.1.1.1.1.0.now, s.1.1.1.1.1.1.1.0.now))
    (q, t.1.1.1.1.1.1.1.1.0.now, t.1.1.1.1.1.1.1.1.1.0.now, (t.1.1.1.1.1.1.0.now, t.1.1.1.1.1.1.1.0.now))
gather_from_jacobian_lem κs a s t p q =
    export_determined (List ℕ × List Float) _ (p, s.1.1.1.1.1.1.1.1.0.now, s.1.1.1.1.1.1.1.1.1.0.now, (s.1.1.1.1.1.1.0.now, s.1.1.1.1.1.1.1.0.now))
    (q, t.1.1.1.1.1.1.1.1.0.now, t.1.1.1.1.1.1.1.1.1.0.now, (t.1.1.1.1.1.1.0.now, t.1.1.1.1.1.1.1.0.now))

pub damp : (κs : Lfts 9) (a : _) (s t : _) (p q : ℕ) → damp-reads.Post κs a p s → damp-reads.Post κs a q t
    → ◌≡◌ {A = ℕ × ℕ × ℕ × (List ℕ × List Float)} (p, s.1.1.1.1.1.1.1.1.1.1.1.0.now, s.1.1.1.1.1.1.1.1.1.1.1.1.0.now, (s.1.1.1.1.1.1.0.now, s.1.1.1.1.1.1.1.1.1.1.0.now))
    (q, t.1.1.1.1.1.1.1.1.1.1.1.0.now, t.1.1.1.1.1.1.1.1.1.1.1.1.0.now, (t.1.1.1.1.1.1.0.now, t.1.1.1.1.1.1.1.1.1.1.0.now))
damp κs a s t p q =
    export_determined (List ℕ × List Float) _ (p, s.1.1.1.1.1.1.1.1.1.1.1.0.now, s.1.1.1.1.1.1.1.1.1.1.1.1.0.now, (s.1.1.1.1.1.1.0.now, s.1.1.1.1.1.1.1.1.1.1.0.now))
    (q, t.1.1.1.1.1.1.1.1.1.1.1.0.now, t.1.1.1.1.1.1.1.1.1.1.1.1.0.now, (t.1.1.1.1.1.1.0.now, t.1.1.1.1.1.1.1.1.1.1.0.now))

pub diagonal-term : (κs : Lfts 3) (a : _) (s t : _) (p q : ℕ) → diagonal-term-reads.Post κs a p s → diagonal-term-reads.Post κs a q t
    → ◌≡◌ {A = ℕ × ℕ × ℕ × Float} (p, s.1.1.1.1.1.0.now, s.1.1.1.1.1.1.0.now, s.1.1.1.1.0.now)
    (q, t.1.1.1.1.1.0.now, t.1.1.1.1.1.1.0.now, t.1.1.1.1.0.now)
diagonal-term κs a s t p q =
    export_determined Float _ (p, s.1.1.1.1.1.0.now, s.1.1.1.1.1.1.0.now, s.1.1.1.1.0.now)
    (q, t.1.1.1.1.1.0.now, t.1.1.1.1.1.1.0.now, t.1.1.1.1.0.now)

pub apply_eliminated_inverse_lem : (κs : Lfts 11) (a : _) (s t : _) (p q : ℕ) → apply-eliminated-inverse-reads.Post κs a p s → apply-eliminated-inverse-reads.Post κs a q t
    → ◌≡◌ {A = ℕ × ℕ × ℕ × (List ℕ × List Float)} (p, s.1.1.1.1.1.1.1.1.1.1.0.now, s.1.1.1.1.1.1.1.1.1.1.1.0.now, (s.1.1.1.1.1.1.0.now, s.1.1.1.1.1.1.1.1.1.0.now))
    (q, t.1.1.1.1.1.1.1.1.1.1.0.now, t.1.1.1.1.1.1.1.1.1.1.1.0.now, (t.1.1.1.1.1.1.0.now, t.1.1.1.1.1.1.1.1.1.0.now))
apply_eliminated_inverse_lem κs a s t p q =
    export_determined (List ℕ × List Float) _ (p, s.1.1.1.1.1.1.1.1.1.1.0.now, s.1.1.1.1.1.1.1.1.1.1.1.0.now, (s.1.1.1.1.1.1.0.now, s.1.1.1.1.1.1.1.1.1.0.now))
    (q, t.1.1.1.1.1.1.1.1.1.1.0.now, t.1.1.1.1.1.1.1.1.1.1.1.0.now, (t.1.1.1.1.1.1.0.now, t.1.1.1.1.1.1.1.1.1.0.now))

pub coupling-times : (κs : Lfts 11) (a : _) (s t : _) (p q : ℕ) → coupling-times-reads.Post κs a p s → coupling-times-reads.Post κs a q t
    → ◌≡◌ {A = ℕ × ℕ × ℕ × (List ℕ × List Float × List Float)} (p, s.1.1.1.1.1.1.1.1.1.1.0.now, s.1.1.1.1.1.1.1.1.1.1.1.0.now, (s.1.1.1.1.1.1.0.now, s.1.1.1.1.1.1.1.1.0.now, s.1.1.1.1.1.1.1.1.1.0.now))
    (q, t.1.1.1.1.1.1.1.1.1.1.0.now, t.1.1.1.1.1.1.1.1.1.1.1.0.now, (t.1.1.1.1.1.1.0.now, t.1.1.1.1.1.1.1.1.0.now, t.1.1.1.1.1.1.1.1.1.0.now))
coupling-times κs a s t p q =
    export_determined (List ℕ × List Float × List Float) _ (p, s.1.1.1.1.1.1.1.1.1.1.0.now, s.1.1.1.1.1.1.1.1.1.1.1.0.now, (s.1.1.1.1.1.1.0.now, s.1.1.1.1.1.1.1.1.0.now, s.1.1.1.1.1.1.1.1.1.0.now))
    (q, t.1.1.1.1.1.1.1.1.1.1.0.now, t.1.1.1.1.1.1.1.1.1.1.1.0.now, (t.1.1.1.1.1.1.0.now, t.1.1.1.1.1.1.1.1.0.now, t.1.1.1.1.1.1.1.1.1.0.now))

pub coupling-transpose-times : (κs : Lfts 11) (a : _) (s t : _) (p q : ℕ) → coupling-transpose-times-reads.Post κs a p s → coupling-transpose-times-reads.Post κs a q t
    → ◌≡◌ {A = ℕ × ℕ × ℕ × (List ℕ × List Float × List Float)} (p, s.1.1.1.1.1.1.1.1.1.1.0.now, s.1.1.1.1.1.1.1.1.1.1.1.0.now, (s.1.1.1.1.1.1.0.now, s.1.1.1.1.1.1.1.1.0.now, s.1.1.1.1.1.1.1.1.1.0.now))
    (q, t.1.1.1.1.1.1.1.1.1.1.0.now, t.1.1.1.1.1.1.1.1.1.1.1.0.now, (t.1.1.1.1.1.1.0.now, t.1.1.1.1.1.1.1.1.0.now, t.1.1.1.1.1.1.1.1.1.0.now))
coupling-transpose-times κs a s t p q =
    export_determined (List ℕ × List Float × List Float) _ (p, s.1.1.1.1.1.1.1.1.1.1.0.now, s.1.1.1.1.1.1.1.1.1.1.1.0.now, (s.1.1.1.1.1.1.0.now, s.1.1.1.1.1.1.1.1.0.now, s.1.1.1.1.1.1.1.1.1.0.now))
    (q, t.1.1.1.1.1.1.1.1.1.1.0.now, t.1.1.1.1.1.1.1.1.1.1.1.0.now, (t.1.1.1.1.1.1.0.now, t.1.1.1.1.1.1.1.1.0.now, t.1.1.1.1.1.1.1.1.1.0.now))

pub step : (κs : Lfts 15) (a : _) (s t : _) (p q : ℕ) → step-reads.Post κs a p s → step-reads.Post κs a q t
    → ◌≡◌ {A = ℕ × ℕ × ℕ × (List ℕ × List Float × List ℕ)} (p, s.1.1.1.1.1.1.1.1.1.1.1.1.1.1.1.1.1.0.now, s.1.1.1.1.1.1.1.1.1.1.1.1.1.1.1.1.1.1.0.now, (s.1.1.1.1.1.1.1.0.now, s.1.1.1.1.1.1.1.1.1.1.1.1.1.1.0.now, s.1.1.1.1.1.1.1.1.1.1.1.1.1.1.1.0.now))
    (q, t.1.1.1.1.1.1.1.1.1.1.1.1.1.1.1.1.1.0.now, t.1.1.1.1.1.1.1.1.1.1.1.1.1.1.1.1.1.1.0.now, (t.1.1.1.1.1.1.1.0.now, t.1.1.1.1.1.1.1.1.1.1.1.1.1.1.0.now, t.1.1.1.1.1.1.1.1.1.1.1.1.1.1.1.0.now))
step κs a s t p q =
    export_determined (List ℕ × List Float × List ℕ) _ (p, s.1.1.1.1.1.1.1.1.1.1.1.1.1.1.1.1.1.0.now, s.1.1.1.1.1.1.1.1.1.1.1.1.1.1.1.1.1.1.0.now, (s.1.1.1.1.1.1.1.0.now, s.1.1.1.1.1.1.1.1.1.1.1.1.1.1.0.now, s.1.1.1.1.1.1.1.1.1.1.1.1.1.1.1.0.now))
    (q, t.1.1.1.1.1.1.1.1.1.1.1.1.1.1.1.1.1.0.now, t.1.1.1.1.1.1.1.1.1.1.1.1.1.1.1.1.1.1.0.now, (t.1.1.1.1.1.1.1.0.now, t.1.1.1.1.1.1.1.1.1.1.1.1.1.1.0.now, t.1.1.1.1.1.1.1.1.1.1.1.1.1.1.1.0.now))

pub sweep : (κs : Lfts 16) (a : _) (s t : _) (p q : ℕ) → sweep-reads.Post κs a p s → sweep-reads.Post κs a q t
    → ◌≡◌ {A = ℕ × ℕ × ℕ × (List ℕ × List Float × List ℕ)} (p, s.1.1.1.1.1.1.1.1.1.1.1.1.1.1.1.1.1.0.now, s.1.1.1.1.1.1.1.1.1.1.1.1.1.1.1.1.1.1.0.now, (s.1.1.1.1.1.1.1.0.now, s.1.1.1.1.1.1.1.1.1.1.1.1.1.1.0.now, s.1.1.1.1.1.1.1.1.1.1.1.1.1.1.1.0.now))
    (q, t.1.1.1.1.1.1.1.1.1.1.1.1.1.1.1.1.1.0.now, t.1.1.1.1.1.1.1.1.1.1.1.1.1.1.1.1.1.1.0.now, (t.1.1.1.1.1.1.1.0.now, t.1.1.1.1.1.1.1.1.1.1.1.1.1.1.0.now, t.1.1.1.1.1.1.1.1.1.1.1.1.1.1.1.0.now))
sweep κs a s t p q =
    export_determined (List ℕ × List Float × List ℕ) _ (p, s.1.1.1.1.1.1.1.1.1.1.1.1.1.1.1.1.1.0.now, s.1.1.1.1.1.1.1.1.1.1.1.1.1.1.1.1.1.1.0.now, (s.1.1.1.1.1.1.1.0.now, s.1.1.1.1.1.1.1.1.1.1.1.1.1.1.0.now, s.1.1.1.1.1.1.1.1.1.1.1.1.1.1.1.0.now))
    (q, t.1.1.1.1.1.1.1.1.1.1.1.1.1.1.1.1.1.0.now, t.1.1.1.1.1.1.1.1.1.1.1.1.1.1.1.1.1.1.0.now, (t.1.1.1.1.1.1.1.0.now, t.1.1.1.1.1.1.1.1.1.1.1.1.1.1.0.now, t.1.1.1.1.1.1.1.1.1.1.1.1.1.1.1.0.now))
