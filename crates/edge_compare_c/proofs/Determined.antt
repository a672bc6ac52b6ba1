-- Any two outcomes that an export's promise permits agree: the number, its two values and every buffer. Each law is the library function's as it
-- stands, so the export's promise is that function's. `Post` is the contract's own reading, at the arguments a, the result and the parameters at
-- exit. Assumes nothing.
use mathlib.Core.Path.{◌≡◌}
use mathlib.Core.List.{List}
use Prim.Native.Nat.{ℕ}
use lib.Ieee.{Float}
use contract.Lifetimes.{Lfts}
use Rattle.edge_compare.proofs.Determined as library
use Rattle.edge_compare_c.proofs.column_exports.pivotfern_check_columns.Reads as check_columns_reads
use Rattle.edge_compare_c.proofs.column_exports.pivotfern_column_dot.Reads as column_dot_reads
use Rattle.edge_compare_c.proofs.column_exports.pivotfern_jt_vec.Reads as jt_vec_reads
use Rattle.edge_compare_c.proofs.column_exports.pivotfern_diag_jt_j.Reads as diag_jt_j_reads
use Rattle.edge_compare_c.proofs.column_exports.pivotfern_jt_j_vec_product.Reads as jt_j_vec_product_reads
use Rattle.edge_compare_c.proofs.block_exports.pivotfern_check_blocks.Reads as check_blocks_reads
use Rattle.edge_compare_c.proofs.block_exports.pivotfern_slot.Reads as slot_reads
use Rattle.edge_compare_c.proofs.block_exports.pivotfern_kept_local.Reads as kept_local_reads
use Rattle.edge_compare_c.proofs.block_exports.pivotfern_eliminated_local.Reads as eliminated_local_reads
use Rattle.edge_compare_c.proofs.block_exports.pivotfern_block.Reads as block_reads
use Rattle.edge_compare_c.proofs.block_exports.pivotfern_gather_from_jacobian.Reads as gather_from_jacobian_reads
use Rattle.edge_compare_c.proofs.block_exports.pivotfern_damp.Reads as damp_reads
use Rattle.edge_compare_c.proofs.block_exports.pivotfern_diagonal_term.Reads as diagonal_term_reads
use Rattle.edge_compare_c.proofs.product_exports.pivotfern_apply_eliminated_inverse.Reads as apply_eliminated_inverse_reads
use Rattle.edge_compare_c.proofs.product_exports.pivotfern_coupling_times.Reads as coupling_times_reads
use Rattle.edge_compare_c.proofs.product_exports.pivotfern_coupling_transpose_times.Reads as coupling_transpose_times_reads
use Rattle.edge_compare_c.proofs.product_exports.pivotfern_step.Reads as step_reads
use Rattle.edge_compare_c.proofs.product_exports.pivotfern_sweep.Reads as sweep_reads

pub check_columns : (κs : Lfts 5) (a : _) (s t : _) (p q : ℕ) → check_columns_reads.Post κs a p s → check_columns_reads.Post κs a q t → ◌≡◌ {A = ℕ × ℕ × ℕ} (p, s.1.1.1.1.0.now, s.1.1.1.1.1.0.now) (q, t.1.1.1.1.0.now, t.1.1.1.1.1.0.now)
check_columns = library.check_columns

pub column_dot : (κs : Lfts 6) (a : _) (s t : _) (p q : ℕ) → column_dot_reads.Post κs a p s → column_dot_reads.Post κs a q t
    → ◌≡◌ {A = ℕ × ℕ × ℕ × Float} (p, s.1.1.1.1.1.1.1.0.now, s.1.1.1.1.1.1.1.1.0.now, s.1.1.1.1.1.1.0.now)
    (q, t.1.1.1.1.1.1.1.0.now, t.1.1.1.1.1.1.1.1.0.now, t.1.1.1.1.1.1.0.now)
column_dot = library.column_dot_lem

pub jt_vec : (κs : Lfts 7) (a : _) (s t : _) (p q : ℕ) → jt_vec_reads.Post κs a p s → jt_vec_reads.Post κs a q t
    → ◌≡◌ {A = ℕ × ℕ × ℕ × (List Float)} (p, s.1.1.1.1.1.1.0.now, s.1.1.1.1.1.1.1.0.now, s.1.1.1.1.1.0.now)
    (q, t.1.1.1.1.1.1.0.now, t.1.1.1.1.1.1.1.0.now, t.1.1.1.1.1.0.now)
jt_vec = library.jt_vec_lem

pub diag_jt_j : (κs : Lfts 6) (a : _) (s t : _) (p q : ℕ) → diag_jt_j_reads.Post κs a p s → diag_jt_j_reads.Post κs a q t
    → ◌≡◌ {A = ℕ × ℕ × ℕ × (List Float)} (p, s.1.1.1.1.1.0.now, s.1.1.1.1.1.1.0.now, s.1.1.1.1.0.now)
    (q, t.1.1.1.1.1.0.now, t.1.1.1.1.1.1.0.now, t.1.1.1.1.0.now)
diag_jt_j = library.diag_jt_j_lem

pub jt_j_vec_product : (κs : Lfts 8) (a : _) (s t : _) (p q : ℕ) → jt_j_vec_product_reads.Post κs a p s → jt_j_vec_product_reads.Post κs a q t
    → ◌≡◌ {A = ℕ × ℕ × ℕ × (List Float × List Float)} (p, s.1.1.1.1.1.1.1.0.now, s.1.1.1.1.1.1.1.1.0.now, (s.1.1.1.1.1.0.now, s.1.1.1.1.1.1.0.now))
    (q, t.1.1.1.1.1.1.1.0.now, t.1.1.1.1.1.1.1.1.0.now, (t.1.1.1.1.1.0.now, t.1.1.1.1.1.1.0.now))
jt_j_vec_product = library.jt_j_vec_product_lem

pub check_blocks : (κs : Lfts 8) (a : _) (s t : _) (p q : ℕ) → check_blocks_reads.Post κs a p s → check_blocks_reads.Post κs a q t
    → ◌≡◌ {A = ℕ × ℕ × ℕ × (List ℕ)} (p, s.1.1.1.1.1.1.1.0.now, s.1.1.1.1.1.1.1.1.0.now, s.1.1.1.1.1.1.0.now)
    (q, t.1.1.1.1.1.1.1.0.now, t.1.1.1.1.1.1.1.1.0.now, t.1.1.1.1.1.1.0.now)
check_blocks = library.check_blocks_lem

pub slot : (κs : Lfts 4) (a : _) (s t : _) (p q : ℕ) → slot_reads.Post κs a p s → slot_reads.Post κs a q t → ◌≡◌ {A = ℕ × ℕ × ℕ} (p, s.1.1.1.0.now, s.1.1.1.1.0.now) (q, t.1.1.1.0.now, t.1.1.1.1.0.now)
slot = library.slot

pub kept_local : (κs : Lfts 3) (a : _) (s t : _) (p q : ℕ) → kept_local_reads.Post κs a p s → kept_local_reads.Post κs a q t → ◌≡◌ {A = ℕ × ℕ × ℕ} (p, s.1.1.0.now, s.1.1.1.0.now) (q, t.1.1.0.now, t.1.1.1.0.now)
kept_local = library.kept-local

pub eliminated_local : (κs : Lfts 3) (a : _) (s t : _) (p q : ℕ) → eliminated_local_reads.Post κs a p s → eliminated_local_reads.Post κs a q t → ◌≡◌ {A = ℕ × ℕ × ℕ} (p, s.1.1.0.now, s.1.1.1.0.now) (q, t.1.1.0.now, t.1.1.1.0.now)
eliminated_local = library.eliminated-local

pub block : (κs : Lfts 4) (a : _) (s t : _) (p q : ℕ) → block_reads.Post κs a p s → block_reads.Post κs a q t → ◌≡◌ {A = ℕ × ℕ × ℕ} (p, s.1.1.1.0.now, s.1.1.1.1.0.now) (q, t.1.1.1.0.now, t.1.1.1.1.0.now)
block = library.block

pub gather_from_jacobian : (κs : Lfts 9) (a : _) (s t : _) (p q : ℕ) → gather_from_jacobian_reads.Post κs a p s → gather_from_jacobian_reads.Post κs a q t
    → ◌≡◌ {A = ℕ × ℕ × ℕ × (List ℕ × List Float)} (p, s.1.1.1.1.1.1.1.1.0.now, s.1.1.1.1.1.1.1.1.1.0.now, (s.1.1.1.1.1.1.0.now, s.1.1.1.1.1.1.1.0.now))
    (q, t.1.1.1.1.1.1.1.1.0.now, t.1.1.1.1.1.1.1.1.1.0.now, (t.1.1.1.1.1.1.0.now, t.1.1.1.1.1.1.1.0.now))
gather_from_jacobian = library.gather_from_jacobian_lem

pub damp : (κs : Lfts 9) (a : _) (s t : _) (p q : ℕ) → damp_reads.Post κs a p s → damp_reads.Post κs a q t
    → ◌≡◌ {A = ℕ × ℕ × ℕ × (List ℕ × List Float)} (p, s.1.1.1.1.1.1.1.1.1.1.1.0.now, s.1.1.1.1.1.1.1.1.1.1.1.1.0.now, (s.1.1.1.1.1.1.0.now, s.1.1.1.1.1.1.1.1.1.1.0.now))
    (q, t.1.1.1.1.1.1.1.1.1.1.1.0.now, t.1.1.1.1.1.1.1.1.1.1.1.1.0.now, (t.1.1.1.1.1.1.0.now, t.1.1.1.1.1.1.1.1.1.1.0.now))
damp = library.damp

pub diagonal_term : (κs : Lfts 3) (a : _) (s t : _) (p q : ℕ) → diagonal_term_reads.Post κs a p s → diagonal_term_reads.Post κs a q t
    → ◌≡◌ {A = ℕ × ℕ × ℕ × Float} (p, s.1.1.1.1.1.0.now, s.1.1.1.1.1.1.0.now, s.1.1.1.1.0.now)
    (q, t.1.1.1.1.1.0.now, t.1.1.1.1.1.1.0.now, t.1.1.1.1.0.now)
diagonal_term = library.diagonal-term

pub apply_eliminated_inverse : (κs : Lfts 11) (a : _) (s t : _) (p q : ℕ) → apply_eliminated_inverse_reads.Post κs a p s → apply_eliminated_inverse_reads.Post κs a q t
    → ◌≡◌ {A = ℕ × ℕ × ℕ × (List ℕ × List Float)} (p, s.1.1.1.1.1.1.1.1.1.1.0.now, s.1.1.1.1.1.1.1.1.1.1.1.0.now, (s.1.1.1.1.1.1.0.now, s.1.1.1.1.1.1.1.1.1.0.now))
    (q, t.1.1.1.1.1.1.1.1.1.1.0.now, t.1.1.1.1.1.1.1.1.1.1.1.0.now, (t.1.1.1.1.1.1.0.now, t.1.1.1.1.1.1.1.1.1.0.now))
apply_eliminated_inverse = library.apply_eliminated_inverse_lem

pub coupling_times : (κs : Lfts 11) (a : _) (s t : _) (p q : ℕ) → coupling_times_reads.Post κs a p s → coupling_times_reads.Post κs a q t
    → ◌≡◌ {A = ℕ × ℕ × ℕ × (List ℕ × List Float × List Float)} (p, s.1.1.1.1.1.1.1.1.1.1.0.now, s.1.1.1.1.1.1.1.1.1.1.1.0.now, (s.1.1.1.1.1.1.0.now, s.1.1.1.1.1.1.1.1.0.now, s.1.1.1.1.1.1.1.1.1.0.now))
    (q, t.1.1.1.1.1.1.1.1.1.1.0.now, t.1.1.1.1.1.1.1.1.1.1.1.0.now, (t.1.1.1.1.1.1.0.now, t.1.1.1.1.1.1.1.1.0.now, t.1.1.1.1.1.1.1.1.1.0.now))
coupling_times = library.coupling-times

pub coupling_transpose_times : (κs : Lfts 11) (a : _) (s t : _) (p q : ℕ) → coupling_transpose_times_reads.Post κs a p s → coupling_transpose_times_reads.Post κs a q t
    → ◌≡◌ {A = ℕ × ℕ × ℕ × (List ℕ × List Float × List Float)} (p, s.1.1.1.1.1.1.1.1.1.1.0.now, s.1.1.1.1.1.1.1.1.1.1.1.0.now, (s.1.1.1.1.1.1.0.now, s.1.1.1.1.1.1.1.1.0.now, s.1.1.1.1.1.1.1.1.1.0.now))
    (q, t.1.1.1.1.1.1.1.1.1.1.0.now, t.1.1.1.1.1.1.1.1.1.1.1.0.now, (t.1.1.1.1.1.1.0.now, t.1.1.1.1.1.1.1.1.0.now, t.1.1.1.1.1.1.1.1.1.0.now))
coupling_transpose_times = library.coupling-transpose-times

pub step : (κs : Lfts 15) (a : _) (s t : _) (p q : ℕ) → step_reads.Post κs a p s → step_reads.Post κs a q t
    → ◌≡◌ {A = ℕ × ℕ × ℕ × (List ℕ × List Float × List ℕ)} (p, s.1.1.1.1.1.1.1.1.1.1.1.1.1.1.1.1.1.0.now, s.1.1.1.1.1.1.1.1.1.1.1.1.1.1.1.1.1.1.0.now, (s.1.1.1.1.1.1.1.0.now, s.1.1.1.1.1.1.1.1.1.1.1.1.1.1.0.now, s.1.1.1.1.1.1.1.1.1.1.1.1.1.1.1.0.now))
    (q, t.1.1.1.1.1.1.1.1.1.1.1.1.1.1.1.1.1.0.now, t.1.1.1.1.1.1.1.1.1.1.1.1.1.1.1.1.1.1.0.now, (t.1.1.1.1.1.1.1.0.now, t.1.1.1.1.1.1.1.1.1.1.1.1.1.1.0.now, t.1.1.1.1.1.1.1.1.1.1.1.1.1.1.1.0.now))
step = library.step

pub sweep : (κs : Lfts 16) (a : _) (s t : _) (p q : ℕ) → sweep_reads.Post κs a p s → sweep_reads.Post κs a q t
    → ◌≡◌ {A = ℕ × ℕ × ℕ × (List ℕ × List Float × List ℕ)} (p, s.1.1.1.1.1.1.1.1.1.1.1.1.1.1.1.1.1.0.now, s.1.1.1.1.1.1.1.1.1.1.1.1.1.1.1.1.1.1.0.now, (s.1.1.1.1.1.1.1.0.now, s.1.1.1.1.1.1.1.1.1.1.1.1.1.1.0.now, s.1.1.1.1.1.1.1.1.1.1.1.1.1.1.1.0.now))
    (q, t.1.1.1.1.1.1.1.1.1.1.1.1.1.1.1.1.1.0.now, t.1.1.1.1.1.1.1.1.1.1.1.1.1.1.1.1.1.1.0.now, (t.1.1.1.1.1.1.1.0.now, t.1.1.1.1.1.1.1.1.1.1.1.1.1.1.0.now, t.1.1.1.1.1.1.1.1.1.1.1.1.1.1.1.0.now))
sweep = library.sweep
