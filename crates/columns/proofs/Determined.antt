-- Any two outcomes that the contract of a public function permits agree. `Post` is the contract's own reading: at the arguments a, the result and
-- the parameters as the call leaves them. Each is the general law `by_equation`, since an answer can be had back from what it tells, or `named`,
-- where the contract names what is given or left. Assumes nothing.
use mathlib.Core.Path.{◌≡◌, refl, ap}
use mathlib.Core.Bool.{Bool, cond}
use mathlib.Core.List.{List}
use Prim.Native.Nat.{ℕ}
use contract.Lifetimes.{Lfts}
use lib.Dec.{eqb}
use lib.ListN.{get_or}
use lib.Ieee.{Float, nan}
use Rattle.ground.proofs.DeterminedLaws.{by_equation, named}
use Rattle.columns.specs.declared.refusal.Refusal.{Refusal}
use Rattle.columns.specs.declared.refusal.Values.{Values}
use Rattle.std.specs.Prelude.{Result, Ok, Err}
use Rattle.columns.specs.Refusals.{Answer, told}
use Rattle.columns.specs.JacobianOps.{Dotted, dotted, Left, LeftRows}
use Rattle.columns.proofs.RefusalLaws.{refusal_of, refusal_back, number-some, answer_of, answer_back, told_determined}
use Rattle.columns.proofs.refusal.Side.number.Reads as side-number-reads
use Rattle.columns.proofs.refusal.Refusal.number.Reads as number-reads
use Rattle.columns.proofs.refusal.Refusal.values.Reads as values-reads
use Rattle.columns.proofs.refusal.sooner.Reads as sooner-reads
use Rattle.columns.proofs.refusal.no_room.Reads as no-room-reads
use Rattle.columns.proofs.refusal.wrong_length.Reads as wrong-length-reads
use Rattle.columns.proofs.lent.Columns.count.Reads as column-count-reads
use Rattle.columns.proofs.check.some_pointer_falls.Reads as some-pointer-falls-reads
use Rattle.columns.proofs.check.check_columns.Reads as check
use Rattle.columns.proofs.lent.Columns.first_place.Reads as first-place-reads
use Rattle.columns.proofs.lent.Columns.end_place.Reads as end-place-reads
use Rattle.columns.proofs.unchecked.sweep_entries.Reads as sweep-entries-reads
use Rattle.columns.proofs.unchecked.sweep_column.Reads as sweep-column-reads
use Rattle.columns.proofs.unchecked.gather_column.Reads as gather-column-reads
use Rattle.columns.proofs.unchecked.dot_columns.Reads as dot-columns-reads
use Rattle.columns.proofs.jacobian_ops.clear.Reads as clear_reads
use Rattle.columns.proofs.jacobian_ops.column_dot.Reads as dot
use Rattle.columns.proofs.jacobian_ops.jt_vec.Reads as gathers
use Rattle.columns.proofs.jacobian_ops.diag_jt_j.Reads as diagonal
use Rattle.columns.proofs.jacobian_ops.jt_j_vec_product.Reads as product

unfoldable dot_back_of : Dotted → Result Float Refusal
dot_back_of d = cond (eqb d.told.number 0) (Ok (get_or d.sums 0 nan)) (Err (refusal_of d.told))

dot_back_lem : (d : Result Float Refusal) → dot_back_of (dotted d) ≡ d
unfolding dot_back_of
dot_back_lem (Ok x) = refl
dot_back_lem (Err r) = rw (number-some r) (ap (λ (s : Refusal). Err s) (refusal_back r))

left_back : (o : Answer × List Float) → ◌≡◌ {A = Answer × List Float} (answer_of (told o.0), o.1) o
left_back o = ap (λ (a : Answer). (a, o.1)) (answer_back o.0)

rows_back : (o : Answer × List Float × List Float) → ◌≡◌ {A = Answer × List Float × List Float} (answer_of (told o.0), o.1, o.2) o
rows_back o = ap (λ (a : Answer). (a, o.1, o.2)) (answer_back o.0)

pub check_columns : (κs : Lfts 1) (a : _) (s t : _) (p q : Answer) → check.Post κs a p s → check.Post κs a q t → p ≡ q
check_columns κs a s t p q = told_determined _ p q

pub column_dot_lem : (κs : Lfts 1) (a : _) (s t : _) (p q : Result Float Refusal) → dot.Post κs a p s → dot.Post κs a q t → p ≡ q
column_dot_lem κs a s t p q = by_equation dotted dot_back_of dot_back_lem _ p q

pub jt_vec_lem : (κs : Lfts 3) (a : _) (s t : _) (p q : Answer) → gathers.Post κs a p s → gathers.Post κs a q t
    → ◌≡◌ {A = Answer × List Float} (p, s.1.1.0.now) (q, t.1.1.0.now)
jt_vec_lem κs a s t p q =
    by_equation (λ (o : Answer × List Float). record { told = told o.0; out = o.1 }) (λ (w : Left). (answer_of w.told, w.out)) left_back _
    (p, s.1.1.0.now) (q, t.1.1.0.now)

pub diag_jt_j_lem : (κs : Lfts 2) (a : _) (s t : _) (p q : Answer) → diagonal.Post κs a p s → diagonal.Post κs a q t
    → ◌≡◌ {A = Answer × List Float} (p, s.1.0.now) (q, t.1.0.now)
diag_jt_j_lem κs a s t p q =
    by_equation (λ (o : Answer × List Float). record { told = told o.0; out = o.1 }) (λ (w : Left). (answer_of w.told, w.out)) left_back _
    (p, s.1.0.now) (q, t.1.0.now)

pub jt_j_vec_product_lem : (κs : Lfts 4) (a : _) (s t : _) (p q : Answer) → product.Post κs a p s → product.Post κs a q t
    → ◌≡◌ {A = Answer × List Float × List Float} (p, s.1.1.0.now, s.1.1.1.0.now) (q, t.1.1.0.now, t.1.1.1.0.now)
jt_j_vec_product_lem κs a s t p q =
    by_equation (λ (o : Answer × List Float × List Float). record { told = told o.0; jv = o.1; out = o.2 })
    (λ (w : LeftRows). (answer_of w.told, w.jv, w.out)) rows_back _
    (p, s.1.1.0.now, s.1.1.1.0.now) (q, t.1.1.0.now, t.1.1.1.0.now)

-- ---- what entry points are made of

pub side_number : (κs : Lfts 0) (a : _) (s t : _) (p q : ℕ) → side-number-reads.Post κs a p s → side-number-reads.Post κs a q t → p ≡ q
side_number κs a s t p q = named _ p q

pub number : (κs : Lfts 0) (a : _) (s t : _) (p q : ℕ) → number-reads.Post κs a p s → number-reads.Post κs a q t → p ≡ q
number κs a s t p q = named _ p q

pub values : (κs : Lfts 0) (a : _) (s t : _) (p q : Values) → values-reads.Post κs a p s → values-reads.Post κs a q t → p ≡ q
values κs a s t p q = named _ p q

pub sooner : (κs : Lfts 0) (a : _) (s t : _) (p q : Answer) → sooner-reads.Post κs a p s → sooner-reads.Post κs a q t → p ≡ q
sooner κs a s t p q = told_determined _ p q

pub no_room : (κs : Lfts 1) (a : _) (s t : _) (p q : Answer) → no-room-reads.Post κs a p s → no-room-reads.Post κs a q t → p ≡ q
no_room κs a s t p q = told_determined _ p q

pub wrong_length_lem : (κs : Lfts 1) (a : _) (s t : _) (p q : Answer) → wrong-length-reads.Post κs a p s → wrong-length-reads.Post κs a q t → p ≡ q
wrong_length_lem κs a s t p q = told_determined _ p q

pub column-count : (κs : Lfts 1) (a : _) (s t : _) (p q : ℕ) → column-count-reads.Post κs a p s → column-count-reads.Post κs a q t → p ≡ q
column-count κs a s t p q = named _ p q

pub some_pointer_falls : (κs : Lfts 1) (a : _) (s t : _) (p q : Bool) → some-pointer-falls-reads.Post κs a p s → some-pointer-falls-reads.Post κs a q t → p ≡ q
some_pointer_falls κs a s t p q = named _ p q

pub clear : (κs : Lfts 1) (a : _) (s t : _) (p q : _) → clear_reads.Post κs a p s → clear_reads.Post κs a q t → s.0.now ≡ t.0.now
clear κs a s t p q = named _ s.0.now t.0.now

-- ---- what is public with a `requires`

pub first-place : (κs : Lfts 1) (a : _) (s t : _) (p q : ℕ) → first-place-reads.Post κs a p s → first-place-reads.Post κs a q t → p ≡ q
first-place κs a s t p q = named _ p q

pub end_place_lem : (κs : Lfts 1) (a : _) (s t : _) (p q : ℕ) → end-place-reads.Post κs a p s → end-place-reads.Post κs a q t → p ≡ q
end_place_lem κs a s t p q = named _ p q

pub sweep_entries : (κs : Lfts 2) (a : _) (s t : _) (p q : _) → sweep-entries-reads.Post κs a p s → sweep-entries-reads.Post κs a q t
    → s.1.1.1.1.1.0.now ≡ t.1.1.1.1.1.0.now
sweep_entries κs a s t p q = named _ s.1.1.1.1.1.0.now t.1.1.1.1.1.0.now

pub sweep_column : (κs : Lfts 2) (a : _) (s t : _) (p q : _) → sweep-column-reads.Post κs a p s → sweep-column-reads.Post κs a q t
    → s.1.1.1.1.0.now ≡ t.1.1.1.1.0.now
sweep_column κs a s t p q = named _ s.1.1.1.1.0.now t.1.1.1.1.0.now

pub gather-column : (κs : Lfts 2) (a : _) (s t : _) (p q : Float) → gather-column-reads.Post κs a p s → gather-column-reads.Post κs a q t → p ≡ q
gather-column κs a s t p q = named _ p q

pub dot_columns : (κs : Lfts 1) (a : _) (s t : _) (p q : Float) → dot-columns-reads.Post κs a p s → dot-columns-reads.Post κs a q t → p ≡ q
dot_columns κs a s t p q = named _ p q
