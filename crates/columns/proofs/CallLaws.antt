-- What an entry point's checks say: that what it tells is what its definition has, and what a pass gives the work behind it. Assumes nothing.
use mathlib.Core.Path.{◌≡◌, refl, sym, ap, ◌∙◌}
use mathlib.Core.Bool.{true, false}
use mathlib.Core.List.{List, [], ◌∷◌}
use Prim.Native.Nat.{ℕ, ◌/◌, ◌-◌, ◌≤◌, ◌<◌}
use native.Mathlib.Nat.{le_antisymm}
use native.Mathlib.Omega.{arith}
use lib.Dec.{leb}
use lib.ListN.{length, replicate, length-replicate}
use lib.Ieee.{Float}
use borrow.Author.Tests.{le-ltb, ltb-false, leb-false}
use Rattle.ground.proofs.FirstLaws.{past_none, none_past}
use Rattle.columns.specs.declared.refusal.Refusal.{Refusal}
use Rattle.std.specs.Prelude.{Ok, Err}
use Rattle.columns.specs.Refusals.{Answer, Told, done, refused, told, Passes, on_pass, or_else}
use Rattle.columns.specs.Lengths.{length_of, need_of, misfits, pair_bad, pairs_told, no_room_of, wrong_length}
use Rattle.columns.specs.Columns.{Columns, columns_of, column_count, checked, Keeps}
use Rattle.columns.specs.declared.unchecked.Sign.TheVariants.{Plus}
use Rattle.columns.specs.Sums.{zero₊, swept_on}
use Rattle.columns.specs.JacobianOps.{
  gathered,
  squared,
  all_terms,
  swept_rows,
  dot_of,
  no_column,
  dotted,
  dot_checked,
  column_dot,
  jt_vec_checked,
  jt_vec,
  diag_checked,
  diag_jt_j,
  product_checked,
  jt_j_vec_product,
}
use Rattle.columns.specs.Unchecked.{HasColumns, RunsThere, Gathers}
use Rattle.ground.specs.Gather.{list_of}
use Rattle.columns.proofs.SumLaws.{length-swept}
use Rattle.columns.proofs.RefusalLaws.{pass_refused, pass_done, passed, both_pass, or_refused, or_done}
use Rattle.columns.proofs.CheckLaws.{or_false, passes_keeps, gathers_of, runs-there}

-- ---- what is told

pub told-refused : (a : Answer) (r : Refusal) (t : Told) → told a ≡ t → a ≡ Err r → refused r ≡ t
told-refused a r t e q = rw q at e

pub told-done : (a : Answer) (x : Unit {0}) (t : Told) → told a ≡ t → a ≡ Ok x → done ≡ t
told-done a x t e q = rw q at e

-- one check after another, each as its definition has it: the first answers where it refuses, and where it passes the second
pub first_refused : (a : Answer) (r : Refusal) (s t : Told) → told a ≡ s → a ≡ Err r → refused r ≡ or_else s t
first_refused a r s t e q = rw (← told-refused a r s e q) (sym (or_refused r t))

pub then_told : (a : Answer) (x : Unit {0}) (s t u : Told) → told a ≡ s → a ≡ Ok x → u ≡ t → u ≡ or_else s t
then_told a x s t u e q p = rw (← told-done a x s e q, p) (sym (or_done t))

-- what a refused call leaves, and one that passed
pub kept_on : {A : Type 0} (r : Refusal) (t : Told) (x y : A) → refused r ≡ t → y ≡ on_pass t x y
kept_on r t x y e = rw (← e) (sym (pass_refused r x y))

pub given_on : {A : Type 0} (t : Told) (x y : A) → done ≡ t → x ≡ on_pass t x y
given_on t x y e = rw (← e) (sym (pass_done done x y refl))

-- ---- what a pass gives

-- each length is its need; each buffer has room for its own
pub lengths_right : (pairs : List ℕ) → Passes (wrong_length pairs) → (k : ℕ) → k < length pairs / 2 → length_of pairs k ≡ need_of pairs k
unfolding pairs_told pair_bad misfits
lengths_right pairs e k l =
    let p = or_false _ _ (past_none (pair_bad true pairs) 0 (length pairs / 2) (passed _ 10 _ done e).0 k (omega arith) l) in
    le_antisymm (ltb-false _ _ p.1) (ltb-false _ _ p.0)

pub room-right : (pairs : List ℕ) → Passes (no_room_of pairs) → (k : ℕ) → k < length pairs / 2 → need_of pairs k ≤ length_of pairs k
unfolding pairs_told pair_bad misfits
room-right pairs e k l = ltb-false _ _ (or_false _ _ (past_none (pair_bad false pairs) 0 (length pairs / 2) (passed _ 5 _ done e).0 k (omega arith) l)).0

-- and back
pub room-done : (pairs : List ℕ) → ((k : ℕ) → k < length pairs / 2 → need_of pairs k ≤ length_of pairs k) → no_room_of pairs ≡ done
unfolding pairs_told pair_bad misfits
room-done pairs h = rw (none_past (pair_bad false pairs) 0 (length pairs / 2) (λ k _ l. rw (le-ltb (length_of pairs k) (need_of pairs k) (h k l))))

column-is : (n j : ℕ) → Passes (no_column n j) → j < n
unfolding no_column
column-is n j e = leb-false n j (passed (leb n j) 6 (j ∷ []) done e).0

module _ (m : Columns) where
  pub dot_passes : (a b : ℕ) → done ≡ dot_checked m a b → HasColumns m a b
  dot_passes a b e =
      let p = both_pass (checked m) _ (ap (λ (t : Told). t.number) (sym e)) in
      let q = both_pass (no_column (column_count m) a) (no_column (column_count m) b) p.1 in
      let k = passes_keeps m p.0 in
      record { left = record { keeps = k; there = column-is _ a q.0 }; right = record { keeps = k; there = column-is _ b q.1 } }

  -- the lengths of a call, one by one
  pub jt_vec_passes : (v out : List Float) → done ≡ jt_vec_checked m v out → Keeps m × (length v ≡ m.nrows) × (length out ≡ column_count m)
  jt_vec_passes v out e =
      let p = both_pass (checked m) _ (ap (λ (t : Told). t.number) (sym e)) in
      let r = lengths_right (length v ∷ m.nrows ∷ length out ∷ column_count m ∷ []) p.1 in
      (passes_keeps m p.0, r 0 (omega arith), r 1 (omega arith))

  pub diag_passes : (out : List Float) → done ≡ diag_checked m out → Keeps m × (length out ≡ column_count m)
  diag_passes out e =
      let p = both_pass (checked m) _ (ap (λ (t : Told). t.number) (sym e)) in
      let r = lengths_right (length out ∷ column_count m ∷ []) p.1 in
      (passes_keeps m p.0, r 0 (omega arith))

  pub product_passes : (v jv out : List Float) → done ≡ product_checked m v jv out → Keeps m × (length v ≡ column_count m) × (length jv ≡ m.nrows) × (length out ≡ column_count m)
  product_passes v jv out e =
      let p = both_pass (checked m) _ (ap (λ (t : Told). t.number) (sym e)) in
      let r = lengths_right (length v ∷ column_count m ∷ length jv ∷ m.nrows ∷ length out ∷ column_count m ∷ []) p.1 in
      (passes_keeps m p.0, r 0 (omega arith), r 1 (omega arith), r 2 (omega arith))

-- ---- the entry points of src/jacobian_ops.rt: what a refused call leaves, and what one that passed does

module _ (m : Columns) (a b : ℕ) where
  pub dot_refused : (r : Refusal) → refused r ≡ dot_checked m a b → dotted (Err r) ≡ column_dot m a b
  unfolding column_dot
  dot_refused r e = rw (← e, pass_refused r (dot_of m a b ∷ []) [])

  pub dot_done : (x : Float) → done ≡ dot_checked m a b → x ≡ dot_of m a b → dotted (Ok x) ≡ column_dot m a b
  unfolding column_dot on_pass
  dot_done x e q = rw (← e, q)

-- a is what the checks answered
module _ (m : Columns) (a : Answer) where
  module _ (v out : List Float) (call : told a ≡ jt_vec_checked m v out) where
    pub jt_vec_refused : (r : Refusal) → a ≡ Err r → record { told = refused r; out = out } ≡ jt_vec m v out
    unfolding jt_vec
    jt_vec_refused r e = rw (← told-refused a r _ call e, pass_refused r (list_of (gathered m v) (column_count m)) out)

    pub jt_vec_gathers : (x : Unit {0}) → a ≡ Ok x → Gathers (columns_of (length v) m.ptrs m.rows m.values) (length out)
    jt_vec_gathers x e = let p = jt_vec_passes m v out (told-done a x _ call e) in gathers_of _ m.nrows m.ptrs m.rows m.values _ p.0 p.1 p.2

    pub jt_vec_done : (x : Unit {0}) (out' : List Float) → a ≡ Ok x → out' ≡ list_of (gathered m v) (length out) → record { told = done; out = out' } ≡ jt_vec m v out
    unfolding jt_vec on_pass
    jt_vec_done x out' e q = let d = told-done a x _ call e in rw (← d, q, (jt_vec_passes m v out d).2)

  module _ (out : List Float) (call : told a ≡ diag_checked m out) where
    pub diag_refused : (r : Refusal) → a ≡ Err r → record { told = refused r; out = out } ≡ diag_jt_j m out
    unfolding diag_jt_j
    diag_refused r e = rw (← told-refused a r _ call e, pass_refused r (list_of (squared m) (column_count m)) out)

    pub diag_runs : (x : Unit {0}) → a ≡ Ok x → RunsThere m.ptrs (length m.values) (length out)
    diag_runs x e = let p = diag_passes m out (told-done a x _ call e) in rw p.1 (runs-there p.0)

    pub diag_done : (x : Unit {0}) (out' : List Float) → a ≡ Ok x → out' ≡ list_of (squared m) (length out) → record { told = done; out = out' } ≡ diag_jt_j m out
    unfolding diag_jt_j on_pass
    diag_done x out' e q = let d = told-done a x _ call e in rw (← d, q, (diag_passes m out d).1)

  module _ (v jv out : List Float) (call : told a ≡ product_checked m v jv out) where
    pub product-refused : (r : Refusal) → a ≡ Err r → record { told = refused r; jv = jv; out = out } ≡ jt_j_vec_product m v jv out
    unfolding jt_j_vec_product
    product-refused r e =
        rw (← told-refused a r _ call e, pass_refused r (swept_rows m v) jv, pass_refused r (list_of (gathered m (swept_rows m v)) (column_count m)) out)

    -- y is the rows once they are cleared, and z once they are swept
    module _ (x : Unit {0}) (pass : a ≡ Ok x) (y : List Float) (cleared : y ≡ replicate (length jv) zero₊) where
      passes : Keeps m × (length v ≡ column_count m) × (length jv ≡ m.nrows) × (length out ≡ column_count m)
      passes = product_passes m v jv out (told-done a x _ call pass)

      pub product_sweeps : Gathers (columns_of (length y) m.ptrs m.rows m.values) (length v)
      product_sweeps =
          gathers_of _ m.nrows m.ptrs m.rows m.values _ passes.0 (ap length cleared ∙ length-replicate (length jv) zero₊ ∙ passes.2) passes.1

      module _ (z : List Float) (swept : z ≡ swept_on Plus y (all_terms (columns_of (length y) m.ptrs m.rows m.values) v)) where
        swept-is : z ≡ swept_rows m v
        swept-is = swept ∙ rw (cleared, passes.2)

        pub product_gathers : Gathers (columns_of (length z) m.ptrs m.rows m.values) (length out)
        product_gathers =
            gathers_of _ m.nrows m.ptrs m.rows m.values _ passes.0
            (ap length swept-is ∙ length-swept Plus _ (all_terms m v) ∙ length-replicate m.nrows zero₊) passes.3

        pub product-done : (out' : List Float) → out' ≡ list_of (gathered m z) (length out) → record { told = done; jv = z; out = out' } ≡ jt_j_vec_product m v jv out
        unfolding jt_j_vec_product on_pass
        product-done out' g = rw (← told-done a x _ call pass, ← swept-is, g, passes.3)
