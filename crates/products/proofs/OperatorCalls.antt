-- What a call of `apply_schur_operator` comes to, by how far it gets, and what its checks give its steps. Assumes nothing.
use Rattle.std.proofs.Common.{◌≡◌, ℕ, ◌+◌, ◌<◌, ◌≤◌, Bool, true, false, List, length, get_or, replicate, sym, refl, ap, ◌∙◌, arith, ne_eqb}
use native.Mathlib.Decide.{ℕ_discrete}
use Rattle.ground.specs.Gather.{gather}
use Rattle.columns.specs.declared.unchecked.Sign.{Sign}
use lib.ListN.{length-replicate}
use lib.Ieee.{Float}
use Rattle.columns.specs.declared.unchecked.Sign.TheVariants.{Plus, Minus}
use Rattle.columns.specs.declared.refusal.Refusal.{Refusal}
use Rattle.columns.specs.Refusals.{Answer}
use Rattle.std.specs.Prelude.{Ok, Err}
use Rattle.columns.specs.Refusals.{Told, done, refused, told, Passes, or_else}
use Rattle.columns.specs.Lengths.{wrong_length}
use Rattle.columns.specs.Columns.{Columns, columns_of, column_count}
use Rattle.columns.specs.Sums.{zero₊, zero₋, swept_on}
use Rattle.columns.proofs.RefusalLaws.{or_refused, or_assoc, both_pass, passed, pass_refused, pass_done}
use Rattle.columns.proofs.CallLaws.{lengths_right}
use Rattle.blocks.specs.Sides.{side_dof, side_of}
use Rattle.blocks.specs.Claims.{late_blocks, marked, Mapped, BlocksKeep}
use Rattle.blocks.specs.BlockValues.{value_count, Limited}
use Rattle.blocks.proofs.ValueCalls.{limited_of}
use Rattle.plan.specs.Spans.{chunk_count_of, Spread}
use Rattle.products.specs.SideSums.{side_gather, inverse_times}
use Rattle.products.specs.SideFits.{SideFits, DofsFit, InversesFit}
use Rattle.products.specs.Orders.{plan_bad, bad_plan, span_terms, plan_terms, early_chunked}
use Rattle.products.specs.OrderWalk.{entries_only, spans_only, SpansFit}
use Rattle.products.specs.PlanCheck.{rows_only}
use Rattle.products.specs.SweepCheck.{chunked_left, check_chunked}
use Rattle.products.specs.Operator.{damp_length, Operands, Work, sizes_of, operator_lengths, operator_told, kept_rows, eliminated_sums, reduced_rows, kept_sums, operated, schur_operator}
use Rattle.products.specs.OperatorCalls.{operator_lent, damped_on, DampFits}
use Rattle.products.proofs.LentRules.{dofs-fit, side-fits}
use Rattle.products.proofs.OperatorRules.{damped-sums}
use Rattle.products.proofs.SweepRules.{Chunks, chunked_passes, rest_is, late_marked, late_kept, plan-told-is, good-spans}

few_damp : (n k : ℕ) → damp_length n k ≡ k → n ≤ k
unfolding damp_length
few_damp n k e = go (ℕ_discrete n 0)
  where
    go : Dec (n ≡ 0) → n ≤ k
    go (yes z) = omega arith
    go (no z) = let q : n ≡ k = rw (ne_eqb n 0 z) at e in omega arith

-- a gather looks at no row count, and a span's terms at nothing but entries and spans
gather_any : (m : Columns) (side : List ℕ) (k : ℕ) (y : List Float) → side_gather zero₋ (columns_of k m.ptrs m.rows m.values) side y ≡ side_gather zero₋ m side y
unfolding side_gather
gather_any m side k y = refl

plan_any : (m : Columns) (s : Spread) (sign : Sign) (y v : List Float) → swept_on sign y (gather (span_terms (entries_only m.rows m.values) (spans_only s.lo s.hi s.local) v) 0 (length s.lo)) ≡ swept_on sign y (plan_terms m s v)
unfolding span_terms
plan_any m s sign y v = refl

-- what a pass of 1 to 9 gives
module _ {m : Columns} {kept elims : List ℕ} {len : ℕ} (c : Chunks m kept elims len) where
  -- columns and blocks keep the rules; the laws of the blocks ask for a map too, and any with room will do
  keep : BlocksKeep m kept elims (replicate (column_count m) 0)
  keep = record { keeps = c.keeps; parted = c.parted; room = (let e = length-replicate {A = ℕ} (column_count m) 0 in omega arith) }

  pub operator-dofs : (e : Bool) → DofsFit (side_of e kept elims)
  operator-dofs e = dofs-fit m kept elims (replicate (column_count m) 0) keep e

  pub operator_limited : Limited elims
  operator_limited = limited_of m kept elims (replicate (column_count m) 0) keep

-- what a pass of all checks gives
pub record Passed (m : Columns) (kept elims : List ℕ) (len : ℕ) (o : Operands) (w : Work) : Type 0 where
  pub chunks : Chunks m kept elims len
  pub lengths : Passes (wrong_length (operator_lengths m kept elims len o w))
  pub kept-plan : Passes (bad_plan false m kept len o.kept)
  pub elims-plan : Passes (bad_plan true m elims len o.elims)

module _ {m : Columns} {kept elims : List ℕ} {len : ℕ} {o : Operands} {w : Work} (p : Passed m kept elims len o w) where
  right : (k : ℕ) → k < 15 → get_or (operator_lengths m kept elims len o w) (k + k) 0 ≡ get_or (operator_lengths m kept elims len o w) (k + k + 1) 0
  unfolding operator_lengths
  right k h = lengths_right (operator_lengths m kept elims len o w) p.lengths k h

  good : (f : Bool) (side : List ℕ) (s : Spread) → Passes (bad_plan f m side len s) → plan_bad m (side_dof side) len (chunk_count_of m.nrows len) s ≡ false
  unfolding bad_plan
  good f side s h = (passed _ 12 _ done h).0

  pub kept_spans : (ny : ℕ) → ny ≡ length w.rows → SpansFit m.rows (length m.values) (length o.v) ny o.kept.lo o.kept.hi o.kept.local
  unfolding operator_lengths
  kept_spans ny h =
      good-spans m (side_dof kept) len (chunk_count_of m.nrows len) o.kept (good false kept o.kept p.kept-plan) p.chunks.keeps (length o.v) ny (right 0 (omega arith)) (h ∙ right 11 (omega arith)) (right 5 (omega arith)) (right 6 (omega arith))

  pub elims-spans : (nu ny : ℕ) → nu ≡ length w.u → ny ≡ length w.rows → SpansFit m.rows (length m.values) nu ny o.elims.lo o.elims.hi o.elims.local
  unfolding operator_lengths
  elims-spans nu ny g h =
      good-spans m (side_dof elims) len (chunk_count_of m.nrows len) o.elims (good true elims o.elims p.elims-plan) p.chunks.keeps nu ny (g ∙ right 13 (omega arith)) (h ∙ right 11 (omega arith)) (right 9 (omega arith)) (right 10 (omega arith))

  pub elims-gather : (ny nt : ℕ) → ny ≡ length w.rows → nt ≡ length w.t → SideFits (columns_of ny m.ptrs m.rows m.values) elims nt
  unfolding operator_lengths
  elims-gather ny nt h g = side-fits m kept elims (replicate (column_count m) 0) (keep p.chunks) true nt ny (h ∙ right 11 (omega arith)) (g ∙ right 12 (omega arith))

  pub kept-gather : (ny n : ℕ) → ny ≡ length w.rows → n ≡ length w.out → SideFits (columns_of ny m.ptrs m.rows m.values) kept n
  unfolding operator_lengths
  kept-gather ny n h g = side-fits m kept elims (replicate (column_count m) 0) (keep p.chunks) false n ny (h ∙ right 11 (omega arith)) (g ∙ right 14 (omega arith))

  pub inverses-fit : (nt nu : ℕ) → nt ≡ length w.t → nu ≡ length w.u → InversesFit elims (length o.inverses) nt nu
  unfolding operator_lengths
  inverses-fit nt nu g h = record { values = right 1 (omega arith); entries = g ∙ right 12 (omega arith); room = h ∙ right 13 (omega arith) }

  damp_few : length o.d ≤ side_dof kept
  unfolding operator_lengths
  damp_few = few_damp (length o.d) (side_dof kept) (right 2 (omega arith))

  pub damp_fits : (n : ℕ) → n ≡ length w.out → DampFits (length o.d) (length o.v) n
  unfolding operator_lengths
  damp_fits n h = record { vector = (let a = damp_few in let b = right 0 (omega arith) in omega arith); room = (let a = damp_few in let b = right 14 (omega arith) in omega arith) }

module _ (m : Columns) (kept elims : List ℕ) (len : ℕ) (map : List ℕ) (o : Operands) (w : Work) (t : Answer) (map' : List ℕ) (call : record { told = told t; map = map' } ≡ check_chunked m kept elims len map) where
  -- 1 to 9
  pub operator-refused : (r : Refusal) → t ≡ Err r → record { told = refused r; map = map'; work = w } ≡ schur_operator m kept elims len map o w
  unfolding schur_operator check_chunked
  operator-refused r q =
      let a : or_else (early_chunked m kept elims len map) (late_blocks m kept elims) ≡ refused r = sym (ap (λ (z : Mapped). z.told) call) ∙ ap told q in
      let b : operator_told m kept elims len map o w ≡ refused r = sym (or_assoc (early_chunked m kept elims len map) (late_blocks m kept elims) _) ∙ rw a (or_refused r _) in
      let z : map' ≡ chunked_left (refused r) m kept elims len map = rw a at (ap (λ (z : Mapped). z.map) call) in
      rw (b, z, pass_refused r (operated m kept elims o) w)

  module _ (d : t ≡ Ok tt) where
    -- the numbers that the code counted, and what the checks of 11 and 13 answered
    module _ (kd ed count : ℕ) (l : Answer) (p : kd ≡ side_dof kept) (q : ed ≡ side_dof elims) (c : count ≡ value_count elims)
        (lent : told l ≡ operator_lent m.nrows (rows_only m.rows) len kd ed count (sizes_of o w) o.kept o.elims) where
      told_is : operator_told m kept elims len map o w ≡ told l
      unfolding operator_lent operator_lengths
      told_is =
          rest_is m kept elims len map t map' call d _
          ∙ sym (lent ∙ rw (p, q, c, plan-told-is false m kept len o.kept, plan-told-is true m elims len o.elims))

      -- 11 and 13
      pub operator_later : (r : Refusal) (k : ℕ) (map₂ : List ℕ) → l ≡ Err r → k ≡ column_count m → map₂ ≡ marked k map' → record { told = refused r; map = map₂; work = w } ≡ schur_operator m kept elims len map o w
      unfolding schur_operator
      operator_later r k map₂ e n z = rw (told_is, e, late_marked m kept elims len map t map' call d r k map₂ n z, pass_refused r (operated m kept elims o) w)

      -- all checks have passed
      module _ (e : l ≡ Ok tt) where
        pub operator_passes : Passed m kept elims len o w
        operator_passes =
            let a = both_pass (early_chunked m kept elims len map) _ (ap (λ (z : Told). z.number) (told_is ∙ ap told e)) in
            let b = both_pass (late_blocks m kept elims) _ a.1 in
            let f = both_pass (wrong_length (operator_lengths m kept elims len o w)) _ b.1 in
            let g = both_pass (bad_plan false m kept len o.kept) (bad_plan true m elims len o.elims) f.1 in
            record { chunks = chunked_passes m kept elims len map t map' call d; lengths = f.0; kept-plan = g.0; elims-plan = g.1 }

        -- the steps, one after the other: each buffer as the step left it
        pub operator-done : (y₁ y₂ y₃ t' u' out₁ out₂ : List Float) (ny mz : ℕ) → y₁ ≡ replicate (length w.rows) zero₊
            → y₂ ≡ swept_on Plus y₁ (gather (span_terms (entries_only m.rows m.values) (spans_only o.kept.lo o.kept.hi o.kept.local) o.v) 0 (length o.kept.lo))
            → t' ≡ side_gather zero₋ (columns_of ny m.ptrs m.rows m.values) elims y₂ → u' ≡ inverse_times elims o.inverses t'
            → y₃ ≡ swept_on Minus y₂ (gather (span_terms (entries_only m.rows m.values) (spans_only o.elims.lo o.elims.hi o.elims.local) u') 0 (length o.elims.lo))
            → out₁ ≡ side_gather zero₋ (columns_of mz m.ptrs m.rows m.values) kept y₃ → out₂ ≡ damped_on o.d o.v out₁
            → record { told = done; map = map'; work = record { rows = y₃; t = t'; u = u'; out = out₂ } } ≡ schur_operator m kept elims len map o w
        unfolding schur_operator operated operator_lengths
        operator-done y₁ y₂ y₃ t' u' out₁ out₂ ny mz a b f g h i j =
            let rows₁ : y₂ ≡ kept_rows m o.kept o.v = b ∙ ap (λ (z : List Float). swept_on Plus z (gather (span_terms (entries_only m.rows m.values) (spans_only o.kept.lo o.kept.hi o.kept.local) o.v) 0 (length o.kept.lo))) (a ∙ ap (λ (n : ℕ). replicate n zero₊) (right operator_passes 11 (omega arith))) ∙ plan_any m o.kept Plus (replicate m.nrows zero₊) o.v in
            let sums : t' ≡ eliminated_sums m elims (kept_rows m o.kept o.v) = f ∙ gather_any m elims ny y₂ ∙ ap (λ (z : List Float). eliminated_sums m elims z) rows₁ in
            let times : u' ≡ inverse_times elims o.inverses (eliminated_sums m elims (kept_rows m o.kept o.v)) = g ∙ ap (λ (z : List Float). inverse_times elims o.inverses z) sums in
            let rows₂ : y₃ ≡ reduced_rows m o.elims (inverse_times elims o.inverses (eliminated_sums m elims (kept_rows m o.kept o.v))) (kept_rows m o.kept o.v) = h ∙ plan_any m o.elims Minus y₂ u' ∙ rw (rows₁, times) in
            let last : out₂ ≡ kept_sums m kept o.d o.v y₃ = damped-sums m kept o.d o.v y₃ out₁ out₂ (damp_few operator_passes) (i ∙ gather_any m kept mz y₃) j in
            rw (told_is, e, last, rows₂, times, sums, pass_done done (operated m kept elims o) w refl) (ap (λ (z : List ℕ). record { told = done; map = z; work = operated m kept elims o }) (late_kept m kept elims len map t map' call d))
