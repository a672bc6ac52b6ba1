-- The checks that steps and sweeps have in common: what they tell and leave, by how far they get, and what a pass gives the work behind it.
-- Assumes nothing.
use Rattle.std.proofs.Common.{◌≡◌, ℕ, ◌+◌, ◌-◌, ◌*◌, ◌<◌, ◌≤◌, Bool, true, false, not, ltb, leb, List, [], ◌∷◌, ◌++◌, length, get_or, drop, replicate, sym, refl, ap, ◌∙◌, le_trans, div-le_self, div-mul-le_self, arith, length-append, drop_at, rules, ltb-false, leb-false}
use borrow.Author.Tests.{not-false}
use Rattle.ground.specs.First.{some}
use Rattle.ground.specs.Gather.{list_of}
use Rattle.ground.proofs.FirstLaws.{past_none}
use Rattle.ground.proofs.GatherLaws.{length-list_of}
use Rattle.columns.specs.declared.refusal.Refusal.{Refusal}
use Rattle.columns.specs.Refusals.{Answer}
use Rattle.std.specs.Prelude.{Ok, Err}
use Rattle.std.specs.Result.{result_and}
use Rattle.columns.specs.Refusals.{Told, done, refused, told, Passes, on_pass, or_else}
use Rattle.columns.specs.Lengths.{no_room_of, wrong_length}
use Rattle.columns.specs.Columns.{Columns, column_count, entry_count, first_in, end_in, Keeps}
use Rattle.columns.proofs.RefusalLaws.{pass_refused, pass_done, both_pass, passed, or_refused, or_done, or_assoc, and_told}
use Rattle.columns.proofs.CheckLaws.{or_false, passes_keeps, column-ascends}
use Rattle.columns.proofs.CallLaws.{lengths_right, room-right}
use Rattle.blocks.specs.Sides.{side_dof, side_of}
use Rattle.blocks.specs.Claims.{late_blocks, mark, marked, claims, place_of, parts_told, Mapped, Parted}
use Rattle.blocks.specs.Walk.{Roomy, walk_blocks}
use Rattle.blocks.proofs.CallRules.{parts_passes}
use Rattle.blocks.proofs.PartLaws.{walk_parted}
use Rattle.blocks.proofs.WalkRules.{marked_all}
use Rattle.plan.specs.Spans.{chunk_told, chunk_count_of, in_chunk, Spread}
use Rattle.plan.specs.SpanWalk.{Chunked}
use Rattle.plan.proofs.ChunkLaws.{chunk_passes}
use Rattle.plan.proofs.SpanCalls.{side_dof_lem}
use Rattle.columns.specs.declared.refusal.Side.{Side}
use Rattle.columns.specs.declared.refusal.Side.TheVariants.{Kept, Eliminated}
use Rattle.products.specs.Orders.{lent_lengths, spans_told, entry_out, span_bad, chunk_bad, starts_bad, plan_bad, bad_plan, early_chunked}
use Rattle.products.specs.Side.{eliminated}
use Rattle.products.specs.PlanCheck.{Risen, rows_only, PlanThere}
use Rattle.products.specs.OrderWalk.{SpansFit, PlanFits}
use Rattle.products.specs.SweepCheck.{chunked_left, check_chunked, lent_sweep, checks_told, check_sweep, FewSides}
use Rattle.products.specs.SideFits.{DofsFit}
use Rattle.products.proofs.PlanRules.{Rising, starts-rise, rising_within, rising_find}

-- columns that keep the rules rise
pub risen_of : (m : Columns) → Keeps m → Risen m.ptrs m.rows
risen_of m k = record { rise = λ j p q l low h high. column-ascends k.sorted j l p q low h high }

-- ---- a side's dof

pub side-kept : (side : Side) (kept elims : List ℕ) (r : ℕ) → side ≡ Kept → r ≡ side_dof kept → r ≡ side_dof (side_of (eliminated side) kept elims)
side-kept side kept elims r e q = rw e q

pub side-elims : (side : Side) (kept elims : List ℕ) (r : ℕ) → side ≡ Eliminated → r ≡ side_dof elims → r ≡ side_dof (side_of (eliminated side) kept elims)
side-elims side kept elims r e q = rw e q

pub few-kept : (kept elims : List ℕ) → FewSides kept elims → DofsFit kept
few-kept kept elims f = f.kept-few

pub few-elims : (kept elims : List ℕ) → FewSides kept elims → DofsFit elims
few-elims kept elims f = f.elims-few

-- ---- 1 to 9

module _ (m : Columns) (kept elims : List ℕ) (len : ℕ) (map : List ℕ) where
  abbrev n : ℕ
  n = column_count m

  abbrev cs : List ℕ
  cs = claims (column_count m) kept elims

  -- k is the column count that the code read; rest is what the later of the early checks told
  module _ (k : ℕ) (chunk room rest parts : Answer) (count : k ≡ column_count m) (c : told chunk ≡ chunk_told len) (w : told room ≡ no_room_of (length map ∷ k ∷ []))
      (o : rest ≡ result_and chunk room) (p : told parts ≡ parts_told m kept elims (told rest)) where
    early_is : told parts ≡ early_chunked m kept elims len map
    early_is = p ∙ rw (o, and_told chunk room, c, w, count)

    pub chunked-refused : (r : Refusal) → parts ≡ Err r → record { told = refused r; map = map } ≡ check_chunked m kept elims len map
    unfolding check_chunked
    chunked-refused r e =
        let q : early_chunked m kept elims len map ≡ refused r = sym early_is ∙ ap told e in
        rw (q, or_refused r (late_blocks m kept elims), pass_refused r (on_pass (refused r) (list_of (place_of cs) n) (replicate n mark) ++ drop n map) map)

    module _ (e : parts ≡ Ok tt) where
      early_done : early_chunked m kept elims len map ≡ done
      early_done = sym early_is ∙ ap told e

      pub chunked-roomy : Roomy k (length map)
      chunked-roomy =
          let a = parts_passes m kept elims (or_else (chunk_told len) (no_room_of (length map ∷ column_count m ∷ []))) (ap (λ (t : Told). t.number) early_done) in
          let b = both_pass (chunk_told len) (no_room_of (length map ∷ column_count m ∷ [])) a.3 in
          rw count (record { few = (passes_keeps m a.0).small.few-columns; fits = room-right (length map ∷ column_count m ∷ []) b.1 0 (omega arith) })

      pub chunked-walked : (t : Answer) (map' : List ℕ) → record { told = told t; map = map' } ≡ walk_blocks k (claims k kept elims) map → record { told = told t; map = map' } ≡ check_chunked m kept elims len map
      unfolding check_chunked walk_blocks on_pass
      chunked-walked t map' q = q ∙ rw (early_done, count)

-- a pass of 1 to 9
pub record Chunks (m : Columns) (kept elims : List ℕ) (len : ℕ) : Type 0 where
  pub keeps : Keeps m
  pub parted : Parted (column_count m) kept elims
  pub chunked : Chunked m.nrows len

pub chunks_of : (m : Columns) (kept elims : List ℕ) (len : ℕ) (map : List ℕ) → Passes (early_chunked m kept elims len map) → Passes (late_blocks m kept elims) → Chunks m kept elims len
chunks_of m kept elims len map e l =
    let a = parts_passes m kept elims (or_else (chunk_told len) (no_room_of (length map ∷ column_count m ∷ []))) e in
    let b = both_pass (chunk_told len) (no_room_of (length map ∷ column_count m ∷ [])) a.3 in
    let k = passes_keeps m a.0 in
    record { keeps = k; parted = walk_parted m kept elims a.1 a.2 l; chunked = chunk_passes m.nrows len b.0 k.small.few-rows }

-- what it gives the checks that come after
module _ {m : Columns} {kept elims : List ℕ} {len : ℕ} (c : Chunks m kept elims len) where
  pub chunks-asked : Risen m.ptrs m.rows × Chunked m.nrows len
  chunks-asked = (risen_of m c.keeps, c.chunked)

  pub chunks_sides : FewSides kept elims
  chunks_sides = record { kept-few = record { few = side_dof_lem m kept elims c.keeps c.parted false }; elims-few = record { few = side_dof_lem m kept elims c.keeps c.parted true } }

-- what the map holds once 1 to 9 have passed: it is filled, and a later refusal marks it
module _ (m : Columns) (kept elims : List ℕ) (len : ℕ) (map : List ℕ) (early : Passes (early_chunked m kept elims len map)) where
  abbrev filled : List ℕ
  filled = list_of (place_of (claims (column_count m) kept elims)) (column_count m)

  pub left-done : chunked_left done m kept elims len map ≡ filled ++ drop (column_count m) map
  left-done =
      pass_done (early_chunked m kept elims len map) _ map early
      ∙ ap (λ (l : List ℕ). l ++ drop (column_count m) map) (pass_done done filled (replicate (column_count m) mark) refl)

  pub mark-left : (map' : List ℕ) → map' ≡ filled ++ drop (column_count m) map → (r : Refusal) (k : ℕ) (map₂ : List ℕ) → k ≡ column_count m → map₂ ≡ marked k map' → map₂ ≡ chunked_left (refused r) m kept elims len map
  mark-left map' f r k map₂ e q =
      let s : length filled ≡ column_count m = length-list_of (place_of (claims (column_count m) kept elims)) 0 (column_count m) in
      let h : column_count m ≤ length map' = rw (f, length-append) (omega arith) in
      let p : drop (column_count m) map' ≡ drop (column_count m) map = ap (drop (column_count m)) f ∙ drop_at filled (drop (column_count m) map) (column_count m) s in
      (rw e at q)
      ∙ marked_all (column_count m) map' h
      ∙ ap (λ (l : List ℕ). replicate (column_count m) mark ++ l) p
      ∙ sym (pass_done (early_chunked m kept elims len map) _ map early ∙ ap (λ (l : List ℕ). l ++ drop (column_count m) map) (pass_refused r filled (replicate (column_count m) mark)))

-- t is what `check_chunked` answered, and map' the map that it left
module _ (m : Columns) (kept elims : List ℕ) (len : ℕ) (map : List ℕ) (t : Answer) (map' : List ℕ) (call : record { told = told t; map = map' } ≡ check_chunked m kept elims len map) (d : t ≡ Ok tt) where
  both_done : or_else (early_chunked m kept elims len map) (late_blocks m kept elims) ≡ done
  unfolding check_chunked
  both_done = sym (ap (λ (w : Mapped). w.told) call) ∙ ap told d

  both_passes : Passes (early_chunked m kept elims len map) × Passes (late_blocks m kept elims)
  both_passes = both_pass (early_chunked m kept elims len map) (late_blocks m kept elims) (ap (λ (t : Told). t.number) both_done)

  pub chunked_passes : Chunks m kept elims len
  chunked_passes = chunks_of m kept elims len map both_passes.0 both_passes.1

  map-filled : map' ≡ list_of (place_of (claims (column_count m) kept elims)) (column_count m) ++ drop (column_count m) map
  unfolding check_chunked
  map-filled =
      ap (λ (w : Mapped). w.map) call
      ∙ pass_done (early_chunked m kept elims len map) _ map both_passes.0
      ∙ ap (λ (xs : List ℕ). xs ++ drop (column_count m) map) (ap (λ (u : Told). on_pass u (list_of (place_of (claims (column_count m) kept elims)) (column_count m)) (replicate (column_count m) mark)) both_done ∙ pass_done done _ _ refl)

  abbrev rest : Told → Told
  rest u = or_else (early_chunked m kept elims len map) (or_else (late_blocks m kept elims) u)

  -- what comes after is what is told
  pub rest_is : (u : Told) → rest u ≡ u
  rest_is u =
      pass_done (early_chunked m kept elims len map) (or_else (late_blocks m kept elims) u) (early_chunked m kept elims len map) both_passes.0
      ∙ pass_done (late_blocks m kept elims) u (late_blocks m kept elims) both_passes.1

  -- a call that is refused later leaves the map marked, and one that is not leaves it as it is
  pub late_marked : (r : Refusal) (k : ℕ) (map₂ : List ℕ) → k ≡ column_count m → map₂ ≡ marked k map' → map₂ ≡ chunked_left (refused r) m kept elims len map
  late_marked r k map₂ = mark-left m kept elims len map both_passes.0 map' map-filled r k map₂

  pub late_kept : map' ≡ chunked_left done m kept elims len map
  late_kept = map-filled ∙ sym (left-done m kept elims len map both_passes.0)

-- ---- 11 and 13

pub few_chunks : (nrows len chunks : ℕ) → Chunked nrows len → chunks ≡ chunk_count_of nrows len → chunks ≤ 2_097_152
unfolding chunk_count_of
few_chunks nrows len chunks c e = rw e (le_trans (div-le_self (nrows + (len - 1)) len) (omega (arith, c.few-len, c.few-rows)))

pub small_end : (nrows len : ℕ) → Chunked nrows len → chunk_count_of nrows len * len ≤ 4_294_967_295
unfolding chunk_count_of
small_end nrows len c = le_trans (div-mul-le_self (nrows + (len - 1)) len) (omega (arith, c.few-len, c.few-rows))

module _ (e : Bool) (nrows : ℕ) (m : Columns) (dof len nv : ℕ) (s : Spread) (ny np chunks : ℕ) (w : Answer) (count : chunks ≡ chunk_count_of nrows len)
    (call : told w ≡ wrong_length (nv ∷ dof ∷ length s.starts ∷ (chunks + 1) ∷ length s.lo ∷ length s.lo ∷ length s.hi ∷ length s.lo ∷ length s.local ∷ length s.lo ∷ ny ∷ nrows ∷ np ∷ chunks ∷ [])) where
  wrong_is : told w ≡ wrong_length (lent_lengths nrows dof len nv s ny np)
  wrong_is = call ∙ rw count

  pub lent-refused : (r : Refusal) → w ≡ Err r → refused r ≡ lent_sweep e nrows m dof len nv s ny np
  unfolding lent_sweep
  lent-refused r q = rw (← wrong_is, q) (sym (or_refused r _))

  pub lent-there : Chunked nrows len → w ≡ Ok tt → PlanThere len chunks (length s.starts) (length s.lo) (length s.hi) (length s.local)
  lent-there c q =
      let p : Passes (wrong_length (lent_lengths nrows dof len nv s ny np)) = ap (λ (t : Told). t.number) (sym wrong_is ∙ ap told q) in
      let r = lengths_right (lent_lengths nrows dof len nv s ny np) p in
      rw count (record { starts = r 1 (omega arith); hi = r 3 (omega arith); local = r 4 (omega arith); small = small_end nrows len c })

  pub lent-plan : (t : Answer) → w ≡ Ok tt → told t ≡ spans_told e m dof len chunks s → told t ≡ lent_sweep e nrows m dof len nv s ny np
  unfolding lent_sweep
  lent-plan t q p = p ∙ rw (← wrong_is, q, count) (sym (or_done _))

-- the plan's check looks at the rows alone
pub plan-told-is : (e : Bool) (m : Columns) (side : List ℕ) (len : ℕ) (s : Spread) → spans_told e (rows_only m.rows) (side_dof side) len (chunk_count_of m.nrows len) s ≡ bad_plan e m side len s
unfolding bad_plan plan_bad chunk_bad span_bad entry_out
plan-told-is e m side len s = refl

-- ---- the whole

module _ (e : Bool) (m : Columns) (kept elims : List ℕ) (len : ℕ) (map : List ℕ) (nv : ℕ) (s : Spread) (ny np : ℕ) (t : Answer) (map' : List ℕ)
    (call : record { told = told t; map = map' } ≡ check_chunked m kept elims len map) where
  pub sweep_refused : (r : Refusal) → t ≡ Err r → record { told = refused r; map = map' } ≡ check_sweep e m kept elims len map nv s ny np
  unfolding check_sweep check_chunked
  sweep_refused r q =
      let a : or_else (early_chunked m kept elims len map) (late_blocks m kept elims) ≡ refused r = sym (ap (λ (w : Mapped). w.told) call) ∙ ap told q in
      let b : checks_told e m kept elims len map nv s ny np ≡ refused r = sym (or_assoc (early_chunked m kept elims len map) (late_blocks m kept elims) _) ∙ rw a (or_refused r _) in
      let w : map' ≡ chunked_left (refused r) m kept elims len map = rw a at (ap (λ (w : Mapped). w.map) call) in
      rw (b, w)

  module _ (d : t ≡ Ok tt) where
    -- dof is what the code counted, and l what `check_lent` answered
    module _ (dof : ℕ) (l : Answer) (count : dof ≡ side_dof (side_of e kept elims)) (lent : told l ≡ lent_sweep e m.nrows (rows_only m.rows) dof len nv s ny np) where
      checks_are : checks_told e m kept elims len map nv s ny np ≡ told l
      unfolding lent_sweep
      checks_are =
          rest_is m kept elims len map t map' call d _
          ∙ sym (lent ∙ rw (count, plan-told-is e m (side_of e kept elims) len s))

      pub sweep_later : (r : Refusal) (k : ℕ) (map₂ : List ℕ) → l ≡ Err r → k ≡ column_count m → map₂ ≡ marked k map' → record { told = refused r; map = map₂ } ≡ check_sweep e m kept elims len map nv s ny np
      unfolding check_sweep
      sweep_later r k map₂ q c z = rw (checks_are, q, late_marked m kept elims len map t map' call d r k map₂ c z)

      pub sweep_done : l ≡ Ok tt → record { told = done; map = map' } ≡ check_sweep e m kept elims len map nv s ny np
      unfolding check_sweep
      sweep_done q = rw (checks_are, q) (ap (λ (z : List ℕ). record { told = done; map = z }) (late_kept m kept elims len map t map' call d))

-- ---- what a pass gives

-- every entry's row is one of the rows
pub entry-below : (m : Columns) → Keeps m → (p : ℕ) → p < entry_count m → get_or m.rows p 0 < m.nrows
unfolding first_in end_in
entry-below m k p h =
    let b = rising_find m.ptrs (column_count m) (entry_count m) (record { begins = k.shaped.starts; rises = k.shaped.rises; ends = k.shaped.ends }) p h in
    k.sorted.below b.chunk p (record { column = b.there; low = b.low; high = b.high })

-- a plan that is not bad
module _ (m : Columns) (dof len chunks : ℕ) (s : Spread) (good : plan_bad m dof len chunks s ≡ false) where
  pub plan-rises : Rising s.starts chunks (length s.lo)
  unfolding plan_bad starts_bad
  plan-rises = starts-rise chunks s.starts (length s.lo) (or_false (starts_bad chunks s.starts (length s.lo)) (some (chunk_bad m dof len s) 0 chunks) good).0

  span_good : (k : ℕ) → k < length s.lo → (get_or s.lo k 0 ≤ get_or s.hi k 0) × (get_or s.hi k 0 ≤ entry_count m) × (get_or s.local k 0 < dof)
  unfolding plan_bad chunk_bad span_bad
  span_good k h =
      let b = rising_find s.starts chunks (length s.lo) plan-rises k h in
      let c = past_none (chunk_bad m dof len s) 0 chunks (or_false (starts_bad chunks s.starts (length s.lo)) (some (chunk_bad m dof len s) 0 chunks) good).1 b.chunk (omega arith) b.there in
      let d = past_none (span_bad m dof len s b.chunk) (get_or s.starts b.chunk 0) (get_or s.starts (b.chunk + 1) 0) c k b.low b.high in
      let x = or_false (ltb (get_or s.hi k 0) (get_or s.lo k 0)) _ d in
      let y = or_false (ltb (entry_count m) (get_or s.hi k 0)) _ x.1 in
      let z = or_false (leb dof (get_or s.local k 0)) _ y.1 in
      (ltb-false _ _ x.0, ltb-false _ _ y.0, leb-false _ _ z.0)

  -- a chunk's entries lie in it
  pub good_in_chunk : (c : ℕ) → c < chunks → (k : ℕ) → get_or s.starts c 0 ≤ k → k < get_or s.starts (c + 1) 0 → (p : ℕ) → get_or s.lo k 0 ≤ p → p < get_or s.hi k 0 → in_chunk len c (get_or m.rows p 0) ≡ true
  unfolding plan_bad chunk_bad span_bad entry_out
  good_in_chunk c h k low high p a b =
      let x = past_none (chunk_bad m dof len s) 0 chunks (or_false (starts_bad chunks s.starts (length s.lo)) (some (chunk_bad m dof len s) 0 chunks) good).1 c (omega arith) h in
      let d = past_none (span_bad m dof len s c) (get_or s.starts c 0) (get_or s.starts (c + 1) 0) x k low high in
      let y = or_false (ltb (get_or s.hi k 0) (get_or s.lo k 0)) _ d in
      let z = or_false (ltb (entry_count m) (get_or s.hi k 0)) _ y.1 in
      let w = or_false (leb dof (get_or s.local k 0)) _ z.1 in
      not-false _ (past_none (entry_out m len c) (get_or s.lo k 0) (get_or s.hi k 0) w.1 p a b)

  -- its spans can be swept, with a vector of nv entries over ny rows
  pub good-spans : Keeps m → (nv ny : ℕ) → nv ≡ dof → ny ≡ m.nrows → length s.hi ≡ length s.lo → length s.local ≡ length s.lo
      → SpansFit m.rows (length m.values) nv ny s.lo s.hi s.local
  good-spans k nv ny e q hi local = record {
    each = λ i h.
        let g = span_good i h in
        record {
          lo-there = h;
          hi-there = rw hi h;
          local-there = rw local h;
          below = rw e g.2;
          entries = record {
            each = λ p a b.
                let w : p < entry_count m = omega (arith, g.1) in
                record { there = w; paired = k.shaped.paired; below = rw q (entry-below m k p w) };
          };
        };
  }

module _ (e : Bool) (m : Columns) (kept elims : List ℕ) (len : ℕ) (map : List ℕ) (nv : ℕ) (s : Spread) (ny np : ℕ) (passes : Passes (checks_told e m kept elims len map nv s ny np)) where
  abbrev pairs : List ℕ
  pairs = lent_lengths m.nrows (side_dof (side_of e kept elims)) len nv s ny np

  pub all_pass : Passes (early_chunked m kept elims len map) × Passes (late_blocks m kept elims) × Passes (wrong_length pairs) × Passes (bad_plan e m (side_of e kept elims) len s)
  all_pass =
      let a = both_pass (early_chunked m kept elims len map) _ passes in
      let b = both_pass (late_blocks m kept elims) _ a.1 in
      let c = both_pass (wrong_length pairs) _ b.1 in
      (a.0, b.0, c.0, c.1)

  pub checked_chunks : Chunks m kept elims len
  checked_chunks = chunks_of m kept elims len map all_pass.0 all_pass.1

  pub checked-room : column_count m ≤ length map
  checked-room =
      let a = parts_passes m kept elims (or_else (chunk_told len) (no_room_of (length map ∷ column_count m ∷ []))) all_pass.0 in
      let b = both_pass (chunk_told len) (no_room_of (length map ∷ column_count m ∷ [])) a.3 in
      room-right (length map ∷ column_count m ∷ []) b.1 0 (omega arith)

  lengths : (k : ℕ) → k < 7 → get_or pairs (k + k) 0 ≡ get_or pairs (k + k + 1) 0
  lengths k h = lengths_right pairs all_pass.2 k h

  plan-good : plan_bad m (side_dof (side_of e kept elims)) len (chunk_count_of m.nrows len) s ≡ false
  unfolding bad_plan
  plan-good = (passed _ 12 _ done all_pass.3).0

  pub checked-progress : np ≡ chunk_count_of m.nrows len
  checked-progress = lengths 6 (omega arith)

  pub checked-rows : ny ≡ m.nrows
  checked-rows = lengths 5 (omega arith)

  pub checked_in_chunk : (c : ℕ) → c < chunk_count_of m.nrows len → (k : ℕ) → get_or s.starts c 0 ≤ k → k < get_or s.starts (c + 1) 0
      → (p : ℕ) → get_or s.lo k 0 ≤ p → p < get_or s.hi k 0 → in_chunk len c (get_or m.rows p 0) ≡ true
  checked_in_chunk = good_in_chunk m (side_dof (side_of e kept elims)) len (chunk_count_of m.nrows len) s plan-good

  pub checked-plan : PlanFits m.rows (length m.values) nv ny s np
  checked-plan = record {
    starts = record { started = rw checked-progress (lengths 1 (omega arith)) };
    spans =
        good-spans m (side_dof (side_of e kept elims)) len (chunk_count_of m.nrows len) s plan-good checked_chunks.keeps nv ny (lengths 0 (omega arith)) checked-rows (lengths 3 (omega arith)) (lengths 4 (omega arith));
    inside = λ c h.
        rising_within s.starts (chunk_count_of m.nrows len) (length s.lo) (plan-rises m (side_dof (side_of e kept elims)) len (chunk_count_of m.nrows len) s plan-good) (c + 1)
        (let q = checked-progress in omega arith);
  }

pub ruleset sweeping = (
  rules,
  side-kept,
  side-elims,
  few-kept,
  few-elims,
)
