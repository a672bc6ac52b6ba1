-- To be believed. Plans as they are lent, work orders, steps and sweeps: refusals 5, 13 and 14. Assumes nothing.
use Rattle.std.specs.Prelude.{ℕ, zero, suc, ◌+◌, ◌-◌, Bool, cond, not, ◌&&◌, ◌||◌, List, [], ◌∷◌, length, get_or, replicate}
use Rattle.std.specs.Prelude.{◌==◌, nat_le, nat_lt, slice_index, slice_index_or, slice_set, Float}
use Rattle.std.specs.Float.{nan}
use Rattle.ground.specs.First.{first, some}
use Rattle.ground.specs.Gather.{gather, list_of}
use Rattle.columns.specs.declared.unchecked.Sign.{Sign}
use Rattle.columns.specs.declared.unchecked.Sign.TheVariants.{Plus, Minus}
use Rattle.columns.specs.Refusals.{Told, tell, done, on_pass, or_else}
use Rattle.columns.specs.Lengths.{no_room_of, wrong_length}
use Rattle.columns.specs.Columns.{Columns, column_count, entry_count, falls}
use Rattle.columns.specs.Sums.{zero₊, RowTerm, swept_on}
use Rattle.columns.specs.JacobianOps.{landings}
use Rattle.blocks.specs.Sides.{side_dof, side_of}
use Rattle.blocks.specs.Claims.{claims, parts_told, late_blocks, map_after}
use Rattle.plan.specs.Spans.{chunk_told, chunk_count_of, in_chunk, Spread}
use Rattle.products.specs.Side.{side_number}

-- ---- 13: a side's plan as lent

-- span k, of chunk c: lo above hi, hi past the entries, a local number not below the side's dof, or an entry whose row is outside its chunk
unfoldable pub entry_out : Columns → ℕ → ℕ → ℕ → Bool
entry_out m len c p = not (in_chunk len c (slice_index m.rows p))

unfoldable pub span_bad : Columns → ℕ → ℕ → Spread → ℕ → ℕ → Bool
span_bad m dof len s c k =
    nat_lt (slice_index s.hi k) (slice_index s.lo k)
    || (nat_lt (entry_count m) (slice_index s.hi k)
    || (nat_le dof (slice_index s.local k) || some (entry_out m len c) (slice_index s.lo k) (slice_index s.hi k)))

unfoldable pub chunk_bad : Columns → ℕ → ℕ → Spread → ℕ → Bool
chunk_bad m dof len s c = some (span_bad m dof len s c) (slice_index s.starts c) (slice_index s.starts (c + 1))

-- the starts do not rise from 0 to the span count n without falling
unfoldable pub starts_bad : ℕ → List ℕ → ℕ → Bool
starts_bad chunks starts n = not (slice_index starts 0 == 0) || (some (falls starts) 0 chunks || not (slice_index starts chunks == n))

unfoldable pub plan_bad : Columns → ℕ → ℕ → ℕ → Spread → Bool
plan_bad m dof len chunks s = starts_bad chunks s.starts (length s.lo) || some (chunk_bad m dof len s) 0 chunks

-- with the side: 0 kept, 1 eliminated; where the side's dof and the count of chunks are known
abbrev pub spans_told : Bool → Columns → ℕ → ℕ → ℕ → Spread → Told
spans_told e m dof len chunks s = cond (plan_bad m dof len chunks s) (tell 13 (side_number e ∷ [])) done

unfoldable pub bad_plan : Bool → Columns → List ℕ → ℕ → Spread → Told
bad_plan e m side len s = spans_told e m (side_dof side) len (chunk_count_of m.nrows len) s

-- ---- terms

-- how many spans chunk c has
unfoldable pub span_count : Spread → ℕ → ℕ
span_count s c = slice_index s.starts (c + 1) - slice_index s.starts c

-- span k's terms, with the vector's entry at its local number
unfoldable pub span_terms : Columns → Spread → List Float → ℕ → List RowTerm
span_terms m s v k = landings m.rows m.values (slice_index_or v (slice_index s.local k) nan) (slice_index s.lo k) (slice_index s.hi k)

-- all spans, in their order
abbrev pub plan_terms : Columns → Spread → List Float → List RowTerm
plan_terms m s v = gather (span_terms m s v) 0 (length s.lo)

-- ---- 14: a work order

-- how often chunk c is named before place i
unfoldable pub served : List ℕ → ℕ → ℕ → ℕ
served order c zero = 0
served order c (suc i) = served order c i + cond (slice_index order i == c) 1 0

-- chunk c exists and has a span left once d of them are done
unfoldable pub has_next : ℕ → Spread → ℕ → ℕ → Bool
has_next chunks s c d = nat_lt c chunks && nat_lt d (span_count s c)

-- place i names a chunk that does not exist or has no span left
unfoldable pub place_bad : ℕ → Spread → List ℕ → ℕ → Bool
place_bad chunks s order i = not (has_next chunks s (slice_index order i) (served order (slice_index order i) i))

-- chunk c has a span left at the end
unfoldable pub chunk_left : Spread → List ℕ → ℕ → Bool
chunk_left s order c = nat_lt (served order c (length order)) (span_count s c)

-- the first such place, else the order's length if a span is left
unfoldable pub bad_order : ℕ → Spread → List ℕ → Told
bad_order chunks s order =
    cond (some (place_bad chunks s order) 0 (length order)) (tell 14 (first (place_bad chunks s order) 0 (length order) ∷ []))
    (cond (some (chunk_left s order) 0 chunks) (tell 14 (length order ∷ [])) done)

-- the terms along an order: place i does its chunk's next span
unfoldable pub order_terms : Columns → Spread → List Float → List ℕ → List RowTerm
order_terms m s v order =
    gather (λ i. span_terms m s v (slice_index s.starts (slice_index order i) + served order (slice_index order i) i)) 0 (length order)

-- ---- calls

-- the kept side adds, the eliminated one subtracts
abbrev pub sign_of : Bool → Sign
sign_of e = cond e Minus Plus

-- 1 to 6, with a chunk length and a map
abbrev pub early_chunked : Columns → List ℕ → List ℕ → ℕ → List ℕ → Told
early_chunked m kept elims len map = parts_told m kept elims (or_else (chunk_told len) (no_room_of (length map ∷ column_count m ∷ [])))

-- the lengths of a plan's lists, for so many chunks: starts, lo, hi and local; and then of what else is lent
abbrev pub plan_lengths : ℕ → Spread → List ℕ → List ℕ
plan_lengths chunks s rest =
    length s.starts ∷ (chunks + 1)
    ∷ length s.lo ∷ length s.lo
    ∷ length s.hi ∷ length s.lo
    ∷ length s.local ∷ length s.lo ∷ rest

-- those of a sweep or a step over n rows: v, the plan's lists, rows, progress, where nv, ny and np are how long v, rows and progress are
abbrev pub lent_lengths : ℕ → ℕ → ℕ → ℕ → Spread → ℕ → ℕ → List ℕ
lent_lengths n dof len nv s ny np = nv ∷ dof ∷ plan_lengths (chunk_count_of n len) s (ny ∷ n ∷ np ∷ chunk_count_of n len ∷ [])

abbrev pub sweep_lengths : Columns → List ℕ → ℕ → List Float → Spread → List Float → List ℕ → List ℕ
sweep_lengths m side len v s rows progress = lent_lengths m.nrows (side_dof side) len (length v) s (length rows) (length progress)

-- 1 to 9, 11 and 13, and then what comes after
abbrev pub sweep_told : Bool → Columns → List ℕ → List ℕ → ℕ → List ℕ → List Float → Spread → List Float → List ℕ → Told → Told
sweep_told e m kept elims len map v s rows progress rest =
    or_else (early_chunked m kept elims len map)
    (or_else (late_blocks m kept elims)
    (or_else (wrong_length (sweep_lengths m (side_of e kept elims) len v s rows progress))
    (or_else (bad_plan e m (side_of e kept elims) len s) rest)))

-- what a step or a sweep tells, and what it leaves in the map, the rows and the progress
pub record Swept : Type 0 where
  pub told : Told
  pub map : List ℕ
  pub rows : List Float
  pub progress : List ℕ

-- a step does the named chunk's span at its progress, and adds 1 to that; 14 at place 0 where there is none, which changes neither
unfoldable pub step_order : ℕ → Spread → ℕ → List ℕ → Told
step_order chunks s c progress = cond (has_next chunks s c (slice_index progress c)) done (tell 14 (0 ∷ []))

abbrev pub step_told : Bool → Columns → List ℕ → List ℕ → ℕ → List ℕ → List Float → Spread → List Float → List ℕ → ℕ → Told
step_told e m kept elims len map v s rows progress c =
    sweep_told e m kept elims len map v s rows progress (step_order (chunk_count_of m.nrows len) s c progress)

unfoldable pub step_of : Bool → Columns → List ℕ → List ℕ → ℕ → List ℕ → List Float → Spread → List Float → List ℕ → ℕ → Swept
step_of e m kept elims len map v s rows progress c =
    let t = step_told e m kept elims len map v s rows progress c in
    let next = slice_index s.starts c + get_or progress c 0 in
    record {
      told = t;
      map = map_after (early_chunked m kept elims len map) t (column_count m) (claims (column_count m) kept elims) map;
      rows = on_pass t (swept_on (sign_of e) rows (span_terms m s v next)) rows;
      progress = on_pass t (slice_set progress c (slice_index progress c + 1)) progress;
    }

-- the kept sweep starts the rows at +0.0, the eliminated one from the lent rows
abbrev pub start_rows : Bool → List Float → List Float
start_rows e rows = cond e rows (replicate (length rows) zero₊)

abbrev pub sweep_told₁₄ : Bool → Columns → List ℕ → List ℕ → ℕ → List ℕ
    → List Float → Spread → List Float → List ℕ → List ℕ → Told
sweep_told₁₄ e m kept elims len map v s rows progress order =
    sweep_told e m kept elims len map v s rows progress (bad_order (chunk_count_of m.nrows len) s order)

-- after 14 the progress holds zeros; on success each chunk's span count
unfoldable pub sweep_of : Bool → Columns → List ℕ → List ℕ → ℕ → List ℕ
    → List Float → Spread → List Float → List ℕ → List ℕ → Swept
sweep_of e m kept elims len map v s rows progress order =
    let t = sweep_told₁₄ e m kept elims len map v s rows progress order in
    let chunks = chunk_count_of m.nrows len in
    record {
      told = t;
      map = map_after (early_chunked m kept elims len map) t (column_count m) (claims (column_count m) kept elims) map;
      rows = on_pass t (swept_on (sign_of e) (start_rows e rows) (order_terms m s v order)) rows;
      progress =
          on_pass (sweep_told e m kept elims len map v s rows progress done)
          (on_pass (bad_order chunks s order) (list_of (span_count s) chunks) (replicate chunks 0))
          progress;
    }
