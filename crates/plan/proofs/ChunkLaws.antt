-- Chunks: every row is in one, and each has a row; no row gives no chunk, and a chunk as long as the rows is the only one. Assumes nothing.
use mathlib.Core.Path.{◌≡◌, ap, ◌∙◌}
use mathlib.Core.Bool.{◌&&◌}
use Prim.Native.Nat.{ℕ, ◌+◌, ◌-◌, ◌*◌, ◌/◌, ◌≤◌, ◌<◌}
use native.Mathlib.Nat.{div-eq_of_lt, div-eq-sub-div, le-div_iff_mul-le, div-lt_iff_lt-mul, div-mul-le_self, lt-div-mul-add}
use native.Mathlib.Omega.{arith}
use native.Mathlib.Decide.{ℕ_discrete, dec_lt}
use lib.Dec.{eqb, leb, ltb}
use borrow.Author.Tests.{eq-eqb, ne_eqb, le-leb, lt-leb, lt-ltb, le-ltb}
use Rattle.columns.specs.Refusals.{Passes}
use Rattle.plan.specs.Spans.{chunk_told, chunk_count_of, in_chunk}
use Rattle.plan.specs.SpanWalk.{Chunked}

-- a chunk length that is not refused, and rows within the limits
pub chunk_passes : (nrows len : ℕ) → Passes (chunk_told len) → nrows ≤ 1_048_576 → Chunked nrows len
unfolding chunk_told
chunk_passes nrows len p r = go (ℕ_discrete len 0) (dec_lt 1_048_576 len)
  where
    go : Dec (len ≡ 0) → Dec (1_048_576 < len) → Chunked nrows len
    go (yes e) _ = absurd (let z : ◌≡◌ {A = ℕ} 5 0 = rw (eq-eqb len 0 e) at p in omega arith)
    go (no e) (yes l) = absurd (let z : ◌≡◌ {A = ℕ} 5 0 = rw (ne_eqb len 0 e, lt-ltb 1_048_576 len l) at p in omega arith)
    go (no e) (no l) = record { some-len = omega arith; few-len = omega arith; few-rows = r }

module _ (len : ℕ) (h : 0 < len) where
  -- rows that do not fall have chunks that do not fall
  pub chunk_rises : (x y : ℕ) → x ≤ y → x / len ≤ y / len
  chunk_rises x y l = (le-div_iff_mul-le h).1 (omega (arith, div-mul-le_self x len))

  -- a row below a chunk's end is in no later chunk, and one that reaches it is in a later one
  pub chunk_below : (c x : ℕ) → x < (c + 1) * len → x / len ≤ c
  chunk_below c x l = omega (arith, (div-lt_iff_lt-mul h).1 l)

  pub chunk_past : (c x : ℕ) → (c + 1) * len ≤ x → c < x / len
  chunk_past c x l = omega (arith, (le-div_iff_mul-le h).1 l)

  -- row r is in chunk c exactly if c is r / L
  pub in_chunk_lem : (c r : ℕ) → in_chunk len c r ≡ eqb (r / len) c
  unfolding in_chunk
  in_chunk_lem c r = go (dec_lt (r / len) c) (dec_lt c (r / len))
    where
      go : Dec (r / len < c) → Dec (c < r / len) → (leb (c * len) r && ltb r ((c + 1) * len)) ≡ eqb (r / len) c
      go (yes p) _ = rw (lt-leb (c * len) r ((div-lt_iff_lt-mul h).0 p), ne_eqb (r / len) c (λ q. omega arith))
      go (no p) (yes q) =
          let u : (c + 1) * len ≤ r = (le-div_iff_mul-le h).0 (omega arith) in
          let w : c * len ≤ r = (le-div_iff_mul-le h).0 (omega arith) in
          rw (le-leb (c * len) r w, le-ltb r ((c + 1) * len) u, ne_eqb (r / len) c (λ e. omega arith))
      go (no p) (no q) =
          let u : r < (c + 1) * len = (div-lt_iff_lt-mul h).0 (omega arith) in
          let w : c * len ≤ r = (le-div_iff_mul-le h).0 (omega arith) in
          rw (le-leb (c * len) r w, lt-ltb r ((c + 1) * len) u, eq-eqb (r / len) c (omega arith))

  -- the chunk of each row is one of the chunks, and each chunk has a row
  pub chunk_there : (nrows r : ℕ) → r < nrows → r / len < chunk_count_of nrows len
  unfolding chunk_count_of
  chunk_there nrows r l = (div-lt_iff_lt-mul h).1 (omega (arith, lt-div-mul-add {a = nrows + (len - 1)} h))

  pub chunk_some : (nrows c : ℕ) → c < chunk_count_of nrows len → c * len < nrows
  unfolding chunk_count_of
  chunk_some nrows c l =
      let u : (c + 1) * len ≤ nrows + (len - 1) = (le-div_iff_mul-le h).0 (omega arith) in
      let w : (c + 1) * len ≡ c * len + len = omega arith in
      omega arith

  pub no_rows : chunk_count_of 0 len ≡ 0
  unfolding chunk_count_of
  no_rows = div-eq_of_lt (omega arith)

  pub one_chunk : (nrows : ℕ) → 0 < nrows → nrows ≤ len → chunk_count_of nrows len ≡ 1
  unfolding chunk_count_of
  one_chunk nrows s l =
      let z : (nrows + (len - 1) - len) / len ≡ 0 = div-eq_of_lt (omega arith) in
      div-eq-sub-div h (omega arith) ∙ ap (λ (i : ℕ). i + 1) z
