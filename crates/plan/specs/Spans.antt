-- To be believed. Chunks of rows and a side's spans. Assumes nothing.
use Rattle.std.specs.Prelude.{◌≡◌, Bool, true, ◌&&◌, ◌||◌, cond, List, [], ◌∷◌, ◌++◌, map, ℕ, zero, suc, ◌+◌, ◌-◌}
use Rattle.std.specs.Prelude.{◌*◌, ◌/◌, ◌≤◌, ◌<◌, eqb, leb, ltb, length, get_or, drop}
use Rattle.ground.specs.First.{first, some}
use Rattle.ground.specs.Gather.{gather}
use Rattle.columns.specs.Refusals.{Told, tell, done}
use Rattle.columns.specs.Columns.{Columns, first_place, end_place}
use Rattle.blocks.specs.Sides.{cols, side_dof}
use Rattle.plan.specs.Lists.{flat, starts_of}

-- 5: the chunk length is 0 or too large
unfoldable pub chunk_told : ℕ → Told
chunk_told len = cond (eqb len 0 || ltb 1_048_576 len) (tell 5 []) done

-- chunk c is rows c·L up to but not including (c+1)·L; there are ceil(rows / L)
unfoldable pub chunk_count_of : ℕ → ℕ → ℕ
chunk_count_of nrows len = (nrows + (len - 1)) / len

unfoldable pub in_chunk : ℕ → ℕ → ℕ → Bool
in_chunk len c r = leb (c * len) r && ltb r ((c + 1) * len)

-- the entry at place p lies in chunk c
unfoldable pub place_in : Columns → ℕ → ℕ → ℕ → Bool
place_in m len c p = in_chunk len c (get_or m.rows p 0)

-- one past the last place of lo up to lo + n where a test holds, or lo where it holds nowhere
unfoldable pub past_last : (ℕ → Bool) → ℕ → ℕ → ℕ
past_last f lo zero = lo
past_last f lo (suc n) = cond (f (lo + n)) (lo + n + 1) (past_last f lo n)

pub record Span : Type 0 where
  pub lo : ℕ
  pub hi : ℕ
  pub local : ℕ

-- column j, with local number l, has one span in a chunk where it has an entry: from its first entry there to one past its last
unfoldable pub column_span : Columns → ℕ → ℕ → ℕ → ℕ → List Span
column_span m len c l j =
    cond (some (place_in m len c) (first_place m j) (end_place m j))
    (record {
      lo = first (place_in m len c) (first_place m j) (end_place m j);
      hi = past_last (place_in m len c) (first_place m j) (end_place m j - first_place m j);
      local = l;
    } ∷ [])
    []

-- a chunk's spans by local number, where the first n of cs are the columns in local order
unfoldable pub local_spans : Columns → List ℕ → ℕ → ℕ → ℕ → List Span
local_spans m cs n len c = gather (λ l. column_span m len c l (get_or cs l 0)) 0 n

abbrev pub chunk_spans : Columns → List ℕ → ℕ → ℕ → List Span
chunk_spans m side len c = local_spans m (cols side) (side_dof side) len c

-- a side's spans, by chunk
abbrev pub side_spans : Columns → List ℕ → ℕ → List Span
side_spans m side len = flat (chunk_spans m side len) (chunk_count_of m.nrows len)

-- ---- what is left in the four lists of a side that are lent

pub record Spread : Type 0 where
  pub starts : List ℕ
  pub lo : List ℕ
  pub hi : List ℕ
  pub local : List ℕ

abbrev pub spread_of : List ℕ → List ℕ → List ℕ → List ℕ → Spread
spread_of starts lo hi local = record { starts = starts; lo = lo; hi = hi; local = local }

-- a number of each of some spans, and past them what the list held
abbrev pub laid : (Span → ℕ) → List Span → List ℕ → List ℕ
laid v ss l = map v ss ++ drop (length ss) l

-- the spans of n chunks, where each chunk's start, and past them what the lists held
unfoldable pub spread : (ℕ → List Span) → ℕ → Spread → Spread
spread f n s = record {
  starts = starts_of f n ++ drop (n + 1) s.starts;
  lo = laid (λ x. x.lo) (flat f n) s.lo;
  hi = laid (λ x. x.hi) (flat f n) s.hi;
  local = laid (λ x. x.local) (flat f n) s.local;
}

-- how many spans there are, and what is left
pub record Spanned : Type 0 where
  pub count : ℕ
  pub left : Spread

unfoldable pub spanned : Columns → List ℕ → ℕ → ℕ → Spread → Spanned
spanned m cs n len s = record {
  count = length (flat (local_spans m cs n len) (chunk_count_of m.nrows len));
  left = spread (local_spans m cs n len) (chunk_count_of m.nrows len) s;
}

-- ---- what it comes to, for the first n of the columns cs

-- place p is an entry of the column with local number l
pub record EntryIn (m : Columns) (cs : List ℕ) (n l p : ℕ) : Type 0 where
  pub column : l < n
  pub low : first_place m (get_or cs l 0) ≤ p
  pub high : p < end_place m (get_or cs l 0)

-- a span of chunk c: it has an entry, and its entries are those of its column that lie in the chunk
pub record SpanIs (m : Columns) (cs : List ℕ) (n len c : ℕ) (s : Span) : Type 0 where
  pub some : s.lo < s.hi
  pub inside : (p : ℕ) → s.lo ≤ p → p < s.hi → EntryIn m cs n s.local p × (place_in m len c p ≡ true)
  pub whole : (p : ℕ) → EntryIn m cs n s.local p → place_in m len c p ≡ true → (s.lo ≤ p) × (p < s.hi)

-- all chunks' spans, and the k-th of some spans
abbrev pub all_spans : Columns → List ℕ → ℕ → ℕ → List Span
all_spans m cs n len = flat (local_spans m cs n len) (chunk_count_of m.nrows len)

abbrev pub span_in : List Span → ℕ → Span
span_in ss k = get_or ss k (record { lo = 0; hi = 0; local = 0 })

-- the k-th of them has place p
pub record HasPlace (ss : List Span) (k p : ℕ) : Type 0 where
  pub there : k < length ss
  pub low : (span_in ss k).lo ≤ p
  pub high : p < (span_in ss k).hi

-- chunk c and local number l have one span that has place p, it stands among the chunk's, and no other span has p
pub record InOne (m : Columns) (cs : List ℕ) (n len c l p : ℕ) : Type 0 where
  pub place : ℕ
  pub has : HasPlace (all_spans m cs n len) place p
  pub local-is : (span_in (all_spans m cs n len) place).local ≡ l
  pub low : length (flat (local_spans m cs n len) c) ≤ place
  pub high : place < length (flat (local_spans m cs n len) (c + 1))
  pub once : (k : ℕ) → HasPlace (all_spans m cs n len) k p → k ≡ place
