-- What a call of `plan` comes to, by how far it gets, and what gives the functions that it calls their `requires`: the checks that have passed.
-- Assumes nothing.
use mathlib.Core.Path.{◌≡◌, refl, sym, ap, ◌∙◌}
use mathlib.Core.Bool.{Bool, true, false}
use mathlib.Core.List.{List, [], ◌∷◌, ◌++◌}
use Prim.Native.Nat.{ℕ, ◌+◌, ◌-◌, ◌/◌, ◌≤◌, ◌<◌}
use native.Mathlib.Nat.{le_trans, div-le_self}
use native.Mathlib.Omega.{arith}
use lib.ListN.{length, get_or, drop, replicate, length-append, get_or-append}
use lib.Seq.{drop_at}
use borrow.Author.Tests.{eqb-false}
use Rattle.ground.specs.Gather.{list_of}
use Rattle.ground.proofs.GatherLaws.{length-list_of}
use Rattle.columns.specs.declared.refusal.Refusal.{Refusal}
use Rattle.columns.specs.Refusals.{number, Told, tell, done, refused, Passes, on_pass}
use Rattle.columns.specs.Lengths.{length_of, need_of, no_room_of}
use Rattle.columns.specs.Columns.{Columns, column_count, entry_count, Keeps}
use Rattle.columns.proofs.RefusalLaws.{number-some, pass_refused, pass_done}
use Rattle.columns.proofs.CheckLaws.{passes_keeps}
use Rattle.columns.proofs.CallLaws.{room-right}
use Rattle.blocks.specs.Sides.{block_count, cols, side_dof, side_of}
use Rattle.blocks.specs.Claims.{late_blocks, mark, marked, claims, place_of, parts_told, Parted, Mapped}
use Rattle.blocks.specs.Walk.{Roomy, walk_blocks}
use Rattle.blocks.proofs.CallRules.{parts_passes}
use Rattle.blocks.proofs.PartLaws.{sides_few, walk_parted, parted-dofs}
use Rattle.blocks.proofs.SideLaws.{cols-length}
use Rattle.blocks.proofs.WalkRules.{marked_all}
use Rattle.plan.specs.Owners.{Owned, owner_of, owner_list, pattern_of, owners_of}
use Rattle.plan.specs.OwnerWalk.{OwnersIn}
use Rattle.plan.specs.Lists.{Listed, rows_of, rows_with, visible_of, listed}
use Rattle.plan.specs.RowLists.{ListsFit}
use Rattle.plan.specs.VisibleWalk.{visible_with, VisibleFits}
use Rattle.plan.specs.Spans.{chunk_told, chunk_count_of, chunk_spans, side_spans, Spread, spread, Spanned, spanned}
use Rattle.plan.specs.SpanWalk.{Chunked, SpansFit}
use Rattle.plan.specs.Plan.{Buffers, column_blocks, room_of, room, plan_early, plan_connected, plan_told, plan_of, marks, lent, plan_left, planned}
use Rattle.plan.specs.RoomCheck.{RoomFits}
use Rattle.plan.specs.ColumnLists.{ColumnsFit, Counted, columns_listed, blocks_listed}
use Rattle.plan.proofs.ChunkLaws.{chunk_passes}
use Rattle.plan.proofs.OwnerCalls.{parted-side, owners_in, owners-values, left_pass, left-refused}
use Rattle.plan.proofs.RowCalls.{lists-fit, lists_of_lem}
use Rattle.plan.proofs.EntryLaws.{side-entries}
use Rattle.plan.proofs.VisibleCalls.{visible-fits, visible-lists_of}
use Rattle.plan.proofs.SpanCalls.{pattern_spans, spanned_same, side-fit}

-- ---- what passed checks give

-- 1 to 9 have passed
pub record Ready (m : Columns) (kept elims : List ℕ) (len : ℕ) (b : Buffers) : Type 0 where
  pub keeps : Keeps m
  pub parted : Parted (column_count m) kept elims
  pub chunked : Chunked m.nrows len
  pub roomy : Passes (no_room_of (room m kept elims len b))

-- what the checks told: 1 to 6 passed
pub record Early (m : Columns) (kept elims : List ℕ) (len : ℕ) (b : Buffers) : Type 0 where
  pub parts : done ≡ parts_told m kept elims (chunk_told len)
  pub fits : done ≡ no_room_of (room m kept elims len b)

-- and what the walk told, which passed too: map' is what it left
pub record Walked (m : Columns) (kept elims : List ℕ) (len : ℕ) (b : Buffers) (map' : List ℕ) : Type 0 where
  pub early : Early m kept elims len b
  pub walk : record { told = done; map = map' } ≡ walk_blocks (column_count m) (claims (column_count m) kept elims) b.map

-- the chunks are few
pub chunks_few : (nrows len : ℕ) → Chunked nrows len → chunk_count_of nrows len ≤ 2_097_152
unfolding chunk_count_of
chunks_few nrows len c = le_trans (div-le_self (nrows + (len - 1)) len) (omega (arith, c.few-len, c.few-rows))

module _ (m : Columns) (kept elims : List ℕ) (len : ℕ) (parts : done ≡ parts_told m kept elims (chunk_told len)) where
  abbrev passes : Passes (parts_told m kept elims (chunk_told len))
  passes = ap (λ (t : Told). t.number) (sym parts)

  pub early_keeps : Keeps m
  early_keeps = passes_keeps m (parts_passes m kept elims (chunk_told len) passes).0

  pub early_chunked_lem : Chunked m.nrows len
  early_chunked_lem = chunk_passes m.nrows len (parts_passes m kept elims (chunk_told len) passes).3 early_keeps.small.few-rows

  -- a side's blocks are few
  pub early_blocks : (e : Bool) → block_count (side_of e kept elims) ≤ 65_536
  early_blocks e = (sides_few kept elims (parts_passes m kept elims (chunk_told len) passes).1 e).0

  pub early_room : RoomFits m.nrows len (block_count kept) (block_count elims)
  early_room = record { chunked = early_chunked_lem; few-kept = early_blocks false; few-elims = early_blocks true }

-- once the buffers have room too
module _ {m : Columns} {kept elims : List ℕ} {len : ℕ} {b : Buffers} (e : Early m kept elims len b) where
  abbrev roomy : Passes (no_room_of (room m kept elims len b))
  roomy = ap (λ (t : Told). t.number) (sym e.fits)

  pub map-room : Roomy (column_count m) (length b.map)
  unfolding room
  map-room = record { few = (early_keeps m kept elims len e.parts).small.few-columns; fits = room-right (room m kept elims len b) roomy 0 (omega arith) }

pub plan_ready : {m : Columns} {kept elims map' : List ℕ} {len : ℕ} {b : Buffers} → Walked m kept elims len b map' → Ready m kept elims len b
unfolding walk_blocks
plan_ready {m} {kept} {elims} {map'} {len} {b} w =
    let parts = w.early.parts in
    let p = parts_passes m kept elims (chunk_told len) (passes m kept elims len parts) in
    record {
      keeps = early_keeps m kept elims len parts;
      parted = walk_parted m kept elims p.1 p.2 (ap (λ (w : Mapped). w.told.number) (sym w.walk));
      chunked = early_chunked_lem m kept elims len parts;
      roomy = roomy w.early;
    }

-- the room list as the code has it
pub room-is : (m : Columns) (kept elims : List ℕ) (len : ℕ) (b : Buffers) (t : Told)
    → t ≡ no_room_of (room_of (column_count m) m.nrows (entry_count m) (block_count kept) (block_count elims) (chunk_count_of m.nrows len) b) → t ≡ no_room_of (room m kept elims len b)
unfolding room
room-is m kept elims len b t e = e

-- ---- what the functions ask

module _ {m : Columns} {kept elims : List ℕ} {len : ℕ} {b : Buffers} (r : Ready m kept elims len b) where
  abbrev buffer_room : (k : ℕ) → k < length (room m kept elims len b) / 2 → need_of (room m kept elims len b) k ≤ length_of (room m kept elims len b) k
  buffer_room k h = room-right (room m kept elims len b) r.roomy k h

  dofs : (e : Bool) → side_dof (side_of e kept elims) ≤ column_count m
  dofs true = let q = parted-dofs (column_count m) kept elims r.parted r.keeps.small.few-columns in omega arith
  dofs false = let q = parted-dofs (column_count m) kept elims r.parted r.keeps.small.few-columns in omega arith

  columns-fit : (e : Bool) (k : ℕ) → column_count m ≤ k → ColumnsFit (side_of e kept elims) k
  columns-fit e k h = record {
    few = (r.parted.right e).few;
    below = λ b i c q. le_trans ((r.parted.right e).inside b i c q) r.keeps.small.few-columns;
    dofs = le_trans (dofs e) r.keeps.small.few-columns;
    room = le_trans (dofs e) h;
  }

  pub kept-columns : ColumnsFit kept (length b.kept_cols)
  unfolding room
  kept-columns = columns-fit false (length b.kept_cols) (buffer_room 1 (omega arith))

  pub elims-columns : ColumnsFit elims (length b.elims_cols)
  unfolding room
  elims-columns = columns-fit true (length b.elims_cols) (buffer_room 2 (omega arith))

  pub elims-blocks : ColumnsFit elims (length b.elims_blocks)
  unfolding room
  elims-blocks = columns-fit true (length b.elims_blocks) (buffer_room 3 (omega arith))

  pub plan-owners : OwnersIn (pattern_of m.nrows m.ptrs m.rows) elims (length b.owners)
  unfolding room
  plan-owners = owners_in m.nrows m.ptrs m.rows m.values kept elims (length b.owners) r.keeps r.parted (buffer_room 4 (omega arith))

  pub plan-lists : (rest : List ℕ) → ListsFit (owner_list m elims ++ rest) m.nrows (block_count elims) (length b.row_lists.list) (length b.row_lists.starts)
  unfolding room
  plan-lists rest =
      lists-fit m elims rest (length b.row_lists.list) (length b.row_lists.starts) r.keeps.small.few-rows (r.parted.right true).few (buffer_room 5 (omega arith))
      (let q = buffer_room 6 (omega arith) in omega arith)

  pub plan-visible : (rest : List ℕ) → VisibleFits m.ptrs m.rows kept (owner_list m elims ++ rest) (length b.visible.list) (length b.visible.starts)
  unfolding room
  plan-visible rest =
      visible-fits m.nrows m.ptrs m.rows m.values kept elims (owner_list m elims ++ rest) (length b.visible.list) (length b.visible.starts) r.keeps r.parted
      (let a = length-append (owner_list m elims) rest in let c = length-list_of (owner_of m elims) 0 m.nrows in omega arith) (side-entries m kept elims r.keeps r.parted false) (buffer_room 7 (omega arith))
      (let q = buffer_room 8 (omega arith) in omega arith)

  pub visible-left : (owners' : List ℕ) (l : Listed) → owners' ≡ owner_list m elims ++ drop m.nrows b.owners
      → l ≡ listed (visible_with m.ptrs m.rows owners' kept) (block_count kept) b.visible.list b.visible.starts → l ≡ listed (visible_of m kept elims) (block_count kept) b.visible.list b.visible.starts
  visible-left owners' l e q =
      q ∙ rw e (visible-lists_of m kept elims (drop m.nrows b.owners) (r.parted.right true).few (parted-side m.nrows m.ptrs m.rows m.values kept elims false r.keeps r.parted) b.visible.list b.visible.starts)

  module _ (e : Bool) (rest : List ℕ) where
    abbrev side : List ℕ
    side = side_of e kept elims

    col_is : (l : ℕ) → l < side_dof side → get_or (cols side ++ rest) l 0 ≡ get_or (cols side) l 0
    col_is l h = get_or-append (cols side) rest 0 l (rw (cols-length side) h)

    spans_fit : (nstarts nlo nhi nlocal : ℕ) → chunk_count_of m.nrows len < nstarts → entry_count m ≤ nlo → entry_count m ≤ nhi → entry_count m ≤ nlocal
        → SpansFit (pattern_of m.nrows m.ptrs m.rows) (cols side ++ rest) (side_dof side) len nstarts nlo nhi nlocal
    spans_fit nstarts nlo nhi nlocal =
        side-fit m kept elims r.keeps r.parted e len r.chunked (cols side ++ rest) nstarts nlo nhi nlocal
        (let a = length-append (cols side) rest in let c = cols-length side in omega arith) col_is

  pub kept_spans : (rest : List ℕ) → SpansFit (pattern_of m.nrows m.ptrs m.rows) (cols kept ++ rest) (side_dof kept) len (length b.kept.starts) (length b.kept.lo) (length b.kept.hi) (length b.kept.local)
  unfolding room
  kept_spans rest =
      spans_fit false rest (length b.kept.starts) (length b.kept.lo) (length b.kept.hi) (length b.kept.local)
      (let q = buffer_room 9 (omega arith) in omega arith) (buffer_room 10 (omega arith)) (buffer_room 11 (omega arith)) (buffer_room 12 (omega arith))

  pub elims-spans : (rest : List ℕ) → SpansFit (pattern_of m.nrows m.ptrs m.rows) (cols elims ++ rest) (side_dof elims) len (length b.elims.starts) (length b.elims.lo) (length b.elims.hi) (length b.elims.local)
  unfolding room
  elims-spans rest =
      spans_fit true rest (length b.elims.starts) (length b.elims.lo) (length b.elims.hi) (length b.elims.local)
      (let q = buffer_room 13 (omega arith) in omega arith) (buffer_room 14 (omega arith)) (buffer_room 15 (omega arith)) (buffer_room 16 (omega arith))

-- what `spans` leaves of a side's list of columns is the side's spans
module _ (m : Columns) (side rest : List ℕ) (len : ℕ) where
  pub spanned-side : (s : Spread) → spanned (pattern_of m.nrows m.ptrs m.rows) (cols side ++ rest) (side_dof side) len s
      ≡ record { count = length (side_spans m side len); left = spread (chunk_spans m side len) (chunk_count_of m.nrows len) s }
  unfolding spanned
  spanned-side s =
      pattern_spans m (cols side ++ rest) (side_dof side) len s
      ∙ spanned_same m (cols side ++ rest) (cols side) (side_dof side) len (λ l h. get_or-append (cols side) rest 0 l (rw (cols-length side) h)) s

-- ---- a call by how far it gets

module _ (m : Columns) (kept elims : List ℕ) (len : ℕ) (b : Buffers) where
  early_stops : (r : Refusal) → plan_early m kept elims len b ≡ refused r → record { told = refused r; left = b } ≡ planned m kept elims len b
  unfolding planned plan_told plan_left
  early_stops r e = rw (e, pass_refused r _ (refused r), pass_refused r _ b)

  -- 1 to 5
  pub plan_parts : (r : Refusal) → refused r ≡ parts_told m kept elims (chunk_told len) → record { told = refused r; left = b } ≡ planned m kept elims len b
  plan_parts r e = early_stops r (rw (← e) (pass_refused r (no_room_of (room m kept elims len b)) (refused r)))

  -- 6
  pub plan-room : (r : Refusal) → done ≡ parts_told m kept elims (chunk_told len) → refused r ≡ no_room_of (room m kept elims len b) → record { told = refused r; left = b } ≡ planned m kept elims len b
  unfolding on_pass
  plan-room r parts e = early_stops r (rw (← parts, ← e))

-- what the blocks claim
abbrev claimed : Columns → List ℕ → List ℕ → List ℕ
claimed m kept elims = claims (column_count m) kept elims

-- owners' is what `row_owners` left
module _ (m : Columns) (elims l : List ℕ) {t : Told} {owners' : List ℕ} (own : record { told = t; owners = owners' } ≡ owners_of (pattern_of m.nrows m.ptrs m.rows) elims l) where
  owned-is : record { told = t; owners = owners' } ≡ owners_of m elims l
  owned-is = own ∙ owners-values m.nrows m.ptrs m.rows m.values elims l

  connected-is : t ≡ plan_connected m elims
  unfolding owners_of
  connected-is = ap (λ (w : Owned). w.told) owned-is

  pub owners-is : t ≡ done → owners' ≡ owner_list m elims ++ drop m.nrows l
  owners-is s = ap (λ (w : Owned). w.owners) owned-is ∙ left_pass m elims l (ap (λ (w : Told). w.number) (sym connected-is ∙ s))

module _ {m : Columns} {kept elims : List ℕ} {len : ℕ} {b : Buffers} where
  early_done : Early m kept elims len b → plan_early m kept elims len b ≡ done
  unfolding on_pass
  early_done early = rw (← early.parts, ← early.fits)

  -- 7 to 9: map' is what the walk left
  pub plan_walk : (r : Refusal) (map' : List ℕ) → Early m kept elims len b → record { told = refused r; map = map' } ≡ walk_blocks (column_count m) (claimed m kept elims) b.map
      → record { told = refused r; left = lent map' b.owners b } ≡ planned m kept elims len b
  unfolding planned plan_told plan_left walk_blocks
  plan_walk r map' early e =
      let t : refused r ≡ late_blocks m kept elims = ap (λ (w : Mapped). w.told) e in
      let q : map' ≡ on_pass (late_blocks m kept elims) (list_of (place_of (claimed m kept elims)) (column_count m)) (replicate (column_count m) mark) ++ drop (column_count m) b.map = ap (λ (w : Mapped). w.map) e in
      rw (early_done early, q, ← t, pass_refused r (list_of (place_of (claimed m kept elims)) (column_count m)) (replicate (column_count m) mark), pass_refused r _ (refused r), pass_refused r _ (lent (marks (column_count m) b.map) b.owners b), pass_done done _ done refl, pass_done done _ b refl)

  module _ {map' : List ℕ} (w : Walked m kept elims len b map') where
    blocks-done : late_blocks m kept elims ≡ done
    unfolding walk_blocks
    blocks-done = sym (ap (λ (w : Mapped). w.told) w.walk)

    pub mapped_is : map' ≡ list_of (place_of (claimed m kept elims)) (column_count m) ++ drop (column_count m) b.map
    unfolding walk_blocks
    mapped_is = ap (λ (w : Mapped). w.map) w.walk ∙ rw (blocks-done, pass_done done (list_of (place_of (claimed m kept elims)) (column_count m)) (replicate (column_count m) mark) refl)

    -- owners' is what `row_owners` left
    module _ {t : Told} {owners' : List ℕ} (own : record { told = t; owners = owners' } ≡ owners_of (pattern_of m.nrows m.ptrs m.rows) elims b.owners) where
      -- 10
      pub plan-connected : (r : Refusal) (map₂ : List ℕ) → t ≡ refused r → map₂ ≡ marked (column_count m) map' → record { told = refused r; left = lent map₂ owners' b } ≡ planned m kept elims len b
      unfolding planned plan_told plan_left on_pass
      plan-connected r map₂ s q =
          let c : plan_connected m elims ≡ refused r = sym (connected-is m elims b.owners own) ∙ s in
          let o : owners' ≡ marks m.nrows b.owners =
          ap (λ (w : Owned). w.owners) (owned-is m elims b.owners own) ∙ left-refused m elims b.owners (λ p. let z = number-some r in let y : number r ≡ 0 = rw c at p in eqb-false _ _ z y) in
          let d : drop (column_count m) map' ≡ drop (column_count m) b.map = ap (drop (column_count m)) mapped_is ∙ drop_at (list_of (place_of (claimed m kept elims)) (column_count m)) (drop (column_count m) b.map) (column_count m) (length-list_of (place_of (claimed m kept elims)) 0 (column_count m)) in
          let h : column_count m ≤ length map' = rw (mapped_is, length-append, length-list_of (place_of (claimed m kept elims)) 0 (column_count m)) (omega arith) in
          let w₂ : map₂ ≡ marks (column_count m) b.map = q ∙ marked_all (column_count m) map' h ∙ ap (λ (l : List ℕ). replicate (column_count m) mark ++ l) d in
          rw (early_done w.early, blocks-done, c, o, w₂, number-some r)

      -- 0: what the others left
      pub plan_all : t ≡ done → (kn en : ℕ) (z : Buffers) → kn ≡ length (side_spans m kept len) → en ≡ length (side_spans m elims len) → z ≡ plan_of m kept elims len b
          → record { told = tell 0 (kn ∷ en ∷ []); left = z } ≡ planned m kept elims len b
      unfolding planned plan_told plan_left on_pass
      plan_all s kn en z k e q =
          let c : plan_connected m elims ≡ done = sym (connected-is m elims b.owners own) ∙ s in
          rw (early_done w.early, blocks-done, c, q, k, e)

-- ---- what the functions leave, one after the other, is the plan

pub listed-count : (side l : List ℕ) {l' : List ℕ} {k : ℕ} → record { count = k; list = l' } ≡ columns_listed side l → k ≡ side_dof side
unfolding columns_listed
listed-count _ _ e = ap (λ (w : Counted). w.count) e

pub listed-list : (side l : List ℕ) {l' : List ℕ} {k : ℕ} → record { count = k; list = l' } ≡ columns_listed side l → l' ≡ cols side ++ drop (side_dof side) l
unfolding columns_listed
listed-list _ _ e = ap (λ (w : Counted). w.list) e

pub numbered_list : (side l : List ℕ) {l' : List ℕ} {k : ℕ} → record { count = k; list = l' } ≡ blocks_listed side l → l' ≡ column_blocks side ++ drop (side_dof side) l
unfolding blocks_listed
numbered_list _ _ e = ap (λ (w : Counted). w.list) e

-- s' is what `spans` left, from the columns cs that `list_columns` left
module _ (m : Columns) (side l : List ℕ) (len : ℕ) (s : Spread) {cs : List ℕ} {k count : ℕ} {s' : Spread} (e : record { count = k; list = cs } ≡ columns_listed side l) (q : record { count = count; left = s' } ≡ spanned (pattern_of m.nrows m.ptrs m.rows) cs k len s) where
  side-spanned : ◌≡◌ {A = Spanned} (record { count = count; left = s' }) (record { count = length (side_spans m side len); left = spread (chunk_spans m side len) (chunk_count_of m.nrows len) s })
  side-spanned = q ∙ rw (listed-list side l e, listed-count side l e) (spanned-side m side (drop (side_dof side) l) len s)

  pub span_count_lem : count ≡ length (side_spans m side len)
  span_count_lem = ap (λ (w : Spanned). w.count) side-spanned

  pub span_lists : s' ≡ spread (chunk_spans m side len) (chunk_count_of m.nrows len) s
  span_lists = ap (λ (w : Spanned). w.left) side-spanned

module _ (m : Columns) (elims owners list starts : List ℕ) where
  pub rows-listed : {owners' : List ℕ} {l : Listed} → owners' ≡ owner_list m elims ++ drop m.nrows owners
      → l ≡ listed (rows_with owners' m.nrows) (block_count elims) list starts → l ≡ listed (rows_of m elims) (block_count elims) list starts
  rows-listed e q = q ∙ rw e (lists_of_lem m elims (drop m.nrows owners) (block_count elims) list starts)

module _ (m : Columns) (kept elims : List ℕ) (len : ℕ) (b : Buffers) where
  pub plan_of_lem : (z : Buffers) → z.map ≡ list_of (place_of (claims (column_count m) kept elims)) (column_count m) ++ drop (column_count m) b.map → z.kept_cols ≡ cols kept ++ drop (side_dof kept) b.kept_cols
      → z.elims_cols ≡ cols elims ++ drop (side_dof elims) b.elims_cols → z.elims_blocks ≡ column_blocks elims ++ drop (side_dof elims) b.elims_blocks
      → z.owners ≡ owner_list m elims ++ drop m.nrows b.owners → z.row_lists ≡ listed (rows_of m elims) (block_count elims) b.row_lists.list b.row_lists.starts
      → z.visible ≡ listed (visible_of m kept elims) (block_count kept) b.visible.list b.visible.starts → z.kept ≡ spread (chunk_spans m kept len) (chunk_count_of m.nrows len) b.kept
      → z.elims ≡ spread (chunk_spans m elims len) (chunk_count_of m.nrows len) b.elims → z ≡ plan_of m kept elims len b
  unfolding plan_of
  plan_of_lem z p₁ p₂ p₃ p₄ p₅ p₆ p₇ p₈ p₉ = rw (← p₁, ← p₂, ← p₃, ← p₄, ← p₅, ← p₆, ← p₇, ← p₈, ← p₉)
