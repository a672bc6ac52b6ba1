-- What the calls of src/coupling.rt and src/update.rt come to, by how far they get, and what passed checks give the work behind them.
-- Assumes nothing.
use Rattle.std.proofs.Common.{◌≡◌, ℕ, ◌-◌, ◌<◌, ◌≤◌, Bool, true, false, not, List, [], ◌∷◌, length, get_or, drop, set, replicate, sym, refl, ap, ◌∙◌, le_trans, arith, length-append, le-ltb, lt-ltb}
use lib.ListN.{length-replicate}
use lib.Ieee.{Float, nan}
use borrow.Author.Tests.{eqb-false}
use Rattle.ground.specs.Gather.{list_of}
use Rattle.ground.proofs.GatherLaws.{length-list_of}
use Rattle.ground.proofs.Rules.{loops}
use Rattle.ground.proofs.ListLaws.{list_of_same}
use Rattle.columns.specs.declared.refusal.Refusal.{Refusal}
use Rattle.columns.specs.Refusals.{Answer}
use Rattle.std.specs.Prelude.{Ok, Err}
use Rattle.columns.specs.declared.unchecked.Sign.TheVariants.{Plus}
use Rattle.columns.specs.Refusals.{number, Told, done, refused, told, Passes, on_pass}
use Rattle.columns.specs.Lengths.{wrong_length}
use Rattle.columns.specs.Columns.{Columns, columns_of, column_count}
use Rattle.columns.specs.Sums.{zero₊, swept_on}
use Rattle.columns.proofs.RefusalLaws.{number-some, pass_refused, pass_done}
use Rattle.columns.proofs.CallLaws.{lengths_right}
use Rattle.columns.proofs.SumLaws.{length-swept}
use Rattle.blocks.specs.Sides.{side_dof, side_of}
use Rattle.blocks.specs.Claims.{marked, claims, place_of, blocks_told, map_left, Mapped, check_blocks, BlocksKeep}
use Rattle.blocks.specs.BlockValues.{value_count}
use Rattle.blocks.proofs.MapLaws.{map_on, map-place, map_below, left-marked, keeps-dofs, passes_early, blocks-told, blocks-map, blocks_keep, blocks_mapped}
use Rattle.blocks.proofs.ValueCalls.{block_inside}
use Rattle.products.specs.SideSums.{side_terms, side_gather}
use Rattle.products.specs.SideFits.{SideFits, DofsFit, InversesFit}
use Rattle.products.specs.Couplings.{lent_told, made, inverse_lengths, coupling_lengths, coupled_rows, coupling, update_at, update_lengths}
use Rattle.products.specs.LentCalls.{check_lengths, lent, Pair, coupled, CouplingFits, update_by, UpdateFits, UpdatesFit}

-- ---- the lengths alone: a is what `wrong_length` answered

module _ (pairs : List ℕ) (n : ℕ) (map : List ℕ) (a : Answer) (e : told a ≡ wrong_length pairs) where
  pub lengths_refused : (r : Refusal) (end : List ℕ) → a ≡ Err r → end ≡ marked n map → record { told = refused r; map = end } ≡ check_lengths pairs n map
  unfolding check_lengths
  lengths_refused r end p q =
      let t : wrong_length pairs ≡ refused r = sym e ∙ ap told p in
      rw (t, pass_refused r map (marked n map), q)

  pub lengths_done : a ≡ Ok tt → record { told = done; map = map } ≡ check_lengths pairs n map
  unfolding check_lengths on_pass
  lengths_done p = let t : wrong_length pairs ≡ done = sym e ∙ ap told p in rw t

-- ---- columns and blocks, then lengths

-- what a call knows once they have passed, where `end` is the map that they left
pub record LentPassed (m : Columns) (kept elims map pairs end : List ℕ) : Type 0 where
  pub keep : BlocksKeep m kept elims map
  pub lengths : Passes (wrong_length pairs)
  pub filled : end ≡ map_on (column_count m) kept elims (drop (column_count m) map)
  pub told : record { told = done; map = end } ≡ lent m kept elims map pairs

-- a is what `check_blocks` answered, and left the map that it left
module _ (m : Columns) (kept elims map : List ℕ) (a : Answer) (left : List ℕ) (e : record { told = told a; map = left } ≡ check_blocks m kept elims map) where
  pub first-refused : (pairs : List ℕ) (r : Refusal) → a ≡ Err r → record { told = refused r; map = left } ≡ lent m kept elims map pairs
  unfolding lent_told
  first-refused pairs r p =
      let t : blocks_told m kept elims map ≡ refused r = sym (blocks-told m kept elims map (told a) left e) ∙ ap told p in
      let q : left ≡ map_left (refused r) m kept elims map = rw t at (blocks-map m kept elims map (told a) left e) in
      rw (t, pass_refused r (wrong_length pairs) (refused r), q)

  module _ (p : a ≡ Ok tt) where
    passes : Passes (told a)
    passes = ap (λ (b : Answer). (told b).number) p

    blocks-done : blocks_told m kept elims map ≡ done
    blocks-done = sym (blocks-told m kept elims map (told a) left e) ∙ ap told p

    pub first_keep : BlocksKeep m kept elims map
    first_keep = blocks_keep m kept elims map (told a) left e passes

    -- w is what `check_lengths` answered, of the lengths as the code had them, and left the map `end`
    module _ (w : Answer) (end : List ℕ) (n : ℕ) (c : n ≡ column_count m) (had pairs : List ℕ) (q : had ≡ pairs) (f : record { told = told w; map = end } ≡ check_lengths had n left) where
      lengths_told : told w ≡ wrong_length pairs
      unfolding check_lengths
      lengths_told = rw q at (ap (λ (o : Mapped). o.told) f)

      all_told : told w ≡ lent_told m kept elims map pairs
      unfolding lent_told on_pass
      all_told = rw blocks-done lengths_told

      end_is : end ≡ on_pass (told w) left (marked (column_count m) left)
      unfolding check_lengths
      end_is = rw (lengths_told, ← q, ← c) (ap (λ (o : Mapped). o.map) f)

      pub then_refused : (r : Refusal) → w ≡ Err r → record { told = refused r; map = end } ≡ lent m kept elims map pairs
      then_refused r z =
          let t : lent_told m kept elims map pairs ≡ refused r = sym all_told ∙ ap told z in
          let u : end ≡ marked (column_count m) left = (rw z at end_is) ∙ pass_refused r left (marked (column_count m) left) in
          let early = passes_early m kept elims map (ap (λ (t : Told). t.number) blocks-done) in
          let v : marked (column_count m) left ≡ map_left (refused r) m kept elims map =
          ap (λ (l : List ℕ). marked (column_count m) l) (blocks-map m kept elims map (told a) left e)
          ∙ left-marked m kept elims map (refused r) (blocks_told m kept elims map) early (eqb-false (number r) 0 (number-some r)) in
          rw (t, u, v)

      module _ (z : w ≡ Ok tt) where
        end_left : end ≡ left
        end_left = (rw z at end_is) ∙ pass_done done left (marked (column_count m) left) refl

        then_told : record { told = done; map = end } ≡ lent m kept elims map pairs
        then_told =
            let t : lent_told m kept elims map pairs ≡ done = sym all_told ∙ ap told z in
            let u : end ≡ map_left done m kept elims map = end_left ∙ (rw blocks-done at (blocks-map m kept elims map (told a) left e)) in
            rw (t, u)

        pub then_passes : LentPassed m kept elims map pairs end
        then_passes = record {
          keep = first_keep;
          lengths = ap (λ (t : Told). t.number) (sym lengths_told) ∙ ap (λ (b : Answer). (told b).number) z;
          filled = end_left ∙ blocks_mapped m kept elims map (told a) left e passes;
          told = then_told;
        }

-- ---- what a call then leaves in its result

module _ (m : Columns) (kept elims map pairs left : List ℕ) where
  pub made-refused : (r : Refusal) (new old : List Float) → record { told = refused r; map = left } ≡ lent m kept elims map pairs
      → record { told = refused r; map = left; out = old } ≡ made m kept elims map pairs new old
  made-refused r new old e =
      let t : refused r ≡ lent_told m kept elims map pairs = ap (λ (o : Mapped). o.told) e in
      let u : left ≡ map_left (lent_told m kept elims map pairs) m kept elims map = ap (λ (o : Mapped). o.map) e in
      rw (u, ← t, pass_refused r new old)

  pub made-done : (new old next : List Float) → LentPassed m kept elims map pairs left → next ≡ new → record { told = done; map = left; out = next } ≡ made m kept elims map pairs new old
  unfolding on_pass
  made-done new old next g q =
      let t : done ≡ lent_told m kept elims map pairs = ap (λ (o : Mapped). o.told) g.told in
      let u : left ≡ map_left (lent_told m kept elims map pairs) m kept elims map = ap (λ (o : Mapped). o.map) g.told in
      rw (u, ← t, q)

-- ---- what the checks give the work

module _ (m : Columns) (kept elims map : List ℕ) (g : BlocksKeep m kept elims map) where
  dofs-few : (e : Bool) → side_dof (side_of e kept elims) ≤ column_count m
  dofs-few true = let q = keeps-dofs m kept elims map g in omega arith
  dofs-few false = let q = keeps-dofs m kept elims map g in omega arith

  pub dofs-fit : (e : Bool) → DofsFit (side_of e kept elims)
  dofs-fit e = record { few = le_trans (dofs-few e) g.keeps.small.few-columns }

  pub side-fits : (e : Bool) (n k : ℕ) → k ≡ m.nrows → n ≡ side_dof (side_of e kept elims) → SideFits (columns_of k m.ptrs m.rows m.values) (side_of e kept elims) n
  side-fits e n k q r = rw q (record { keeps = g.keeps; inside = block_inside m kept elims map g e; room = r })

-- ---- the block inverses times b

module _ (elims : List ℕ) (b inverses out : List Float) where
  pub inverse_lengths_lem : (dof n : ℕ) → dof ≡ side_dof elims → n ≡ value_count elims
      → ◌≡◌ {A = List ℕ} (length b ∷ dof ∷ length inverses ∷ n ∷ length out ∷ dof ∷ []) (inverse_lengths elims b inverses out)
  inverse_lengths_lem dof n p q = rw (p, q)

  pub inverses-fit : Passes (wrong_length (inverse_lengths elims b inverses out)) → InversesFit elims (length inverses) (length b) (length out)
  inverses-fit p =
      let r = lengths_right (inverse_lengths elims b inverses out) p in
      record { values = r 1 (omega arith); entries = r 0 (omega arith); room = r 2 (omega arith) }

-- ---- the coupling products

-- past the checks: y is the rows as lent, y₁ once they are cleared, y₂ once they are swept
module _ (ptrs rows : List ℕ) (values : List Float) (from to : List ℕ) (n k : ℕ) (y y₁ : List Float) (f : CouplingFits (columns_of (length y) ptrs rows values) from to n k) (cleared : y₁ ≡ replicate (length y) zero₊) where
  clear_length : length y₁ ≡ length y
  clear_length = ap length cleared ∙ length-replicate (length y) zero₊

  pub couple_sweeps : SideFits (columns_of (length y₁) ptrs rows values) from n
  couple_sweeps = rw clear_length f.swept

  module _ (v y₂ : List Float) (swept : y₂ ≡ swept_on Plus y₁ (side_terms (columns_of (length y₁) ptrs rows values) from v)) where
    pub couple_gathers : SideFits (columns_of (length y₂) ptrs rows values) to k
    couple_gathers =
        let e : length y₂ ≡ length y = ap length swept ∙ length-swept Plus y₁ (side_terms (columns_of (length y₁) ptrs rows values) from v) ∙ clear_length in
        rw e f.gathered

    pub couple_done : (out : List Float) → out ≡ side_gather zero₊ (columns_of (length y₂) ptrs rows values) to y₂ → record { rows = y₂; out = out } ≡ coupled (columns_of (length y) ptrs rows values) from to v
    unfolding coupled
    couple_done out q =
        let e : length y₂ ≡ length y = ap length swept ∙ length-swept Plus y₁ (side_terms (columns_of (length y₁) ptrs rows values) from v) ∙ clear_length in
        let s : y₂ ≡ coupled_rows (columns_of (length y) ptrs rows values) from v = rw (clear_length, cleared) at swept in
        let o : out ≡ side_gather zero₊ (columns_of (length y) ptrs rows values) to y₂ = rw e at q in
        rw (o, s)

pub coupling_lengths_lem : (nrows : ℕ) (from to : List ℕ) (v rows out : List Float) (d k : ℕ) → d ≡ side_dof from → k ≡ side_dof to
    → ◌≡◌ {A = List ℕ} (length v ∷ d ∷ length rows ∷ nrows ∷ length out ∷ k ∷ []) (length v ∷ side_dof from ∷ length rows ∷ nrows ∷ length out ∷ side_dof to ∷ [])
coupling_lengths_lem nrows from to v rows out d k p q = rw (p, q)

module _ (e : Bool) (m : Columns) (kept elims map : List ℕ) (v rows out : List Float) where
  abbrev pairs : List ℕ
  pairs = coupling_lengths m (side_of e kept elims) (side_of (not e) kept elims) v rows out

  pub coupling-refused : (left : List ℕ) (r : Refusal) → record { told = refused r; map = left } ≡ lent m kept elims map pairs
      → record { told = refused r; map = left; rows = rows; out = out } ≡ coupling e m kept elims map v rows out
  unfolding coupling
  coupling-refused left r q =
      let t : refused r ≡ lent_told m kept elims map pairs = ap (λ (o : Mapped). o.told) q in
      let u : left ≡ map_left (lent_told m kept elims map pairs) m kept elims map = ap (λ (o : Mapped). o.map) q in
      rw (
        u,
        ← t,
        pass_refused r (coupled_rows m (side_of e kept elims) v) rows,
        pass_refused r (side_gather zero₊ m (side_of (not e) kept elims) (coupled_rows m (side_of e kept elims) v)) out,
      )

  module _ (left : List ℕ) (g : LentPassed m kept elims map pairs left) where
    pub coupling-fits : CouplingFits (columns_of (length rows) m.ptrs m.rows m.values) (side_of e kept elims) (side_of (not e) kept elims) (length v) (length out)
    coupling-fits =
        let r = lengths_right pairs g.lengths in
        record {
          swept = side-fits m kept elims map g.keep e (length v) (length rows) (r 1 (omega arith)) (r 0 (omega arith));
          gathered = side-fits m kept elims map g.keep (not e) (length out) (length rows) (r 1 (omega arith)) (r 2 (omega arith));
        }

    pub coupling-done : (y next : List Float)
        → record { rows = y; out = next } ≡ coupled (columns_of (length rows) m.ptrs m.rows m.values) (side_of e kept elims) (side_of (not e) kept elims) v
        → record { told = done; map = left; rows = y; out = next } ≡ coupling e m kept elims map v rows out
    unfolding coupling coupled on_pass
    coupling-done y next w =
        let n : length rows ≡ m.nrows = lengths_right pairs g.lengths 1 (omega arith) in
        let t : done ≡ lent_told m kept elims map pairs = ap (λ (o : Mapped). o.told) g.told in
        let u : left ≡ map_left (lent_told m kept elims map pairs) m kept elims map = ap (λ (o : Mapped). o.map) g.told in
        let a : y ≡ coupled_rows m (side_of e kept elims) v = rw n at (ap (λ (o : Pair). o.rows) w) in
        let b : next ≡ side_gather zero₊ m (side_of (not e) kept elims) (coupled_rows m (side_of e kept elims) v) = rw n at (ap (λ (o : Pair). o.out) w) in
        rw (u, ← t, a, b)

-- ---- the update

-- place is what the code read of the map
module _ (map : List ℕ) (xk xe : List Float) (c place : ℕ) (e : place ≡ get_or map c 0) where
  pub update_kept : place < length xk → get_or xk place nan ≡ update_by map xk xe c
  unfolding update_by
  update_kept l = rw (← e, lt-ltb place (length xk) l)

  pub update_elims : length xk ≤ place → get_or xe (place - length xk) nan ≡ update_by map xk xe c
  unfolding update_by
  update_elims l = rw (← e, le-ltb place (length xk) l)

  pub update_entry : UpdateFits map (length xk) (length xe) c → length xk ≤ place → place - length xk < length xe
  update_entry f l = let q = f.entry in omega (arith, e)

pub update_put : (y : List Float) (c : ℕ) (r x : Float) → r ≡ x → set y c r ≡ set y c x
update_put y c r x e = rw e

pub update_each : (map : List ℕ) (xk xe n c : ℕ) → UpdatesFit map xk xe n → c < n → UpdateFits map xk xe c
update_each map xk xe n c f l = f.each c l

pub update_lengths_lem : (kept elims : List ℕ) (xk xe out : List Float) (d k n count : ℕ) → d ≡ side_dof kept → k ≡ side_dof elims → n ≡ count
    → ◌≡◌ {A = List ℕ} (length xk ∷ d ∷ length xe ∷ k ∷ length out ∷ n ∷ []) (length xk ∷ side_dof kept ∷ length xe ∷ side_dof elims ∷ length out ∷ count ∷ [])
update_lengths_lem kept elims xk xe out d k n count p q r = rw (p, q, r)

-- end is the map as the checks left it
module _ (m : Columns) (kept elims map : List ℕ) (xk xe out : List Float) (end : List ℕ) (g : LentPassed m kept elims map (update_lengths m kept elims xk xe out) end) where
  rights : (length xk ≡ side_dof kept) × (length xe ≡ side_dof elims) × (length out ≡ column_count m)
  rights = let r = lengths_right (update_lengths m kept elims xk xe out) g.lengths in (r 0 (omega arith), r 1 (omega arith), r 2 (omega arith))

  pub updates_fit : UpdatesFit end (length xk) (length xe) (length out)
  updates_fit =
      let r = rights in
      record {
        each = λ c l.
            let h : c < column_count m = rw r.2 at l in
            record {
              there =
                  let a = length-append (list_of (place_of (claims (column_count m) kept elims)) (column_count m)) (drop (column_count m) map) in
                  let b = length-list_of (place_of (claims (column_count m) kept elims)) 0 (column_count m) in
                  rw g.filled (omega arith);
              entry = rw (g.filled, r.0, r.1) (map_below (column_count m) kept elims (drop (column_count m) map) g.keep.parted c h);
            };
      }

  update_same : (c : ℕ) → c < column_count m → update_by end xk xe c ≡ update_at (column_count m) kept elims xk xe c
  unfolding update_by update_at
  update_same c h = rw (g.filled, map-place (column_count m) kept elims (drop (column_count m) map) g.keep.parted c h, rights.0)

  pub update_done : (next : List Float) → next ≡ list_of (update_by end xk xe) (length out) → next ≡ list_of (update_at (column_count m) kept elims xk xe) (column_count m)
  update_done next e = (rw rights.2 at e) ∙ list_of_same nan (update_by end xk xe) (update_at (column_count m) kept elims xk xe) (column_count m) update_same

pub ruleset lending = (loops, update_put, lengths_refused, lengths_done, update_kept, update_elims, update_entry, update_each)
