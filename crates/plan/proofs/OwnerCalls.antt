-- What the calls of `row_owners` come to, and what gives it its `requires`: columns and blocks that passed their checks. Assumes nothing.
use Rattle.ground.proofs.ListLaws.{list_of_same}
use Rattle.ground.proofs.FirstLaws.{first-high}
use borrow.Author.Rules.{rules}
use mathlib.Core.Path.{◌≡◌, refl, sym, ap, ◌∙◌}
use mathlib.Core.Bool.{Bool, true, false}
use mathlib.Core.List.{List, ◌++◌}
use Prim.Native.Nat.{ℕ, ◌+◌, ◌-◌, ◌≤◌, ◌<◌}
use native.Mathlib.Nat.{le_antisymm, le_trans}
use native.Mathlib.Omega.{arith}
use lib.Dec.{ltb}
use lib.ListN.{length, drop, replicate, length-append}
use lib.Seq.{drop_at}
use lib.Ieee.{Float}
use borrow.Author.Tests.{ltb-false, ne_eqb}
use Rattle.ground.specs.Fold.{All}
use Rattle.ground.specs.Gather.{list_of}
use Rattle.ground.proofs.EachLaws.{all_at}
use Rattle.ground.proofs.GatherLaws.{length-list_of}
use Rattle.columns.specs.declared.refusal.Refusal.{Refusal}
use Rattle.columns.specs.Refusals.{Answer}
use Rattle.std.specs.Prelude.{Option, Ok, Err}
use Rattle.columns.specs.Refusals.{Told, done, refused, told, Passes, on_pass}
use Rattle.columns.specs.Columns.{Columns, columns_of, Keeps}
use Rattle.columns.proofs.RefusalLaws.{pass_refused, passed}
use Rattle.columns.proofs.CheckLaws.{column-there, column-run}
use Rattle.blocks.specs.Sides.{first_of, side_of}
use Rattle.blocks.specs.Claims.{mark, marked, Parted}
use Rattle.blocks.proofs.WalkRules.{marked_all}
use Rattle.plan.specs.Owners.{in_column, in_block, Entry, entry, Owned, side_entries, clashes, first_clash, connected_told, owner_of, owner_list, pattern_of, owners_of}
use Rattle.plan.specs.OwnerWalk.{owned, claimed, ColumnIn, SideIn, OwnersIn}
use Rattle.plan.proofs.OwnerLaws.{held_at, walk_is, side_all, owner-held}

-- ---- the entries of blocks that are so

-- an entry's row is one of n, and its block one of few
abbrev Right : ℕ → Entry → Type 0
Right n x = (x.row < n) × (x.block < 65_536)

side_right : (m : Columns) (side : List ℕ) → SideIn m.ptrs m.rows side m.nrows → All (Right m.nrows) (side_entries m side)
side_right m side f =
    side_all m side (Right m.nrows) (λ b i p l h low high.
    let g = f.each b l in
    (((g.columns i (first_of side b + i) (record { block = l; offset = h; is = refl })).inside.each p low high).below, g.few))

-- ---- what the walk leaves

module _ (m : Columns) (elims o : List ℕ) (f : OwnersIn m elims (length o)) where
  abbrev es : List Entry
  es = side_entries m elims

  abbrev rest : List ℕ
  rest = drop m.nrows o

  -- o₁ is the owners once they are marked, t what the walk answered and o₂ what it left
  module _ (o₁ o₂ : List ℕ) (t : Answer) (cleared : o₁ ≡ marked m.nrows o) (call : owned (told t) o₂ ≡ claimed o₁ es) where
    walked : owned (told t) o₂ ≡ owned (connected_told es) (list_of (held_at es (first_clash es)) m.nrows ++ rest)
    walked =
        let all = side_right m elims f.side in
        call ∙ ap (λ (l : List ℕ). claimed l es) (cleared ∙ marked_all m.nrows o f.room)
        ∙ walk_is es m.nrows rest (λ k h. (all_at (Right m.nrows) (entry 0 0) es k all h).0) (λ k h q. let g = (all_at (Right m.nrows) (entry 0 0) es k all h).1 in omega arith)

    walked-told : told t ≡ connected_told es
    walked-told = ap (λ (w : Owned). w.told) walked

    walked-owners : o₂ ≡ list_of (held_at es (first_clash es)) m.nrows ++ rest
    walked-owners = ap (λ (w : Owned). w.owners) walked

    -- no clash: the walk has come to the end
    walked_all : done ≡ connected_told es → o₂ ≡ owner_list m elims ++ rest
    unfolding connected_told
    walked_all e =
        let l = ltb-false _ _ (passed _ 9 _ done (ap (λ (w : Told). w.number) (sym e))).0 in
        let q : first_clash es ≡ length es = le_antisymm (first-high (clashes es) 0 (length es) (omega arith)) l in
        walked-owners ∙ ap (λ (k : ℕ). list_of (held_at es k) m.nrows ++ rest) q
        ∙ ap (λ (l : List ℕ). l ++ rest) (list_of_same 0 (held_at es (length es)) (owner_of m elims) m.nrows (λ r _. owner-held m elims r))

    pub owners-done : t ≡ Ok tt → owned done o₂ ≡ owners_of m elims o
    unfolding owners_of on_pass
    owners-done p = let e : done ≡ connected_told es = rw p at walked-told in rw (← e, walked_all e)

    pub owners-refused : (r : Refusal) (o₃ : List ℕ) → t ≡ Err r → o₃ ≡ marked m.nrows o₂ → owned (refused r) o₃ ≡ owners_of m elims o
    unfolding owners_of
    owners-refused r o₃ p q =
        let e : refused r ≡ connected_told es = rw p at walked-told in
        let k = length-list_of (held_at es (first_clash es)) 0 m.nrows in
        let d : drop m.nrows o₂ ≡ rest = ap (drop m.nrows) walked-owners ∙ drop_at (list_of (held_at es (first_clash es)) m.nrows) rest m.nrows k in
        let h : m.nrows ≤ length o₂ = rw (walked-owners, length-append, k) (omega arith) in
        rw (← e, pass_refused r (owner_list m elims) (replicate m.nrows mark), q, marked_all m.nrows o₂ h, d)

-- ---- what a call leaves, by what it tells

module _ (m : Columns) (elims o : List ℕ) where
  pub told_pass : Passes (connected_told (side_entries m elims)) → connected_told (side_entries m elims) ≡ done
  unfolding connected_told
  told_pass p = let e : ltb (first_clash (side_entries m elims)) (length (side_entries m elims)) ≡ false = (passed _ 9 _ done p).0 in rw e

  pub left_pass : Passes (connected_told (side_entries m elims)) → (owners_of m elims o).owners ≡ owner_list m elims ++ drop m.nrows o
  unfolding owners_of on_pass
  left_pass p = rw (told_pass p)

  pub left-refused : (Passes (connected_told (side_entries m elims)) → ⊥) → (owners_of m elims o).owners ≡ replicate m.nrows mark ++ drop m.nrows o
  unfolding owners_of on_pass
  left-refused ne = rw (ne_eqb (connected_told (side_entries m elims)).number 0 ne)

-- ---- what it asks

module _ (ptrs rows side : List ℕ) (n k : ℕ) (h : n ≤ k) where
  more_column : (j : ℕ) → ColumnIn ptrs rows n j → ColumnIn ptrs rows k j
  more_column j f = record {
    column = f.column;
    inside = record { each = λ p l g. (let r = f.inside.each p l g in record { there = r.there; below = le_trans r.below h }) };
  }

  pub more_rows : SideIn ptrs rows side n → SideIn ptrs rows side k
  more_rows f = record {
    each = λ b l. (let g = f.each b l in record { there = g.there; few = g.few; columns = λ i c q. more_column c (g.columns i c q) });
  }

pub side_in : (nrows : ℕ) (ptrs rows elims : List ℕ) (n k : ℕ) → OwnersIn (pattern_of nrows ptrs rows) elims n → k ≡ n → SideIn ptrs rows elims k
side_in nrows ptrs rows elims n k f e = rw e (more_rows ptrs rows elims nrows n f.room f.side)

-- columns and blocks that passed their checks: e says which side
pub parted-side : (nrows : ℕ) (ptrs rows : List ℕ) (values : List Float) (kept elims : List ℕ) (e : Bool) → Keeps (columns_of nrows ptrs rows values) → Parted (length ptrs - 1) kept elims
    → SideIn ptrs rows (side_of e kept elims) nrows
parted-side nrows ptrs rows values kept elims e k p =
    let s = p.right e in
    record {
      each = λ b l. record {
        there = l;
        few = le_trans l s.few;
        columns = λ i c q. (let j = s.inside b i c q in record {
          column = column-there k.shaped c j;
          inside = record {
            each = λ r low high. record {
              there = le_trans high (column-run k.shaped c j).inside;
              below = k.sorted.below c r (record { column = j; low = low; high = high });
            };
          };
        });
      };
    }

-- and room for the owners
pub owners_in : (nrows : ℕ) (ptrs rows : List ℕ) (values : List Float) (kept elims : List ℕ) (n : ℕ) → Keeps (columns_of nrows ptrs rows values) → Parted (length ptrs - 1) kept elims
    → nrows ≤ n → OwnersIn (pattern_of nrows ptrs rows) elims n
owners_in nrows ptrs rows values kept elims n k p h = record { room = h; side = parted-side nrows ptrs rows values kept elims true k p }

-- no owner looks at the values
pub owners-values : (nrows : ℕ) (ptrs rows : List ℕ) (values : List Float) (elims o : List ℕ) → owners_of (pattern_of nrows ptrs rows) elims o ≡ owners_of (columns_of nrows ptrs rows values) elims o
unfolding owners_of owner_of in_block in_column
owners-values nrows ptrs rows values elims o = refl

pub ruleset owning = (rules, side_in, owners-done, owners-refused)
