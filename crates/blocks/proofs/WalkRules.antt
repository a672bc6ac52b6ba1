-- What the steps of src/check.rt show of the walk on the map, over plain variables: a lemma for each way that its functions go on or return.
-- Assumes nothing.
use Rattle.ground.proofs.ListLaws.{list-gathered}
use mathlib.Core.Path.{◌≡◌, refl, sym, ap, ◌∙◌, subst}
use mathlib.Core.Bool.{Bool, true, false, cond}
use mathlib.Core.List.{List, [], ◌∷◌, ◌++◌}
use Prim.Native.Nat.{ℕ, zero, suc, ◌+◌, ◌≤◌, ◌<◌}
use native.Mathlib.Nat.{le_of_suc-le-suc, not-suc-le-zero}
use native.Mathlib.Omega.{arith}
use lib.Dec.{eqb, leb, ltb}
use lib.ListN.{length, get_or, take, drop, set, replicate, length-set, drop_of_length-le}
use lib.Seq.{take-set-lt, drop-set-lt, get_or-take, length-take-le, take_all, take-length, drop-length}
use borrow.Author.Tests.{lt-ltb, le-ltb, ltb-true, ltb-false, le-leb, lt-leb, eq-eqb, ne_eqb, leb-false, eqb-true, eqb-false}
use Rattle.ground.specs.Gather.{gather}
use Rattle.ground.specs.Fold.{folded}
use Rattle.ground.proofs.FoldLaws.{folded-one, folded_append, folded_keeps, fold_turn}
use Rattle.ground.proofs.Rules.{searches}
use Rattle.columns.specs.declared.refusal.Refusal.{Refusal}
use Rattle.columns.specs.Refusals.{tell, refused, Passes, on_pass}
use Rattle.columns.proofs.RefusalLaws.{number-some}
use Rattle.blocks.specs.Sides.{first_of, dof_of, block_columns}
use Rattle.blocks.specs.Claims.{mark, block_claims, marked}
use Rattle.std.specs.Prelude.{Option, Some, None, min}
use Rattle.std.proofs.lemmas.List.{drop_min, length-take}
use Rattle.blocks.specs.Walk.{found, is_free_of, Walked, through, stopped, claim_on, walked, mark_count, Room}

-- ---- the mark

pub marked_all : (n : ℕ) (map : List ℕ) → n ≤ length map → marked n map ≡ replicate n mark ++ drop n map
unfolding marked
marked_all n map h = rw (length-take-le n map h)

-- k places are marked, or all of a map that has fewer
pub marked_part : (n k : ℕ) (map m : List ℕ) → k ≡ min n (length map) → m ≡ replicate k mark → m ++ drop k map ≡ marked n map
unfolding marked
marked_part n k map m h e = rw (e, h, drop_min n map, length-take n map)

-- a place that was looked for among the first n
module _ (n k c : ℕ) (e : c ≡ k) where
  pub found_at : c < n → Some c ≡ found n k
  found_at l = rw (← e, lt-ltb c n l)

  pub found_none : n ≤ c → None ≡ found n k
  found_none l = rw (← e, le-ltb c n l)

-- and what was found: o is the answer
module _ (n k : ℕ) (o : Option ℕ) (e : o ≡ found n k) where
  pub first_found : (c : ℕ) → o ≡ Some c → (k ≡ c) × (c < n)
  first_found c p = go (ltb k n) refl (sym e ∙ p)
    where
      go : (b : Bool) → ltb k n ≡ b → cond b (Some k) None ≡ Some c → (k ≡ c) × (c < n)
      go true t q = let h : k ≡ c = cc q in (h, rw h at (ltb-true k n t))
      go false t q = absurd (cc q)

  pub none_found : o ≡ None → n ≤ k
  none_found p = go (ltb k n) refl (sym e ∙ p)
    where
      go : (b : Bool) → ltb k n ≡ b → cond b (Some k) None ≡ None → n ≤ k
      go true t q = absurd (cc q)
      go false t q = ltb-false k n t

pub is_free : (map : List ℕ) (c : ℕ) → get_or map c 0 ≡ mark → is_free_of map c ≡ true
unfolding is_free_of
is_free map c e = eq-eqb _ _ e

pub is_taken : (map : List ℕ) (c : ℕ) → (get_or map c 0 ≡ mark → ⊥) → is_free_of map c ≡ false
unfolding is_free_of
is_taken map c e = ne_eqb _ _ e

-- ---- one column

module _ (n next : ℕ) (map : List ℕ) (c : ℕ) where
  pub claim_out : n ≤ c → claim_on n (through next map) c ≡ stopped (tell 7 (c ∷ [])) map
  unfolding claim_on on_pass
  claim_out h = rw (le-leb _ _ h)

  pub claim_twice : c < n → is_free_of map c ≡ false → claim_on n (through next map) c ≡ stopped (tell 8 (c ∷ [])) map
  unfolding claim_on on_pass
  claim_twice h e = rw (lt-leb _ _ h, e)

  pub claim_free : c < n → is_free_of map c ≡ true → claim_on n (through next map) c ≡ through (next + 1) (set map c next)
  unfolding claim_on on_pass
  claim_free h e = rw (lt-leb _ _ h, e)

-- a walk that has stopped stays so
stopped-one : (n : ℕ) (s : Walked) (c : ℕ) → eqb s.told.number 0 ≡ false → claim_on n s c ≡ s
unfolding claim_on on_pass
stopped-one n s c e = rw e

pub stopped_all : (n : ℕ) (s : Walked) (cs : List ℕ) → eqb s.told.number 0 ≡ false → walked n s cs ≡ s
unfolding folded
stopped_all n s [] e = refl
stopped_all n s (c ∷ cs) e = rw (stopped-one n s c e) (stopped_all n s cs e)

pub stopped_stays : (n : ℕ) (r : Refusal) (map cs : List ℕ) → walked n (stopped (refused r) map) cs ≡ stopped (refused r) map
stopped_stays n r map cs = stopped_all n (stopped (refused r) map) cs (number-some r)

-- ---- a block

-- the columns first + lo .. as a walk hands them on
unfoldable pub column_at : ℕ → ℕ → List ℕ
column_at first i = (first + i) ∷ []

-- first and dof are what the code read
module _ (n : ℕ) (side : List ℕ) (b first dof : ℕ) (s : Walked) where
  pub block_enters : first ≡ first_of side b → dof ≡ dof_of side b → first < n → walked n s (gather (column_at first) 0 dof) ≡ walked n s (block_claims n side b)
  unfolding block_claims block_columns column_at
  block_enters e d h = let k : first_of side b < n = rw e at h in rw (e, d, lt-leb n (first_of side b) k, list-gathered)

pub block_out : (n : ℕ) (side : List ℕ) (b first next : ℕ) (map : List ℕ) → first ≡ first_of side b → n ≤ first
    → stopped (tell 7 (first ∷ [])) map ≡ walked n (through next map) (block_claims n side b)
unfolding block_claims
block_out n side b first next map e h =
    let k : n ≤ first_of side b = rw e at h in
    rw (e, le-leb n (first_of side b) k) (sym (folded-one (claim_on n) (through next map) (first_of side b) ∙ claim_out n next map (first_of side b) k))

-- the loop over a block's columns: z is what the whole gives
module _ (n first dof i next : ℕ) (map : List ℕ) (z : Walked) (l : i < dof) (inv : walked n (through next map) (gather (column_at first) i dof) ≡ z) where
  next_claim : (s : Walked) → claim_on n (through next map) (first + i) ≡ s → walked n s (gather (column_at first) (i + 1) dof) ≡ z
  unfolding column_at
  next_claim s e = fold_turn (claim_on n) (column_at first) (through next map) l inv (sym (folded-one (claim_on n) (through next map) (first + i) ∙ e))

  pub column-out : n ≤ first + i → stopped (tell 7 ((first + i) ∷ [])) map ≡ z
  column-out h = sym (stopped_all n (stopped (tell 7 ((first + i) ∷ [])) map) _ refl) ∙ next_claim _ (claim_out n next map (first + i) h)

  pub column-twice : first + i < n → (get_or map (first + i) 0 ≡ mark → ⊥) → stopped (tell 8 ((first + i) ∷ [])) map ≡ z
  column-twice h e =
      sym (stopped_all n (stopped (tell 8 ((first + i) ∷ [])) map) _ refl) ∙ next_claim _ (claim_twice n next map (first + i) h (is_taken map (first + i) e))

  pub column-free : first + i < n → get_or map (first + i) 0 ≡ mark → walked n (through (next + 1) (set map (first + i) next)) (gather (column_at first) (i + 1) dof) ≡ z
  column-free h e = next_claim _ (claim_free n next map (first + i) h (is_free map (first + i) e))

-- ---- the room

-- a store over a mark takes one away
marks-set : (l : List ℕ) (i v : ℕ) → i < length l → get_or l i 0 ≡ mark → (v ≡ mark → ⊥) → suc (mark_count (set l i v)) ≡ mark_count l
unfolding mark_count
marks-set [] i v h e ne = absurd (not-suc-le-zero h)
marks-set (x ∷ xs) zero v h e ne = rw (eq-eqb _ _ e, ne_eqb _ _ ne)
marks-set (x ∷ xs) (suc i) v h e ne = go (eqb x mark) (marks-set xs i v (le_of_suc-le-suc h) e ne)
  where
    go : (b : Bool) {p q : ℕ} → suc p ≡ q → suc (cond b (suc p) p) ≡ cond b (suc q) q
    go true e = ap suc e
    go false e = e

pub room_step : {n next : ℕ} {map : List ℕ} (c : ℕ) → Room n next map → c < n → get_or map c 0 ≡ mark → Room n (next + 1) (set map c next)
room_step {n} {next} {map} c r h e =
    let few = r.roomy.few in
    let fits = r.roomy.fits in
    let free = r.free in
    let l : c < length (take n map) = simp length-take (omega arith) in
    let s = marks-set (take n map) c next l (get_or-take n map c 0 h ∙ e) (λ z. omega arith) in
    record {
      roomy = record { few = few; fits = simp length-set fits };
      free = rw (take-set-lt n map c next h) (omega arith);
    }

-- what a claim keeps
module _ (n : ℕ) (P : ℕ → List ℕ → Type 0) (step : (next : ℕ) (map : List ℕ) (c : ℕ) → c < n → is_free_of map c ≡ true → P next map → P (next + 1) (set map c next)) where
  claim_keeps : (s : Walked) (c : ℕ) → (Passes s.told → P s.next s.map) → Passes (claim_on n s c).told → P (claim_on n s c).next (claim_on n s c).map
  unfolding claim_on on_pass
  claim_keeps s c p = go (eqb s.told.number 0) refl (leb n c) refl (is_free_of s.map c) refl
    where
      go : (a : Bool) → eqb s.told.number 0 ≡ a → (b : Bool) → leb n c ≡ b → (d : Bool) → is_free_of s.map c ≡ d
          → let r = cond a (cond b (stopped (tell 7 (c ∷ [])) s.map) (cond d (through (s.next + 1) (set s.map c s.next)) (stopped (tell 8 (c ∷ [])) s.map))) s in
          Passes r.told → P r.next r.map
      go true x true y d w e = absurd (omega arith)
      go true x false y true w e = step s.next s.map c (leb-false n c y) w (p (eqb-true _ _ x))
      go true x false y false w e = absurd (omega arith)
      go false x b y d w e = absurd (eqb-false _ _ x e)

  -- the walk keeps, if it comes through
  pub walk_keeps : (s : Walked) (cs : List ℕ) → (Passes s.told → P s.next s.map) → Passes (walked n s cs).told → P (walked n s cs).next (walked n s cs).map
  walk_keeps = folded_keeps (claim_on n) (λ s. Passes s.told → P s.next s.map) claim_keeps

pub free-mark : (map : List ℕ) (c : ℕ) → is_free_of map c ≡ true → get_or map c 0 ≡ mark
unfolding is_free_of
free-mark map c e = eqb-true _ _ e

-- there is room for what is left, after a walk that came through
pub room_after : (n next : ℕ) (map cs : List ℕ) (k : ℕ) (m : List ℕ) → Room n next map → through k m ≡ walked n (through next map) cs → Room n k m
room_after n next map cs k m r e =
    subst (λ (s : Walked). Room n s.next s.map) (sym e)
    (walk_keeps n (Room n) (λ next map c h f r. room_step c r h (free-mark map c f)) (through next map) cs (λ _. r) (ap (λ (s : Walked). s.told.number) (sym e)))

-- what every claim keeps of the map, also one that stops the walk
module _ (n : ℕ) (P : List ℕ → Type 0) (step : (map : List ℕ) (c v : ℕ) → c < n → P map → P (set map c v)) where
  claim_map : (s : Walked) (c : ℕ) → P s.map → P (claim_on n s c).map
  unfolding claim_on on_pass
  claim_map s c p = go (eqb s.told.number 0) (leb n c) refl (is_free_of s.map c)
    where
      go : (a b : Bool) → leb n c ≡ b → (d : Bool)
          → P (cond a (cond b (stopped (tell 7 (c ∷ [])) s.map) (cond d (through (s.next + 1) (set s.map c s.next)) (stopped (tell 8 (c ∷ [])) s.map))) s).map
      go true true y d = p
      go true false y true = step s.map c s.next (leb-false n c y) p
      go true false y false = p
      go false b y d = p

  pub walk_map : (s : Walked) (cs : List ℕ) → P s.map → P (walked n s cs).map
  walk_map = folded_keeps (claim_on n) (λ s. P s.map) claim_map

module _ (n : ℕ) (s : Walked) (cs : List ℕ) where
  pub walk_length : length (walked n s cs).map ≡ length s.map
  walk_length = walk_map n (λ m. length m ≡ length s.map) (λ m c v _ e. length-set m c v ∙ e) s cs refl

  pub walk_drop : drop n (walked n s cs).map ≡ drop n s.map
  walk_drop = walk_map n (λ m. drop n m ≡ drop n s.map) (λ m c v h e. drop-set-lt n m c v h ∙ e) s cs refl

-- ---- a side: m is the map that block b's walk left

module _ (n : ℕ) (side : List ℕ) (b count next : ℕ) (map m : List ℕ) (z : Walked) (l : b < count) (inv : walked n (through next map) (gather (block_claims n side) b count) ≡ z) where
  pub side-through : (k : ℕ) → through k m ≡ walked n (through next map) (block_claims n side b) → walked n (through k m) (gather (block_claims n side) (b + 1) count) ≡ z
  side-through k e = fold_turn (claim_on n) (block_claims n side) (through next map) l inv e

  pub side-stopped : (r : Refusal) → stopped (refused r) m ≡ walked n (through next map) (block_claims n side b) → stopped (refused r) m ≡ z
  side-stopped r e = sym (stopped_stays n r m _) ∙ fold_turn (claim_on n) (block_claims n side) (through next map) l inv e

-- ---- one side after the other

module _ (n next : ℕ) (map m xs ys : List ℕ) where
  pub both_through : (k : ℕ) (o : Walked) → through k m ≡ walked n (through next map) xs → o ≡ walked n (through k m) ys → o ≡ walked n (through next map) (xs ++ ys)
  both_through k o e f = f ∙ ap (λ (s : Walked). walked n s ys) e ∙ sym (folded_append (claim_on n) (through next map) xs ys)

  pub both_stopped : (r : Refusal) → stopped (refused r) m ≡ walked n (through next map) xs → stopped (refused r) m ≡ walked n (through next map) (xs ++ ys)
  both_stopped r e = sym (stopped_stays n r m ys) ∙ ap (λ (s : Walked). walked n s ys) e ∙ sym (folded_append (claim_on n) (through next map) xs ys)

pub ruleset walking = (searches, found_at, found_none, is_free, is_taken)
