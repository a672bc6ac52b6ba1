-- The walk on the map tells and leaves what specs/Claims.antt says: after the claims `seen` the map holds the place of each among them, and the
-- mark elsewhere. Assumes nothing.
use Rattle.ground.proofs.ListLaws.{list_of_same, list_of_all, set-list_of, get_or-front}
use mathlib.Core.Path.{◌≡◌, refl, sym, ap, ◌∙◌}
use mathlib.Core.Bool.{true, false, cond}
use mathlib.Core.List.{List, [], ◌∷◌, ◌++◌, append_assoc, append-nil}
use Prim.Native.Nat.{ℕ, zero, suc, ◌+◌, ◌≤◌, ◌<◌}
use native.Mathlib.Nat.{le_of_eq}
use native.Mathlib.Decide.{dec_lt}
use native.Mathlib.Omega.{arith}
use lib.Dec.{leb, ltb}
use lib.ListN.{length, get_or, take, drop, set, replicate, length-append, length-replicate, length-drop}
use lib.Seq.{take_at, drop_at, set-append_left, get_or-append_seam}
use borrow.Author.Tests.{le-leb, lt-leb, lt-ltb, le-ltb, eq-eqb, ne_eqb, eqb-false, leb-false}
use Rattle.ground.specs.First.{first}
use Rattle.ground.specs.Fold.{folded}
use Rattle.ground.specs.Gather.{list_of}
use Rattle.ground.proofs.FirstLaws.{first-low, first_stop, first_turn, past_none, first_same}
use Rattle.ground.proofs.GatherLaws.{length-list_of, get_or-list_of}
use Rattle.columns.specs.declared.refusal.Refusal.{Refusal}
use Rattle.columns.specs.Refusals.{Told, tell, done, refused, number, Passes, on_pass}
use Rattle.columns.proofs.RefusalLaws.{number-some, pass_done, pass_refused, passed}
use Rattle.blocks.specs.Claims.{mark, marked, place_of, claim_bad, bad_claim, walk_told, unclaimed, gap_told}
use Rattle.blocks.specs.Walk.{is_free_of, Walked, through, stopped, claim_on, walked, mark_count, Roomy, Room, Tried, walk_blocks}
use Rattle.blocks.proofs.PlaceLaws.{place-left, place-past, place_new, place_other}
use Rattle.blocks.proofs.WalkRules.{marked_all, claim_out, claim_twice, claim_free, stopped_all, free-mark, room_step, room_after, walk_keeps, walk_length, walk_drop}

-- ---- the map after some claims

unfoldable number_in : List ℕ → ℕ → ℕ
number_in cs c = cond (ltb (place_of cs c) (length cs)) (place_of cs c) mark

number_in_lem : (cs : List ℕ) (c : ℕ) → place_of cs c < length cs → number_in cs c ≡ place_of cs c
unfolding number_in
number_in_lem cs c h = rw (lt-ltb _ _ h)

number-out : (cs : List ℕ) (c : ℕ) → length cs ≤ place_of cs c → number_in cs c ≡ mark
unfolding number_in
number-out cs c h = rw (le-ltb _ _ h)

-- r is what stands past the n columns
unfoldable state : ℕ → List ℕ → List ℕ → List ℕ
state n r seen = list_of (number_in seen) n ++ r

module _ (n : ℕ) (r : List ℕ) where
  state_none : replicate n mark ++ r ≡ state n r []
  unfolding state
  state_none = rw (list_of_all (number_in []) n mark (λ c _. number-out [] c (omega arith)))

  state_taken : (seen : List ℕ) (c : ℕ) → length seen ≤ mark → c < n → place_of seen c < length seen → is_free_of (state n r seen) c ≡ false
  unfolding state is_free_of
  state_taken seen c l h p = rw (get_or-front 0 (number_in seen) n r c h, number_in_lem seen c p) (ne_eqb (place_of seen c) mark (λ e. omega arith))

  state_free : (seen : List ℕ) (c : ℕ) → c < n → length seen ≤ place_of seen c → is_free_of (state n r seen) c ≡ true
  unfolding state is_free_of
  state_free seen c h p = rw (get_or-front 0 (number_in seen) n r c h, number-out seen c p) (eq-eqb mark mark refl)

  -- what the search for 9 sees
  state_search : (seen : List ℕ) (c : ℕ) → length seen ≤ mark → c < n → is_free_of (state n r seen) c ≡ leb (length seen) (place_of seen c)
  state_search seen c l h = go (dec_lt (place_of seen c) (length seen))
    where
      go : Dec (place_of seen c < length seen) → is_free_of (state n r seen) c ≡ leb (length seen) (place_of seen c)
      go (yes p) = state_taken seen c l h p ∙ sym (lt-leb _ _ p)
      go (no p) = let q : length seen ≤ place_of seen c = omega arith in state_free seen c h q ∙ sym (le-leb _ _ q)

  -- a column that is free is claimed
  state_step : (seen : List ℕ) (c : ℕ) → c < n → length seen ≤ place_of seen c → set (state n r seen) c (length seen) ≡ state n r (seen ++ (c ∷ []))
  unfolding state
  state_step seen c h p =
      let g = length-append seen (c ∷ []) in
      let v : length seen ≡ number_in (seen ++ (c ∷ [])) c = sym (number_in_lem (seen ++ (c ∷ [])) c (omega (arith, place_new seen c p)) ∙ place_new seen c p) in
      rw (v, set-append_left (list_of (number_in seen) n) r c (number_in (seen ++ (c ∷ [])) c) (rw (length-list_of (number_in seen) 0 n) h))
      (ap (λ (m : List ℕ). m ++ r) (set-list_of 0 (number_in seen) (number_in (seen ++ (c ∷ []))) n c h (λ d ne. other d ne (dec_lt (place_of seen d) (length seen)))))
    where
      other : (d : ℕ) → (d ≡ c → ⊥) → Dec (place_of seen d < length seen) → number_in (seen ++ (c ∷ [])) d ≡ number_in seen d
      other d ne (yes q) =
          let g = length-append seen (c ∷ []) in
          let e = place-left seen (c ∷ []) d q in
          number_in_lem (seen ++ (c ∷ [])) d (omega arith) ∙ e ∙ sym (number_in_lem seen d q)
      other d ne (no q) =
          let l : length seen ≤ place_of seen d = omega arith in
          number-out (seen ++ (c ∷ [])) d (le_of_eq (sym (place_other seen c d ne l))) ∙ sym (number-out seen d l)

  -- every column is claimed
  state_full : (cs : List ℕ) → ltb (unclaimed n cs) n ≡ false → state n r cs ≡ list_of (place_of cs) n ++ r
  unfolding state
  state_full cs e = ap (λ (l : List ℕ). l ++ r) (list_of_same 0 (number_in cs) (place_of cs) n (λ c h. number_in_lem cs c (leb-false _ _ (past_none _ 0 n e c (omega arith) h))))

-- ---- the claim after those of `seen`

module _ (n : ℕ) (seen : List ℕ) (c : ℕ) (cs : List ℕ) where
  bad_out : n ≤ c → claim_bad n (seen ++ c ∷ cs) (length seen) ≡ true
  unfolding claim_bad
  bad_out h = rw (get_or-append_seam seen c cs 0, le-leb n c h)

  bad_twice : c < n → place_of seen c < length seen → claim_bad n (seen ++ c ∷ cs) (length seen) ≡ true
  unfolding claim_bad
  bad_twice h p = rw (get_or-append_seam seen c cs 0, lt-leb n c h, place-left seen (c ∷ cs) c p, lt-ltb _ _ p)

  bad_free : c < n → length seen ≤ place_of seen c → claim_bad n (seen ++ c ∷ cs) (length seen) ≡ false
  unfolding claim_bad
  bad_free h p = rw (get_or-append_seam seen c cs 0, lt-leb n c h, le-ltb _ _ (place-past seen (c ∷ cs) c p))

  -- the first bad one answers
  walk_stops : length seen ≡ bad_claim n (seen ++ c ∷ cs) → tell (cond (leb n c) 7 8) (c ∷ []) ≡ walk_told n (seen ++ c ∷ cs)
  unfolding walk_told
  walk_stops e =
      let g = length-append seen (c ∷ cs) in
      rw (← e, lt-ltb (length seen) (length (seen ++ c ∷ cs)) (omega arith), get_or-append_seam seen c cs 0)

walk_ends : (n : ℕ) (cs : List ℕ) → length cs ≤ bad_claim n cs → done ≡ walk_told n cs
unfolding walk_told
walk_ends n cs h = rw (le-ltb _ _ h)

-- ---- the two walks

module _ (n : ℕ) (r : List ℕ) where
  -- o is what the walk over cs, after seen, comes to
  record Bridged (seen cs : List ℕ) (o : Walked) : Type 0 where
    says : o.told ≡ walk_told n (seen ++ cs)
    full : Passes o.told → (o.map ≡ state n r (seen ++ cs)) × (o.next ≡ length (seen ++ cs))

  bridge : (seen cs : List ℕ) → Room n (length seen) (state n r seen) → first (claim_bad n (seen ++ cs)) (length seen) (length (seen ++ cs)) ≡ bad_claim n (seen ++ cs)
      → Bridged seen cs (walked n (through (length seen) (state n r seen)) cs)
  unfolding folded
  bridge seen [] room inv = record {
    says = walk_ends n (seen ++ []) (rw (← inv, append-nil) (first-low (claim_bad n seen) (length seen) (length seen)));
    full = λ _. (rw append-nil, rw append-nil);
  }
  bridge seen (c ∷ cs) room inv = go (dec_lt c n) (dec_lt (place_of seen c) (length seen)) (bridge (seen ++ (c ∷ [])) cs)
    where
      few : length seen ≤ mark
      few = let h = room.roomy.few in let g = room.free in omega arith

      here : length seen < length (seen ++ c ∷ cs)
      here = let g = length-append seen (c ∷ cs) in omega arith

      stop : (k : ℕ) → claim_on n (through (length seen) (state n r seen)) c ≡ stopped (tell (suc k) (c ∷ [])) (state n r seen)
          → tell (suc k) (c ∷ []) ≡ tell (cond (leb n c) 7 8) (c ∷ []) → claim_bad n (seen ++ c ∷ cs) (length seen) ≡ true
          → Bridged seen (c ∷ cs) (walked n (claim_on n (through (length seen) (state n r seen)) c) cs)
      stop k e t b = rw (e, stopped_all n (stopped (tell (suc k) (c ∷ [])) (state n r seen)) cs (ne_eqb (suc k) 0 (λ z. omega arith))) (record {
        says = t ∙ walk_stops n seen c cs (first_stop (claim_bad n (seen ++ c ∷ cs)) here inv b);
        full = λ z. absurd (omega arith);
      })

      go : Dec (c < n) → Dec (place_of seen c < length seen)
          → (Room n (length (seen ++ (c ∷ []))) (state n r (seen ++ (c ∷ [])))
          → first (claim_bad n ((seen ++ (c ∷ [])) ++ cs)) (length (seen ++ (c ∷ []))) (length ((seen ++ (c ∷ [])) ++ cs)) ≡ bad_claim n ((seen ++ (c ∷ [])) ++ cs)
          → Bridged (seen ++ (c ∷ [])) cs (walked n (through (length (seen ++ (c ∷ []))) (state n r (seen ++ (c ∷ [])))) cs))
          → Bridged seen (c ∷ cs) (walked n (claim_on n (through (length seen) (state n r seen)) c) cs)
      go (no h) p ih =
          let l : n ≤ c = omega arith in
          stop 6 (claim_out n (length seen) (state n r seen) c l) (rw (le-leb n c l)) (bad_out n seen c cs l)
      go (yes h) (yes p) ih =
          stop 7 (claim_twice n (length seen) (state n r seen) c h (state_taken n r seen c few h p)) (rw (lt-leb n c h)) (bad_twice n seen c cs h p)
      go (yes h) (no p) ih =
          let q : length seen ≤ place_of seen c = omega arith in
          let f = state_free n r seen c h q in
          let s = state_step n r seen c h q in
          let k : length seen + 1 ≡ length (seen ++ (c ∷ [])) = sym (length-append seen (c ∷ [])) in
          let w : (seen ++ (c ∷ [])) ++ cs ≡ seen ++ c ∷ cs = append_assoc seen (c ∷ []) cs in
          let b = ih (rw (← k, ← s) (room_step c room h (free-mark (state n r seen) c f)))
          (rw (w, ← k) (first_turn (claim_bad n (seen ++ c ∷ cs)) here inv (bad_free n seen c cs h q))) in
          rw (claim_free n (length seen) (state n r seen) c h f, s, k) (record {
            says = b.says ∙ ap (walk_told n) w;
            full = λ z. let u = b.full z in (u.0 ∙ ap (state n r) w, u.1 ∙ ap length w);
          })

-- ---- from the start, where every column is marked

marks_all : (k : ℕ) → mark_count (replicate k mark) ≡ k
unfolding mark_count
marks_all zero = refl
marks_all (suc k) = ap suc (marks_all k)

module _ (n : ℕ) (m₀ : List ℕ) (w : Roomy n (length m₀)) where
  start_map : marked n m₀ ≡ replicate n mark ++ drop n m₀
  start_map = marked_all n m₀ w.fits

  pub start_room : Room n 0 (marked n m₀)
  start_room =
      let h = w.fits in
      rw start_map (record {
        roomy = record { few = w.few; fits = simp (length-append, length-replicate, length-drop) (omega arith) };
        free = rw (take_at (replicate n mark) (drop n m₀) n (length-replicate n mark), marks_all n) (omega arith);
      })

  past_start : drop n (marked n m₀) ≡ drop n m₀
  past_start = rw start_map (drop_at (replicate n mark) (drop n m₀) n (length-replicate n mark))

  size_start : length (marked n m₀) ≡ length m₀
  size_start = let h = w.fits in rw start_map (simp (length-append, length-replicate, length-drop) (omega arith))

  -- the whole walk
  whole : (cs : List ℕ) → Bridged n (drop n m₀) [] cs (walked n (through 0 (marked n m₀)) cs)
  whole cs =
      let e : marked n m₀ ≡ state n (drop n m₀) [] = start_map ∙ state_none n (drop n m₀) in
      rw e (bridge n (drop n m₀) [] cs (rw (← e) start_room) refl)

  module _ (cs : List ℕ) (o : Walked) (e : o ≡ walked n (through 0 (marked n m₀)) cs) where
    past_end : drop n o.map ≡ drop n m₀
    past_end = ap (λ (s : Walked). drop n s.map) e ∙ walk_drop n (through 0 (marked n m₀)) cs ∙ past_start

    size_end : length o.map ≡ length m₀
    size_end = ap (λ (s : Walked). length s.map) e ∙ walk_length n (through 0 (marked n m₀)) cs ∙ size_start

    bridged : Bridged n (drop n m₀) [] cs o
    bridged = rw e (whole cs)

  -- the walk stopped
  pub tried_stopped : (cs : List ℕ) (t : Refusal) (m : List ℕ) → stopped (refused t) m ≡ walked n (through 0 (marked n m₀)) cs → Tried n cs m₀ (refused t) m
  tried_stopped cs t m e =
      let says = (bridged cs (stopped (refused t) m) e).says in
      record {
        told = rw (← says) (sym (pass_refused t _ _));
        past = past_end cs (stopped (refused t) m) e;
        size = size_end cs (stopped (refused t) m) e;
        full = λ z. absurd (eqb-false (number t) 0 (number-some t) z);
      }

  -- the walk came through, and u is the first column that is free
  pub tried_through : (cs : List ℕ) (k u : ℕ) (m : List ℕ) → through k m ≡ walked n (through 0 (marked n m₀)) cs → u ≡ first (is_free_of m) 0 n
      → Tried n cs m₀ (cond (ltb u n) (tell 9 (u ∷ [])) done) m
  unfolding gap_told on_pass
  tried_through cs k u m e f =
      let b = bridged cs (through k m) e in
      let q = b.full refl in
      let room = room_after n 0 (marked n m₀) cs k m start_room e in
      let few : length cs ≤ mark = (let h = room.roomy.few in let g = room.free in let i = q.1 in omega arith) in
      let v : u ≡ unclaimed n cs = f ∙ (rw q.0 (first_same _ _ 0 n (λ c _ h. state_search n (drop n m₀) cs c few h))) in
      record {
        told = rw (← b.says, ← v);
        past = past_end cs (through k m) e;
        size = size_end cs (through k m) e;
        full = λ z. q.0 ∙ state_full n (drop n m₀) cs (passed (ltb (unclaimed n cs) n) 8 _ done (rw v at z)).0;
      }

-- ---- what the walk's checks leave

module _ (n : ℕ) (cs m₀ : List ℕ) where
  pub walk_passed : (m : List ℕ) → Tried n cs m₀ done m → record { told = done; map = m } ≡ walk_blocks n cs m₀
  unfolding walk_blocks
  walk_passed m t = rw (← t.told, t.full refl, pass_done done (list_of (place_of cs) n) (replicate n mark) refl)

  pub walk_refused : (r : Refusal) (m m₁ : List ℕ) → Roomy n (length m₀) → Tried n cs m₀ (refused r) m → m₁ ≡ marked n m → record { told = refused r; map = m₁ } ≡ walk_blocks n cs m₀
  unfolding walk_blocks
  walk_refused r m m₁ w t e =
      let h : n ≤ length m = rw t.size w.fits in
      rw (← t.told, e, marked_all n m h, t.past, pass_refused r (list_of (place_of cs) n) (replicate n mark))

-- ---- how many claims there are

marks_none : (xs : List ℕ) → ((i : ℕ) → i < length xs → get_or xs i 0 ≡ mark → ⊥) → mark_count xs ≡ 0
unfolding mark_count
marks_none [] ne = refl
marks_none (x ∷ xs) ne = rw (ne_eqb x mark (ne 0 (omega arith))) (marks_none xs (λ i h. ne (suc i) (omega arith)))

-- claims that pass are as many as the columns: each takes one mark away, and none is left
pub claims-count : (n : ℕ) (cs : List ℕ) → n ≤ 65_536 → Passes (walk_told n cs) → Passes (gap_told n cs) → length cs ≡ n
unfolding gap_told state
claims-count n cs few p q =
    let m₀ : List ℕ = replicate n 0 in
    let w : Roomy n (length m₀) = record { few = few; fits = le_of_eq (sym (length-replicate n 0)) } in
    let o = walked n (through 0 (marked n m₀)) cs in
    let b = whole n m₀ w cs in
    let z : Passes o.told = ap (λ (t : Told). t.number) b.says ∙ p in
    let room = walk_keeps n (Room n) (λ next map c h f r. room_step c r h (free-mark map c f)) (through 0 (marked n m₀)) cs (λ _. start_room n m₀ w) z in
    let f = b.full z in
    let e = (passed (ltb (unclaimed n cs) n) 8 _ done q).0 in
    let t : take n o.map ≡ list_of (place_of cs) n =
    ap (take n) (f.0 ∙ state_full n (drop n m₀) cs e) ∙ take_at (list_of (place_of cs) n) (drop n m₀) n (length-list_of (place_of cs) 0 n) in
    let k : mark_count (take n o.map) ≡ 0 =
    (rw t (marks_none (list_of (place_of cs) n) (λ i h g.
    let l : i < n = rw (length-list_of (place_of cs) 0 n) at h in
    let v = get_or-list_of (place_of cs) 0 n i l in
    let u : place_of cs i < length cs = leb-false _ _ (past_none _ 0 n e i (omega arith) l) in
    let s = room.free in
    let y = f.1 in
    omega arith))) in
    let s = room.free in
    let y = f.1 in
    omega arith
