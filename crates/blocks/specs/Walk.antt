-- The code's own. The walk of 7 to 9 as src/check.rt makes it, on the map itself: a column is free where the map holds the mark. proofs/WalkLaws.antt
-- shows that it tells and leaves what Claims.antt says. Assumes nothing.
use Rattle.std.specs.Prelude.{◌≡◌, Bool, cond, List, [], ◌∷◌, ◌++◌, ℕ, suc, ◌+◌, ◌≤◌, ◌<◌, eqb, leb, length, get_or}
use Rattle.std.specs.Prelude.{take, drop, set, replicate}
use Rattle.ground.specs.Fold.{folded}
use Rattle.ground.specs.Gather.{list_of}
use Rattle.columns.specs.Refusals.{Told, tell, done, refused, Passes, on_pass}
use Rattle.std.specs.Prelude.{Result, Ok, Err, Option, Some, None, ltb}
use Rattle.columns.specs.declared.refusal.Refusal.{Refusal}
use Rattle.blocks.specs.Claims.{late_told, mark, place_of, Mapped}

unfoldable pub is_free_of : List ℕ → ℕ → Bool
is_free_of map c = eqb (get_or map c 0) mark

-- a place that was looked for among the first n, where it was found
abbrev pub found : ℕ → ℕ → Option ℕ
found n c = cond (ltb c n) (Some c) None

-- how far the walk has come: what it tells, the next local number, and the map
pub record Walked : Type 0 where
  pub told : Told
  pub next : ℕ
  pub map : List ℕ

abbrev pub through : ℕ → List ℕ → Walked
through next map = record { told = done; next = next; map = map }

abbrev pub stopped : Told → List ℕ → Walked
stopped t map = record { told = t; next = 0; map = map }

abbrev pub walk_of : Result ℕ Refusal → List ℕ → Walked
walk_of (Ok next) map = through next map
walk_of (Err r) map = stopped (refused r) map

-- column c claimed, if the walk has not stopped
unfoldable pub claim_on : ℕ → Walked → ℕ → Walked
claim_on n s c =
    on_pass s.told
    (cond (leb n c) (stopped (tell 7 (c ∷ [])) s.map)
    (cond (is_free_of s.map c) (through (s.next + 1) (set s.map c s.next))
    (stopped (tell 8 (c ∷ [])) s.map)))
    s

abbrev pub walked : ℕ → Walked → List ℕ → Walked
walked n s cs = folded (claim_on n) s cs

-- ---- what the walk's functions ask

-- how many marks a list holds
unfoldable pub mark_count : List ℕ → ℕ
mark_count [] = 0
mark_count (x ∷ xs) = cond (eqb x mark) (suc (mark_count xs)) (mark_count xs)

-- n columns are few, and the map has room for them
pub record Roomy (n places : ℕ) : Type 0 where
  pub few : n ≤ 65_536
  pub fits : n ≤ places

-- so it is, and as many columns are free as local numbers are left from `next` on
pub record Room (n next : ℕ) (map : List ℕ) : Type 0 where
  pub roomy : Roomy n (length map)
  pub free : next + mark_count (take n map) ≡ n

-- so it is, and block b is one of a list of that length
pub record BlockWalks (size b n next : ℕ) (map : List ℕ) : Type 0 where
  pub there : b + b + 1 < size
  pub room : Room n next map

-- ---- the whole of 7 to 9

-- what trying the claims cs leaves: the answer, and the map m where it held m₀
pub record Tried (n : ℕ) (cs m₀ : List ℕ) (t : Told) (m : List ℕ) : Type 0 where
  pub told : t ≡ late_told n cs
  pub past : drop n m ≡ drop n m₀
  pub size : length m ≡ length m₀
  pub full : Passes t → m ≡ list_of (place_of cs) n ++ drop n m₀

unfoldable pub walk_blocks : ℕ → List ℕ → List ℕ → Mapped
walk_blocks n cs map = record {
  told = late_told n cs;
  map = on_pass (late_told n cs) (list_of (place_of cs) n) (replicate n mark) ++ drop n map;
}
