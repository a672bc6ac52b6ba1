-- A walk over the pairs of neighbours of a list: where it stands, told by what is left of the list. Assumes nothing.
use Rattle.std.proofs.Common.{◌≡◌, ℕ, Bool, ◌||◌, ◌+◌, ◌-◌, ◌<◌, ◌≤◌, List, length, get_or, take, drop, refl, ap, ◌∙◌, arith}
use Rattle.std.proofs.lemmas.List.{length-drop, get_or-drop, get_or-take, drop-drop}
use Rattle.ground.specs.First.{some}
use Rattle.ground.proofs.FirstLaws.{some_turn}

-- how many of xs are gone where `rest` is left
abbrev pub gone : List ℕ → List ℕ → ℕ
gone xs rest = length xs - length rest

-- `rest` is the end of xs
pub record IsRest (xs rest : List ℕ) : Type 0 where
  pub is : rest ≡ drop (gone xs rest) xs

-- at the start nothing is gone
pub rest_all : (xs rest : List ℕ) → rest ≡ xs → IsRest xs rest × (gone xs rest ≡ 0)
rest_all xs rest e =
    let z : length xs - length xs ≡ 0 = omega arith in
    (record { is = rw (e, z) }, rw (e, z))

rest_short : (xs rest : List ℕ) → IsRest xs rest → length rest ≤ length xs
rest_short xs rest r = omega (arith, ap length r.is, length-drop (gone xs rest) xs)

-- no pair is left where fewer than two numbers are
pub rest_none : (size : ℕ) (xs rest : List ℕ) → size ≡ 2 → IsRest xs rest → length rest < size → length xs - 1 ≤ gone xs rest
rest_none size xs rest two r h = omega (arith, rest_short xs rest r)

-- the pair w is taken where `rest` is left, and `rest'` is left after it
pub record PairTaken (xs rest rest' w : List ℕ) : Type 0 where
  pub next : IsRest xs rest'
  pub on : gone xs rest' ≡ gone xs rest + 1
  pub inside : gone xs rest < length xs - 1
  pub first : get_or w 0 0 ≡ get_or xs (gone xs rest) 0
  pub second : get_or w 1 0 ≡ get_or xs (gone xs rest + 1) 0

module _ (size : ℕ) (xs rest rest' w : List ℕ) (two : size ≡ 2) (r : IsRest xs rest) (more : size ≤ length rest) (window : w ≡ take size rest)
    (left : rest' ≡ drop 1 rest) where
  gone_next : gone xs rest' ≡ gone xs rest + 1
  gone_next = omega (arith, ap length left, length-drop 1 rest, rest_short xs rest r)

  at : (i : ℕ) → i < 2 → get_or w i 0 ≡ get_or xs (gone xs rest + i) 0
  at i h =
      ap (λ (l : List ℕ). get_or l i 0) window ∙ get_or-take size rest i 0 (rw two h) ∙ ap (λ (l : List ℕ). get_or l i 0) r.is
      ∙ get_or-drop (gone xs rest) xs i 0

  pub pair_taken : PairTaken xs rest rest' w
  pair_taken =
      let z : gone xs rest + 0 ≡ gone xs rest = omega arith in
      record {
        next = record { is = rw gone_next (left ∙ ap (λ (l : List ℕ). drop 1 l) r.is ∙ drop-drop 1 (gone xs rest) xs) };
        on = gone_next;
        inside = omega (arith, rest_short xs rest r);
        first = rw z at (at 0 (omega arith));
        second = at 1 (omega arith);
      }

-- a walk that keeps whether a test of pairs held at one; t is what the test answered
module _ {xs rest rest' w : List ℕ} (p : PairTaken xs rest rest' w) (test : ℕ → Bool) (t : Bool) (e : t ≡ test (gone xs rest)) where
  pub pair_seen : (b z : Bool) → (b || some test (gone xs rest) (length xs - 1)) ≡ z → ((b || t) || some test (gone xs rest') (length xs - 1)) ≡ z
  pair_seen b z inv = rw p.on (some_turn test b (b || t) p.inside inv (ap (λ (u : Bool). b || u) e))
