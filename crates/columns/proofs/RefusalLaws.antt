-- What the numbers of refusals are worth: none is 0, so a call that tells 0 was not refused; and an answer can be had back from what it tells,
-- so a promise about what a call tells determines its answer. Assumes nothing.
use mathlib.Core.Path.{◌≡◌, refl, ap, sym}
use mathlib.Core.Bool.{Bool, true, false, cond}
use mathlib.Core.List.{List}
use Prim.Native.Nat.{ℕ, suc, ◌≤◌, ◌<◌}
use native.Mathlib.Omega.{arith}
use lib.Dec.{eqb, leb}
use lib.ListN.{get_or}
use borrow.Author.Tests.{eq-eqb, eqb-true, eqb-false, le-leb, lt-leb}
use Rattle.ground.specs.Determined.{Determined}
use Rattle.ground.proofs.DeterminedLaws.{by_equation}
use Rattle.columns.specs.declared.refusal.Refusal.{Refusal}
use Rattle.columns.specs.declared.refusal.Refusal.TheVariants.{
  TooBig,
  BadShape,
  BadRow,
  EmptySide,
  BadChunk,
  NoRoom,
  ColumnOutOfRange,
  ColumnTwice,
  ColumnUnclaimed,
  Connected,
  WrongLength,
  BadDamping,
  BadPlan,
  BadSchedule,
}
use Rattle.std.specs.Prelude.{Ok, Err}
use Rattle.std.specs.Result.{result_and}
use Rattle.columns.specs.Refusals.{Answer, number, Told, tell, done, refused, told, Passes, on_pass, or_else, sooner}

-- ---- the refusal of a number and values

unfoldable pub refusal_by : ℕ → List ℕ → Refusal
refusal_by n vs =
    cond (eqb n 1) (TooBig)
    (cond (eqb n 2) (BadShape)
    (cond (eqb n 3) (BadRow (get_or vs 0 0) (get_or vs 1 0))
    (cond (eqb n 4) (EmptySide (get_or vs 0 0))
    (cond (eqb n 5) (BadChunk)
    (cond (eqb n 6) (NoRoom (get_or vs 0 0) (get_or vs 1 0))
    (cond (eqb n 7) (ColumnOutOfRange (get_or vs 0 0))
    (cond (eqb n 8) (ColumnTwice (get_or vs 0 0))
    (cond (eqb n 9) (ColumnUnclaimed (get_or vs 0 0))
    (cond (eqb n 10) (Connected (get_or vs 0 0) (get_or vs 1 0))
    (cond (eqb n 11) (WrongLength (get_or vs 0 0) (get_or vs 1 0))
    (cond (eqb n 12) (BadDamping)
    (cond (eqb n 13) (BadPlan (get_or vs 0 0))
    (BadSchedule (get_or vs 0 0))))))))))))))

unfoldable pub refusal_of : Told → Refusal
refusal_of t = refusal_by t.number t.values

pub refusal_back : (r : Refusal) → refusal_of (refused r) ≡ r
unfolding refusal_of refusal_by
refusal_back TooBig = refl
refusal_back BadShape = refl
refusal_back (BadRow column place) = refl
refusal_back (EmptySide side) = refl
refusal_back BadChunk = refl
refusal_back (NoRoom buffer need) = refl
refusal_back (ColumnOutOfRange column) = refl
refusal_back (ColumnTwice column) = refl
refusal_back (ColumnUnclaimed column) = refl
refusal_back (Connected now earlier) = refl
refusal_back (WrongLength place need) = refl
refusal_back BadDamping = refl
refusal_back (BadPlan side) = refl
refusal_back (BadSchedule place) = refl

-- no refusal has the number 0
pub number-some : (r : Refusal) → eqb (number r) 0 ≡ false
number-some TooBig = refl
number-some BadShape = refl
number-some (BadRow column place) = refl
number-some (EmptySide side) = refl
number-some BadChunk = refl
number-some (NoRoom buffer need) = refl
number-some (ColumnOutOfRange column) = refl
number-some (ColumnTwice column) = refl
number-some (ColumnUnclaimed column) = refl
number-some (Connected now earlier) = refl
number-some (WrongLength place need) = refl
number-some BadDamping = refl
number-some (BadPlan side) = refl
number-some (BadSchedule place) = refl

-- ---- the answer of what is told

unfoldable pub answer_of : Told → Answer
answer_of t = cond (eqb t.number 0) (Ok tt) (Err (refusal_of t))

pub answer_back : (a : Answer) → answer_of (told a) ≡ a
unfolding answer_of
answer_back (Ok x) = refl
answer_back (Err r) = rw (number-some r) (ap (λ (s : Refusal). Err s) (refusal_back r))

pub told_determined : (t : Told) → Determined (λ (a : Answer). told a ≡ t)
told_determined = by_equation told answer_of answer_back

-- ---- passing

pub pass_done : {A : Type 0} (t : Told) (x y : A) → Passes t → on_pass t x y ≡ x
unfolding on_pass
pass_done t x y e = rw (eq-eqb _ _ e)

pub pass_refused : {A : Type 0} (r : Refusal) (x y : A) → on_pass (refused r) x y ≡ y
unfolding on_pass
pass_refused r x y = rw (number-some r)

-- a check that passes: its test failed, and what comes after passes
pub passed : (bad : Bool) (n : ℕ) (vs : List ℕ) (rest : Told) → Passes (cond bad (tell (suc n) vs) rest) → (bad ≡ false) × Passes rest
passed true n vs rest e = absurd (omega arith)
passed false n vs rest e = (refl, e)

-- both of two checks pass where one after the other does
pub both_pass : (a b : Told) → Passes (or_else a b) → Passes a × Passes b
unfolding on_pass
both_pass a b e = go (eqb a.number 0) refl e
  where
    go : (d : Bool) → eqb a.number 0 ≡ d → Passes (cond d b a) → Passes a × Passes b
    go true f e = (eqb-true _ _ f, e)
    go false f e = absurd (eqb-false _ _ f e)

-- ---- `or_else`

pub or_refused : (r : Refusal) (t : Told) → or_else (refused r) t ≡ refused r
or_refused r t = pass_refused r t (refused r)

pub or_done : (t : Told) → or_else done t ≡ t
or_done t = pass_done done t done refl

pub or_assoc : (a b c : Told) → or_else (or_else a b) c ≡ or_else a (or_else b c)
unfolding on_pass
or_assoc a b c = go (eqb a.number 0) refl
  where
    go : (d : Bool) → eqb a.number 0 ≡ d → cond (eqb (cond d b a).number 0) c (cond d b a) ≡ cond d (cond (eqb b.number 0) c b) a
    go true e = refl
    go false e = rw e

-- `Result::and` is one after the other
pub and_told : (a b : Answer) → told (result_and a b) ≡ or_else (told a) (told b)
unfolding on_pass
and_told (Ok x) b = refl
and_told (Err r) b = sym (or_refused r (told b))

-- ---- `sooner`

pub sooner_second : (t : Told) → t ≡ sooner done t
unfolding on_pass
sooner_second t = refl

pub sooner_first : (r : Refusal) → refused r ≡ sooner (refused r) done
unfolding on_pass
sooner_first r = rw (number-some r)

module _ (r s : Refusal) where
  pub sooner_lower : number r ≤ number s → refused r ≡ sooner (refused r) (refused s)
  unfolding on_pass
  sooner_lower l = rw (number-some r, number-some s, le-leb (number r) (number s) l)

  pub sooner_higher : number s < number r → refused s ≡ sooner (refused r) (refused s)
  unfolding on_pass
  sooner_higher l = rw (number-some r, number-some s, lt-leb (number r) (number s) l)

-- both of two checks pass where the sooner refusal is none
pub sooner_pass : (a b : Told) → Passes (sooner a b) → Passes a × Passes b
unfolding on_pass
sooner_pass a b e = go (eqb a.number 0) refl (eqb b.number 0) refl (leb a.number b.number) e
  where
    go : (d : Bool) → eqb a.number 0 ≡ d → (f : Bool) → eqb b.number 0 ≡ f → (g : Bool) → Passes (cond d b (cond f a (cond g a b))) → Passes a × Passes b
    go true p f q g e = (eqb-true _ _ p, e)
    go false p true q g e = absurd (eqb-false _ _ p e)
    go false p false q true e = absurd (eqb-false _ _ p e)
    go false p false q false e = absurd (eqb-false _ _ q e)
