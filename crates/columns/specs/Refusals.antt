-- To be believed. The numbered answers: what document 01's table says of each case of `Refusal`, and how checks go one after the other. Assumes
-- nothing.
use Rattle.std.specs.Prelude.{◌≡◌, cond, List, [], ◌∷◌, ℕ, eqb, leb, Result, Ok, Err}
use Rattle.columns.specs.declared.refusal.Refusal.{Refusal}
use Rattle.columns.specs.declared.refusal.Refusal.TheVariants.{
  TooBig,
  BadShape,
  BadRow,
  EmptySide,
  BadChunk,
  NoRoom,
  ColumnOutOfRange,
  ColumnTwice,
  ColumnUnclaimed,
  Connected,
  WrongLength,
  BadDamping,
  BadPlan,
  BadSchedule,
}
use Rattle.columns.specs.declared.refusal.Side.{Side}
use Rattle.columns.specs.declared.refusal.Side.TheVariants.{Kept, Eliminated}

-- the number of each refusal
abbrev pub number : Refusal → ℕ
number TooBig = 1
number BadShape = 2
number (BadRow column place) = 3
number (EmptySide side) = 4
number BadChunk = 5
number (NoRoom buffer need) = 6
number (ColumnOutOfRange column) = 7
number (ColumnTwice column) = 8
number (ColumnUnclaimed column) = 9
number (Connected now earlier) = 10
number (WrongLength place need) = 11
number BadDamping = 12
number (BadPlan side) = 13
number (BadSchedule place) = 14

-- the number of each side
abbrev pub side_number : Side → ℕ
side_number Kept = 0
side_number Eliminated = 1

-- what it returns
abbrev pub values : Refusal → List ℕ
values TooBig = []
values BadShape = []
values (BadRow column place) = column ∷ place ∷ []
values (EmptySide side) = side ∷ []
values BadChunk = []
values (NoRoom buffer need) = buffer ∷ need ∷ []
values (ColumnOutOfRange column) = column ∷ []
values (ColumnTwice column) = column ∷ []
values (ColumnUnclaimed column) = column ∷ []
values (Connected now earlier) = now ∷ earlier ∷ []
values (WrongLength place need) = place ∷ need ∷ []
values BadDamping = []
values (BadPlan side) = side ∷ []
values (BadSchedule place) = place ∷ []

-- what a call tells: a number, 0 for done, and the values that go with it. Every promise speaks through this
pub record Told : Type 0 where
  pub number : ℕ
  pub values : List ℕ

abbrev pub tell : ℕ → List ℕ → Told
tell n vs = record { number = n; values = vs }

abbrev pub done : Told
done = tell 0 []

abbrev pub refused : Refusal → Told
refused r = tell (number r) (values r)

-- an answer without values of its own
abbrev pub Answer : Type 0
Answer = Result (Unit {0}) Refusal

abbrev pub told : Answer → Told
told (Ok x) = done
told (Err r) = refused r

-- no refusal
abbrev pub Passes : Told → Type 0
Passes t = t.number ≡ 0

-- x where t is no refusal, else y
unfoldable pub on_pass : {A : Type 0} → Told → A → A → A
on_pass t x y = cond (eqb t.number 0) x y

-- one check after another: the first that fails answers
abbrev pub or_else : Told → Told → Told
or_else a b = on_pass a b a

-- two checks side by side: the refusal with the lower number answers, since document 01's order is that of the numbers
abbrev pub sooner : Told → Told → Told
sooner a b = on_pass a b (on_pass b a (cond (leb a.number b.number) a b))
