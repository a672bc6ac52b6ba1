-- What the self-check's cases rest on: each comparison answers true where a call gave what the table has. Assumes nothing.
use Rattle.std.proofs.Common.{◌≡◌, ℕ, Bool, true, ◌&&◌, List, [], ◌∷◌, ◌++◌, ap, ◌∙◌, refl, eqb, eq-eqb, length}
use Rattle.std.specs.Prelude.{Float, to_bits}
use Rattle.std.specs.Float.{binary64}
use Rattle.std.specs.List.{starts_with}
use Rattle.std.proofs.lemmas.Slice.Eq.{starts_is}
use Rattle.std.proofs.lemmas.Bool.Decides.{Decides-eqb}
use Rattle.columns.specs.Refusals.{Told}
use Rattle.hall.specs.declared.same.Numbers.{Numbers}
use Rattle.hall.specs.Same.{agree, same_floats, numbers_of}

pub both : {a b : Bool} → a ≡ true → b ≡ true → (a && b) ≡ true
both e f = rw (e, f)

-- r is what `starts_with` answered
pub list_held : (expected rest : List ℕ) {got : List ℕ} {r : Bool} → r ≡ starts_with eqb got expected → got ≡ expected ++ rest → r ≡ true
list_held expected rest {got = got} {r = r} e q = (starts_is Decides-eqb got expected r e).1 rest q

agrees : (xs : List Float) → agree xs xs ≡ true
agrees [] = refl
agrees (x ∷ xs) = both (eq-eqb (to_bits binary64 x) _ refl) (agrees xs)

alike : (xs : List Float) → same_floats xs xs ≡ true
alike xs = both (eq-eqb (length xs) _ refl) (agrees xs)

-- r is what `same_floats` answered
pub floats_held : (expected : List Float) {got : List Float} {r : Bool} → r ≡ same_floats got expected → got ≡ expected → r ≡ true
floats_held expected e q = e ∙ ap (λ (l : List Float). same_floats l expected) q ∙ alike expected

-- two numbers are equal field by field
abbrev pub tells : Numbers → Numbers → Bool
tells n e = eqb n.number e.number && (eqb n.count e.count && (eqb n.first e.first && eqb n.second e.second))

tells_same : (n : Numbers) → tells n n ≡ true
tells_same n = rw (eq-eqb n.number _ refl, eq-eqb n.count _ refl, eq-eqb n.first _ refl, eq-eqb n.second _ refl)

-- r is what `==` answered, n what `from` gave
pub numbers-held : (expected : Told) {n : Numbers} {given : Told} {r : Bool} → r ≡ tells n (numbers_of expected) → n ≡ numbers_of given → given ≡ expected → r ≡ true
numbers-held expected e n q = e ∙ ap (λ (m : Numbers). tells m (numbers_of expected)) (n ∙ ap numbers_of q) ∙ tells_same (numbers_of expected)

-- r is what `is_sum` answered
pub sum-held : (sum : Float) {given : List Float} {r : Bool} → r ≡ same_floats given (sum ∷ []) → given ≡ sum ∷ [] → r ≡ true
sum-held sum e q = floats_held (sum ∷ []) e q
