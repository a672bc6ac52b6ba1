-- Flat lists with their starts hang on nothing but the lists themselves. Assumes nothing.
use mathlib.Core.Path.{◌≡◌, ap}
use mathlib.Core.List.{List}
use Prim.Native.Nat.{ℕ, ◌+◌, ◌<◌}
use native.Mathlib.Omega.{arith}
use lib.ListN.{length}
use Rattle.ground.proofs.GatherLaws.{gather_same}
use Rattle.ground.proofs.ListLaws.{list_of_same}
use Rattle.plan.specs.Lists.{flat, starts_of, listed}
use Rattle.plan.specs.Spans.{Span, Spread, spread}

module _ {X : Type 0} (f g : ℕ → List X) (n : ℕ) (e : (b : ℕ) → b < n → f b ≡ g b) where
  pub flat_same : flat f n ≡ flat g n
  flat_same = gather_same f g 0 n (λ b _ h. e b h)

  pub starts_same : starts_of f n ≡ starts_of g n
  starts_same = list_of_same 0 _ _ (n + 1) (λ b h. ap length (gather_same f g 0 b (λ k _ l. e k (omega arith))))

pub listed_same : (f g : ℕ → List ℕ) (n : ℕ) → ((b : ℕ) → b < n → f b ≡ g b) → (list starts : List ℕ) → listed f n list starts ≡ listed g n list starts
unfolding listed
listed_same f g n e list starts = rw (flat_same f g n e, starts_same f g n e)

pub spread_same : (f g : ℕ → List Span) (n : ℕ) → ((c : ℕ) → c < n → f c ≡ g c) → (s : Spread) → spread f n s ≡ spread g n s
unfolding spread
spread_same f g n e s = rw (flat_same f g n e, starts_same f g n e)
