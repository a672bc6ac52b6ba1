-- What a call of `step` or `sweep` comes to, by how far it gets, from what the functions that it calls promise. Assumes nothing.
use Rattle.std.proofs.Common.{◌≡◌, ℕ, zero, suc, ◌+◌, ◌<◌, ◌≤◌, Bool, true, false, cond, not, List, [], ◌∷◌, length, get_or, set, replicate, sym, refl, ap, ◌∙◌, le_antisymm, add-one, arith, rules, ltb-false}
use native.Mathlib.Decide.{ℕ_discrete}
use lib.ListN.{length-replicate}
use lib.Ieee.{Float}
use borrow.Author.Tests.{not-false}
use Rattle.ground.specs.First.{some, None}
use Rattle.ground.specs.Gather.{gather, list_of}
use Rattle.ground.proofs.FirstLaws.{past_none}
use Rattle.ground.proofs.ListLaws.{list_of_same}
use Rattle.columns.specs.declared.refusal.Refusal.{Refusal}
use Rattle.columns.specs.Refusals.{Answer}
use Rattle.std.specs.Prelude.{Ok, Err}
use Rattle.columns.specs.declared.unchecked.Sign.{Sign}
use Rattle.columns.specs.Refusals.{Told, tell, done, refused, told, Passes, on_pass, or_else}
use Rattle.columns.specs.Lengths.{wrong_length}
use Rattle.columns.specs.Columns.{Columns, column_count}
use Rattle.columns.specs.Sums.{zero₊, swept_on}
use Rattle.columns.proofs.RefusalLaws.{pass_refused, pass_done, passed, or_refused, or_done, or_assoc}
use Rattle.blocks.specs.Sides.{side_of}
use Rattle.blocks.specs.Claims.{late_blocks, marked, Mapped}
use Rattle.plan.specs.Spans.{chunk_count_of, Spread}
use Rattle.products.specs.Orders.{span_count, span_terms, served, has_next, place_bad, chunk_left, bad_plan, bad_order, order_terms, sign_of, early_chunked, sweep_lengths, sweep_told, step_order, step_of, start_rows, sweep_of}
use Rattle.products.specs.OrderWalk.{entries_only, starts_only, counts, Tested, tested_order, Work, work, stepped, place_terms, ran_to, ran_order, StartsFit, PlanFits, StepFits, RunFits}
use Rattle.products.specs.SweepCheck.{chunked_left, checks_told, check_sweep}
use Rattle.products.proofs.OrderRules.{served_named, served-other, next-there}
use Rattle.products.proofs.SweepRules.{left-done, mark-left, all_pass, checked-progress, checked-plan}

-- ---- plans of which the starts alone count

pub next_same : (n : ℕ) (s : Spread) (c d : ℕ) → has_next n (starts_only s.starts) c d ≡ has_next n s c d
unfolding has_next span_count
next_same n s c d = refl

bad_same : (n : ℕ) (s : Spread) (order : List ℕ) → bad_order n (starts_only s.starts) order ≡ bad_order n s order
unfolding bad_order place_bad chunk_left has_next span_count
bad_same n s order = refl

-- ---- an order that is not bad

module _ (n : ℕ) (s : Spread) (order : List ℕ) (good : bad_order n s order ≡ done) where
  abbrev parts : (some (place_bad n s order) 0 (length order) ≡ false) × Passes (cond (some (chunk_left s order) 0 n) (tell 14 (length order ∷ [])) done)
  unfolding bad_order
  parts = passed (some (place_bad n s order) 0 (length order)) 13 _ _ (ap (λ (t : Told). t.number) good)

  pub places-good : None (place_bad n s order) 0 (length order)
  places-good = past_none (place_bad n s order) 0 (length order) parts.0

  -- at each place the named chunk exists and has a span left
  pub place-next : (i : ℕ) → i < length order → has_next n s (get_or order i 0) (served order (get_or order i 0) i) ≡ true
  unfolding place_bad
  place-next i h = not-false _ (places-good i (omega arith) h)

  served_most : (c i : ℕ) → i ≤ length order → served order c i ≤ span_count s c
  unfolding served
  served_most c zero h = omega arith
  served_most c (suc i) h = go (ℕ_discrete (get_or order i 0) c) (served_most c i (omega arith))
    where
      e : i + 1 ≡ suc i
      e = add-one i

      go : Dec (get_or order i 0 ≡ c) → served order c i ≤ span_count s c → served order c (suc i) ≤ span_count s c
      go (yes q) ih =
          let u : served order c (suc i) ≡ served order c i + 1 = rw e at (served_named order c i (sym q)) in
          let w = (next-there n s (get_or order i 0) (served order (get_or order i 0) i) true (sym (place-next i (omega arith))) refl).1 in
          rw u (omega (arith, rw q at w))
      go (no q) ih = let u : served order c (suc i) ≡ served order c i = rw e at (served-other order c i q) in rw u ih

  -- at the end each chunk has been named as often as it has spans
  pub served_all : (c : ℕ) → c < n → served order c (length order) ≡ span_count s c
  unfolding chunk_left
  served_all c h =
      let q = past_none (chunk_left s order) 0 n (passed (some (chunk_left s order) 0 n) 13 (length order ∷ []) done parts.1).0 c (omega arith) h in
      le_antisymm (served_most c (length order) (omega arith)) (ltb-false _ _ q)

  pub counts_all : counts n order (length order) ≡ list_of (span_count s) n
  counts_all = list_of_same 0 (λ c. served order c (length order)) (span_count s) n served_all

-- ---- what the checks say of the call

module _ (e : Bool) (m : Columns) (kept elims : List ℕ) (len : ℕ) (map : List ℕ) (v : List Float) (s : Spread) (y : List Float) (p : List ℕ) where
  abbrev checks : Told
  checks = checks_told e m kept elims len map (length v) s (length y) (length p)

  pub told_is : (rest : Told) → sweep_told e m kept elims len map v s y p rest ≡ or_else checks rest
  told_is rest =
      let a = early_chunked m kept elims len map in
      let b = late_blocks m kept elims in
      let w = wrong_length (sweep_lengths m (side_of e kept elims) len v s y p) in
      let q = bad_plan e m (side_of e kept elims) len s in
      sym
      (or_assoc a (or_else b (or_else w q)) rest
      ∙ ap (λ (t : Told). or_else a t) (or_assoc b (or_else w q) rest ∙ ap (λ (t : Told). or_else b t) (or_assoc w q rest)))

  -- t is what `check_sweep` answered, and map' the map that it left
  module _ (t : Answer) (map' : List ℕ) (call : record { told = told t; map = map' } ≡ check_sweep e m kept elims len map (length v) s (length y) (length p)) where
    checks_are : checks ≡ told t
    unfolding check_sweep
    checks_are = sym (ap (λ (w : Mapped). w.told) call)

    map_is : map' ≡ chunked_left (told t) m kept elims len map
    unfolding check_sweep
    map_is = ap (λ (w : Mapped). w.map) call ∙ rw checks_are

    stops : (r : Refusal) → t ≡ Err r → (rest : Told) → sweep_told e m kept elims len map v s y p rest ≡ refused r
    stops r d rest = told_is rest ∙ rw (checks_are, d) (or_refused r rest)

    pub step_refused : (c : ℕ) (r : Refusal) → t ≡ Err r → record { told = refused r; map = map'; rows = y; progress = p } ≡ step_of e m kept elims len map v s y p c
    unfolding step_of
    step_refused c r d =
        rw (
          stops r d (step_order (chunk_count_of m.nrows len) s c p),
          pass_refused r (swept_on (sign_of e) y (span_terms m s v (get_or s.starts c 0 + get_or p c 0))) y,
          pass_refused r (set p c (get_or p c 0 + 1)) p,
        )
        (ap (λ (l : List ℕ). record { told = refused r; map = l; rows = y; progress = p }) (map_is ∙ rw d))

    pub sweep_refused : (order : List ℕ) (r : Refusal) → t ≡ Err r → record { told = refused r; map = map'; rows = y; progress = p } ≡ sweep_of e m kept elims len map v s y p order
    unfolding sweep_of
    sweep_refused order r d =
        rw (
          stops r d (bad_order (chunk_count_of m.nrows len) s order),
          stops r d done,
          pass_refused r (swept_on (sign_of e) (start_rows e y) (order_terms m s v order)) y,
          pass_refused r
              (on_pass (bad_order (chunk_count_of m.nrows len) s order) (list_of (span_count s) (chunk_count_of m.nrows len)) (replicate (chunk_count_of m.nrows len) 0))
              p,
        )
        (ap (λ (l : List ℕ). record { told = refused r; map = l; rows = y; progress = p }) (map_is ∙ rw d))

    module _ (d : t ≡ Ok tt) where
      checks_done : checks ≡ done
      checks_done = checks_are ∙ ap told d

      checks_pass : Passes checks
      checks_pass = ap (λ (t : Told). t.number) checks_done

      early : Passes (early_chunked m kept elims len map)
      early = (all_pass e m kept elims len map (length v) s (length y) (length p) checks_pass).0

      goes : (rest : Told) → sweep_told e m kept elims len map v s y p rest ≡ rest
      goes rest = told_is rest ∙ rw checks_done (or_done rest)

      size : length p ≡ chunk_count_of m.nrows len
      size = checked-progress e m kept elims len map (length v) s (length y) (length p) checks_pass

      filled : map' ≡ chunked_left done m kept elims len map
      filled = map_is ∙ rw d

      marks-left : (r : Refusal) (k : ℕ) (map₂ : List ℕ) → k ≡ column_count m → map₂ ≡ marked k map' → map₂ ≡ chunked_left (refused r) m kept elims len map
      marks-left r k map₂ = mark-left m kept elims len map early map' (filled ∙ left-done m kept elims len map early) r k map₂

      pub plan-fits : PlanFits m.rows (length m.values) (length v) (length y) s (length p)
      plan-fits = checked-plan e m kept elims len map (length v) s (length y) (length p) checks_pass

      pub starts_fit : StartsFit (length s.starts) (length p)
      starts_fit = plan-fits.starts

      -- ---- a step: h is what was told of its chunk

      module _ (c : ℕ) (h : Bool) (next : h ≡ has_next (length p) (starts_only s.starts) c (get_or p c 0)) where
        next-is : has_next (chunk_count_of m.nrows len) s c (get_or p c 0) ≡ h
        next-is = sym (next ∙ next_same (length p) s c (get_or p c 0) ∙ ap (λ (n : ℕ). has_next n s c (get_or p c 0)) size)

        pub step_none : (r : Refusal) (k : ℕ) (map₂ : List ℕ) → not h ≡ true → refused r ≡ tell 14 (0 ∷ []) → k ≡ column_count m → map₂ ≡ marked k map'
            → record { told = tell 14 (0 ∷ []); map = map₂; rows = y; progress = p } ≡ step_of e m kept elims len map v s y p c
        unfolding step_of step_order
        step_none r k map₂ q z a b =
            let f : h ≡ false = go h q in
            let u : sweep_told e m kept elims len map v s y p (step_order (chunk_count_of m.nrows len) s c p) ≡ refused r = goes _ ∙ rw (next-is, f) (sym z) in
            rw (
              u,
              pass_refused r (swept_on (sign_of e) y (span_terms m s v (get_or s.starts c 0 + get_or p c 0))) y,
              pass_refused r (set p c (get_or p c 0 + 1)) p,
            )
            (ap (λ (w : Told × List ℕ). record { told = w.0; map = w.1; rows = y; progress = p }) (cc (z, marks-left r k map₂ a b)))
          where
            go : (b : Bool) → not b ≡ true → b ≡ false
            go true z = let w : ◌≡◌ {A = ℕ} 0 1 = cc z in absurd (omega arith)
            go false z = refl

        module _ (q : not h ≡ false) where
          pub step_fits : StepFits m.rows (length m.values) (length v) (length y) s p c
          step_fits = record { plan = plan-fits; next = sym (next ∙ next_same (length p) s c (get_or p c 0)) ∙ not-false h q }

          pub step_does : (sign : Sign) (y' : List Float) (p' : List ℕ) → sign ≡ sign_of e → work y' p' ≡ stepped sign (entries_only m.rows m.values) s v c (work y p)
              → record { told = done; map = map'; rows = y'; progress = p' } ≡ step_of e m kept elims len map v s y p c
          unfolding step_of step_order stepped span_terms
          step_does sign y' p' a b =
              let u : sweep_told e m kept elims len map v s y p (step_order (chunk_count_of m.nrows len) s c p) ≡ done = goes _ ∙ rw (next-is, not-false h q) in
              let x = ap (λ (w : Work). w.rows) b in
              let z = ap (λ (w : Work). w.progress) b in
              rw (
                u,
                pass_done done (swept_on (sign_of e) y (span_terms m s v (get_or s.starts c 0 + get_or p c 0))) y refl,
                pass_done done (set p c (get_or p c 0 + 1)) p refl,
                x,
                z,
                a,
              )
              (ap (λ (l : List ℕ). record { told = done; map = l; rows = swept_on (sign_of e) y (span_terms m s v (get_or s.starts c 0 + get_or p c 0)); progress = set p c (get_or p c 0 + 1) }) filled)

      -- ---- a sweep: o is what was told of its order, and p₁ the progress that its test left

      module _ (order : List ℕ) (o : Answer) (p₁ : List ℕ) (test : record { told = told o; progress = p₁ } ≡ tested_order (length p) (starts_only s.starts) order) where
        bad_is : bad_order (chunk_count_of m.nrows len) s order ≡ told o
        unfolding tested_order
        bad_is = sym (ap (λ (w : Tested). w.told) test ∙ bad_same (length p) s order ∙ ap (λ (n : ℕ). bad_order n s order) size)

        zeros_are : p₁ ≡ replicate (length p) 0
        unfolding tested_order
        zeros_are = ap (λ (w : Tested). w.progress) test

        pub sweep_bad : (r : Refusal) (k : ℕ) (map₂ : List ℕ) → o ≡ Err r → k ≡ column_count m → map₂ ≡ marked k map'
            → record { told = refused r; map = map₂; rows = y; progress = p₁ } ≡ sweep_of e m kept elims len map v s y p order
        unfolding sweep_of
        sweep_bad r k map₂ q a b =
            let f : bad_order (chunk_count_of m.nrows len) s order ≡ refused r = bad_is ∙ ap told q in
            let z : p₁ ≡ replicate (chunk_count_of m.nrows len) 0 = zeros_are ∙ ap (λ (n : ℕ). replicate n 0) size in
            rw (
              goes (bad_order (chunk_count_of m.nrows len) s order),
              goes done,
              f,
              pass_refused r (swept_on (sign_of e) (start_rows e y) (order_terms m s v order)) y,
              pass_done done (on_pass (refused r) (list_of (span_count s) (chunk_count_of m.nrows len)) (replicate (chunk_count_of m.nrows len) 0)) p refl,
              pass_refused r (list_of (span_count s) (chunk_count_of m.nrows len)) (replicate (chunk_count_of m.nrows len) 0),
              z,
            )
            (ap (λ (l : List ℕ). record { told = refused r; map = l; rows = y; progress = replicate (chunk_count_of m.nrows len) 0 }) (marks-left r k map₂ a b))

        module _ (q : o ≡ Ok tt) where
          order-good : bad_order (length p) s order ≡ done
          order-good = ap (λ (n : ℕ). bad_order n s order) size ∙ bad_is ∙ ap told q

          p₁_size : length p₁ ≡ length p
          p₁_size = ap length zeros_are ∙ length-replicate (length p) 0

          pub sweep_fits : (y₁ : List Float) → y₁ ≡ start_rows e y → RunFits m.rows (length m.values) (length v) (length y₁) s p₁ order
          sweep_fits y₁ a =
              let k : length y₁ ≡ length y = ap length a ∙ start_length e in
              record {
                plan = rw (k, p₁_size) plan-fits;
                zeros = rw p₁_size zeros_are;
                good = rw p₁_size (places-good (length p) s order order-good);
              }
            where
              start_length : (b : Bool) → length (start_rows b y) ≡ length y
              start_length true = refl
              start_length false = length-replicate (length y) zero₊

          terms_are : gather (place_terms (entries_only m.rows m.values) s v order) 0 (length order) ≡ order_terms m s v order
          unfolding order_terms place_terms span_terms
          terms_are = refl

          pub sweep_does : (y₁ y₂ : List Float) (p₂ : List ℕ) (sign : Sign) → y₁ ≡ start_rows e y → sign ≡ sign_of e
              → work y₂ p₂ ≡ ran_order sign (entries_only m.rows m.values) s v order (work y₁ p₁)
              → record { told = done; map = map'; rows = y₂; progress = p₂ } ≡ sweep_of e m kept elims len map v s y p order
          unfolding sweep_of ran_to
          sweep_does y₁ y₂ p₂ sign a b w =
              let f : bad_order (chunk_count_of m.nrows len) s order ≡ done = bad_is ∙ ap told q in
              let x : y₂ ≡ swept_on (sign_of e) (start_rows e y) (order_terms m s v order) = ap (λ (w : Work). w.rows) w ∙ rw (a, b, terms_are) in
              let z : p₂ ≡ list_of (span_count s) (chunk_count_of m.nrows len) =
              ap (λ (w : Work). w.progress) w ∙ ap (λ (n : ℕ). counts n order (length order)) p₁_size ∙ counts_all (length p) s order order-good ∙ ap (λ (n : ℕ). list_of (span_count s) n) size in
              rw (
                goes (bad_order (chunk_count_of m.nrows len) s order),
                goes done,
                f,
                pass_done done (swept_on (sign_of e) (start_rows e y) (order_terms m s v order)) y refl,
                pass_done done (on_pass done (list_of (span_count s) (chunk_count_of m.nrows len)) (replicate (chunk_count_of m.nrows len) 0)) p refl,
                pass_done done (list_of (span_count s) (chunk_count_of m.nrows len)) (replicate (chunk_count_of m.nrows len) 0) refl,
                x,
                z,
              )
              (ap (λ (l : List ℕ). record { told = done; map = l; rows = swept_on (sign_of e) (start_rows e y) (order_terms m s v order); progress = list_of (span_count s) (chunk_count_of m.nrows len) }) filled)

pub ruleset calling = (rules, starts_fit)
