-- Any two outcomes that the promise of `apply_schur_operator` permits agree. `Post` is the contract's own reading, at the arguments a, the answer and
-- the parameters at exit. Assumes nothing.
use mathlib.Core.Path.{◌≡◌, ap}
use mathlib.Core.List.{List}
use Prim.Native.Nat.{ℕ}
use contract.Lifetimes.{Lfts}
use Rattle.ground.specs.Determined.{Determined}
use Rattle.ground.proofs.DeterminedLaws.{by_equation}
use Rattle.columns.specs.Refusals.{Answer, told}
use Rattle.columns.proofs.RefusalLaws.{answer_of, answer_back}
use Rattle.products.specs.Operator.{Work, Operated}
use Rattle.product_laws.proofs.CallParts.{operator_map_left, operator_work_left}
use Rattle.products.proofs.operator.apply_schur_operator.Reads as operator

operated_determined : (w : Operated) → Determined (λ (o : Answer × List ℕ × Work). record { told = told o.0; map = o.1; work = o.2 } ≡ w)
operated_determined =
    by_equation (λ (o : Answer × List ℕ × Work). record { told = told o.0; map = o.1; work = o.2 }) (λ (w : Operated). (answer_of w.told, w.map, w.work))
    (λ o. ap (λ (a : Answer). (a, o.1, o.2)) (answer_back o.0))

pub apply_schur_operator : (κs : Lfts 12) (a : _) (s t : _) (p q : Answer) → operator.Post κs a p s → operator.Post κs a q t → ◌≡◌ {A = Answer × List ℕ × Work} (p, operator_map_left κs s, operator_work_left κs s) (q, operator_map_left κs t, operator_work_left κs t)
apply_schur_operator κs a s t p q = operated_determined _ (p, operator_map_left κs s, operator_work_left κs s) (q, operator_map_left κs t, operator_work_left κs t)
