-- To be believed. The products of jacobian_ops.rs: their terms, and what each call answers and leaves. Assumes nothing.
use Rattle.std.specs.Prelude.{cond, ◌&&◌, List, [], ◌∷◌, ℕ, eqb, leb, length, get_or, replicate, Float, Result, Ok, Err}
use Rattle.std.specs.Float.{nan}
use Rattle.std.specs.Float.Ieee.{eq}
use Rattle.ground.specs.Gather.{gather, list_of}
use Rattle.columns.specs.declared.refusal.Refusal.{Refusal}
use Rattle.columns.specs.declared.unchecked.Sign.TheVariants.{Plus}
use Rattle.columns.specs.Refusals.{Told, tell, done, refused, on_pass, or_else}
use Rattle.columns.specs.Lengths.{wrong_length}
use Rattle.columns.specs.Columns.{Columns, column_count, first_in, end_in, first_place, end_place, checked}
use Rattle.columns.specs.Sums.{zero₊, zero₋, Term, term, sum_from, RowTerm, swept_on}

-- ---- terms

-- a gather's term at place p: the value there and what the vector holds at its row. None is skipped
unfoldable pub entry_term : List ℕ → List Float → List Float → ℕ → List Term
entry_term rows values y p = term (get_or values p nan) (get_or y (get_or rows p 0) nan) ∷ []

abbrev pub gather_terms : Columns → List Float → ℕ → List Term
gather_terms m y j = gather (entry_term m.rows m.values y) (first_place m j) (end_place m j)

-- the value at place p with itself
unfoldable pub square_term : List Float → ℕ → List Term
square_term values p = term (get_or values p nan) (get_or values p nan) ∷ []

abbrev pub square_terms : List ℕ → List Float → ℕ → List Term
square_terms ptrs values j = gather (square_term values) (first_in ptrs j) (end_in ptrs j)

-- a sweep's term at place p, for its row, where x is the vector's entry
unfoldable pub landing : List ℕ → List Float → Float → ℕ → List RowTerm
landing rows values x p = record { row = get_or rows p 0; term = term (get_or values p nan) x } ∷ []

-- those of places lo up to hi: none where x equals 0.0, of either sign. A NaN x is not skipped
unfoldable pub landings : List ℕ → List Float → Float → ℕ → ℕ → List RowTerm
landings rows values x lo hi = cond (eq x zero₊) [] (gather (landing rows values x) lo hi)

abbrev pub sweep_terms : Columns → Float → ℕ → List RowTerm
sweep_terms m x j = landings m.rows m.values x (first_place m j) (end_place m j)

-- all columns ascending, v being the vector
abbrev pub all_terms : Columns → List Float → List RowTerm
all_terms m v = gather (λ j. sweep_terms m (get_or v j nan) j) 0 (column_count m)

-- the entries at places p and q, where both lie in row r
unfoldable pub common_term : List ℕ → List Float → ℕ → ℕ → ℕ → List Term
common_term rows values r p q =
    cond (eqb (get_or rows p 0) r && eqb (get_or rows q 0) r) (term (get_or values p nan) (get_or values q nan) ∷ []) []

-- row by row, ascending, the products of entries from place p of one column and from place q of another, that end at e and f
unfoldable pub common_terms : ℕ → List ℕ → List Float → ℕ → ℕ → ℕ → ℕ → List Term
common_terms nrows rows values p e q f = gather (λ r. gather (λ i. gather (common_term rows values r i) q f) p e) 0 nrows

-- the products at the common rows of columns a and b
abbrev pub dot_terms : Columns → ℕ → ℕ → List Term
dot_terms m a b = common_terms m.nrows m.rows m.values (first_place m a) (end_place m a) (first_place m b) (end_place m b)

-- ---- sums

abbrev pub dot_of : Columns → ℕ → ℕ → Float
dot_of m a b = sum_from zero₊ (dot_terms m a b)

-- `Iterator::sum` starts at -0.0
abbrev pub gathered : Columns → List Float → ℕ → Float
gathered m y j = sum_from zero₋ (gather_terms m y j)

abbrev pub squared_in : List ℕ → List Float → ℕ → Float
squared_in ptrs values j = sum_from zero₋ (square_terms ptrs values j)

abbrev pub squared : Columns → ℕ → Float
squared m j = squared_in m.ptrs m.values j

-- rows from +0.0, and the sweep over all columns
abbrev pub swept_rows : Columns → List Float → List Float
swept_rows m v = swept_on Plus (replicate m.nrows zero₊) (all_terms m v)

-- ---- calls

-- the answer of `column_dot`: the sum with 0, or the refusal
pub record Dotted : Type 0 where
  pub told : Told
  pub sums : List Float

abbrev pub dotted : Result Float Refusal → Dotted
dotted (Ok x) = record { told = done; sums = x ∷ [] }
dotted (Err r) = record { told = refused r; sums = [] }

-- 7: the column does not exist
unfoldable pub no_column : ℕ → ℕ → Told
no_column ncolumns j = cond (leb ncolumns j) (tell 7 (j ∷ [])) done

abbrev pub dot_checked : Columns → ℕ → ℕ → Told
dot_checked m a b = or_else (checked m) (or_else (no_column (column_count m) a) (no_column (column_count m) b))

unfoldable pub column_dot : Columns → ℕ → ℕ → Dotted
column_dot m a b = record { told = dot_checked m a b; sums = on_pass (dot_checked m a b) (dot_of m a b ∷ []) [] }

-- what a call tells, and what it leaves in the buffer that it is lent; a refused call changes nothing
pub record Left : Type 0 where
  pub told : Told
  pub out : List Float

abbrev pub jt_vec_checked : Columns → List Float → List Float → Told
jt_vec_checked m v out = or_else (checked m) (wrong_length (length v ∷ m.nrows ∷ length out ∷ column_count m ∷ []))

unfoldable pub jt_vec : Columns → List Float → List Float → Left
jt_vec m v out = record {
  told = jt_vec_checked m v out;
  out = on_pass (jt_vec_checked m v out) (list_of (gathered m v) (column_count m)) out;
}

abbrev pub diag_checked : Columns → List Float → Told
diag_checked m out = or_else (checked m) (wrong_length (length out ∷ column_count m ∷ []))

unfoldable pub diag_jt_j : Columns → List Float → Left
diag_jt_j m out = record {
  told = diag_checked m out;
  out = on_pass (diag_checked m out) (list_of (squared m) (column_count m)) out;
}

-- with the rows of the product, which end as the sweep leaves them
pub record LeftRows : Type 0 where
  pub told : Told
  pub jv : List Float
  pub out : List Float

abbrev pub product_checked : Columns → List Float → List Float → List Float → Told
product_checked m v jv out =
    or_else (checked m) (wrong_length (length v ∷ column_count m ∷ length jv ∷ m.nrows ∷ length out ∷ column_count m ∷ []))

unfoldable pub jt_j_vec_product : Columns → List Float → List Float → List Float → LeftRows
jt_j_vec_product m v jv out = record {
  told = product_checked m v jv out;
  jv = on_pass (product_checked m v jv out) (swept_rows m v) jv;
  out = on_pass (product_checked m v jv out) (list_of (gathered m (swept_rows m v)) (column_count m)) out;
}
