-- `hall::cases::case8` meets its contract. Assumes nothing.
use mathlib.Core.Path.{◌∙◌}
use mathlib.Core.List.{[], ◌∷◌}
use lib.Ieee.{of_int, of_bits}
use Rattle.columns.specs.Refusals.{tell}
use Rattle.hall.proofs.HallTable.{hall_table}
use Rattle.hall.proofs.CaseRules.{numbers-held}
use Rattle.hall.proofs.cases.case8.Goals as goal

pub returns : goal.returns
unfolding of_int of_bits
returns c =
    numbers-held (tell 3 (0 ∷ 2 ∷ [])) c.eq.ensures c.from.ensures (c.check_columns.ensures ∙ hall_table.bad_row)
