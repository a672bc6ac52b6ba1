-- `columns::unchecked::gather_column` meets its contract. Assumes nothing.
use Rattle.std.proofs.Common.{refl}
use Rattle.columns.proofs.CheckLaws.{column-run, entries_fit}
use Rattle.columns.proofs.Rules.{rules}
use Rattle.columns.proofs.unchecked.gather_column.Goals as goal

pub gather_entries-requires : goal.gather_entries-requires
gather_entries-requires c =
    let keeps = c.requires.keeps in
    let there = c.requires.there in
    rw (c.first_place-lo.ensures, c.end_place-hi.ensures)
    (record { run = column-run keeps.shaped _ there; fit = entries_fit keeps there refl; paired = keeps.shaped.paired })
