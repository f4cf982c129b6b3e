use Rattle.std.proofs.Common.{rules}
use Rattle.command_line.proofs.SelectedWords.{table_wrong}
use Rattle.command_line.proofs.words.selected.selection_of.Goals as goal

pub returns-in-Columns-clause-misread : goal.returns-in-Columns-clause-misread
returns-in-Columns-clause-misread c =
    rw c.in-Columns.is
    (table_wrong c.columns_selection.result _ c.absent_of-absent.result _ _ _ c.absent_of-absent.ensures c.word.ensures
    c.word-in-Columns.ensures (search rules) c.columns_selection.ensures.misread)
