use Rattle.command_line.specs.Misread.Misplaced.{each_nowhere, find_nowhere, records_nowhere}
use Rattle.command_line.specs.Misread.Misread.{each_wrong, find_wrong, records_wrong}
use Rattle.command_line.proofs.Misreads.{fails_more}
use Rattle.command_line.proofs.words.read_command.Goals as goal

pub returns-in-each-clause-misread : goal.returns-in-each-clause-misread
returns-in-each-clause-misread c = fails_more c.read_each.result _ _ _ _ (λ wrong. each_wrong c.in-each.is wrong)
    (λ wrong. each_nowhere c.in-each.is wrong) c.read_each.ensures.misread

pub returns-in-records-clause-misread : goal.returns-in-records-clause-misread
returns-in-records-clause-misread c =
    fails_more c.read_records.result _ _ _ _ (λ wrong. records_wrong c.in-records.is wrong)
    (λ wrong. records_nowhere c.in-records.is wrong) c.read_records.ensures.misread

pub returns-in-find-clause-misread : goal.returns-in-find-clause-misread
returns-in-find-clause-misread c = fails_more c.read_find.result _ _ _ _ (λ wrong. find_wrong c.in-find.is wrong)
    (λ wrong. find_nowhere c.in-find.is wrong) c.read_find.ensures.misread
