use Rattle.std.proofs.Common.{codes}
use Rattle.run_parts.proofs.Sayings.{on_err}
use Rattle.text_output.proofs.Parts.{part_first, part_next}
use Rattle.pickle_json.specs.Checks.{lead}
use Rattle.pickle_json.proofs.Columns.{same_text}
use Rattle.pickle_json.proofs.check.put_one.Goals as goal

pub returns-in_err-put_note-clause-err : goal.returns-in_err-put_note-clause-err
returns-in_err-put_note-clause-err g c =
    on_err c.from_residual-in_err-put_note.result
    (part_next _ _ _ (lead c.args.first) _ (same_text _ _ _ _ c.lead.ensures c.in_ok-put.ensures.ok)
    (part_first _ _ _ (codes "}") c.in_err-put_note.ensures.err))

pub returns-in_err-put-2-clause-err : goal.returns-in_err-put-2-clause-err
returns-in_err-put-2-clause-err g c =
    on_err c.from_residual-in_err-put-2.result
    (part_next _ _ _ (lead c.args.first) _ (same_text _ _ _ _ c.lead.ensures c.in_ok-put.ensures.ok)
    (part_next _ _ _ _ (codes "}") c.in_ok-put_note.ensures.ok c.in_err-put-2.ensures.err))
