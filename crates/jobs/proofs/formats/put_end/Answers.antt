use Rattle.std.proofs.Common.{◌++◌, codes}
use Rattle.std.specs.Option.{option_copied}
use Rattle.jobs.specs.Formats.{type_member}
use Rattle.run_parts.proofs.Sayings.{on_err}
use Rattle.text_output.proofs.Parts.{part_first, part_next}
use Rattle.value_text.specs.JsonText.{json_string}
use Rattle.jobs.proofs.formats.put_end.Goals as goal

pub returns-in_err-put_string-clause-err : goal.returns-in_err-put_string-clause-err
returns-in_err-put_string-clause-err g c = on_err c.from_residual-in_err-put_string.result
    (part_next _ _ _ (type_member (codes ",\"inside\":") (option_copied c.args.inside)) _ c.in_ok-put_type.ensures.ok
    (part_first _ _ (codes ",\"description\":" ++ json_string c.args.sentence.now) _
    c.in_err-put_string.ensures.err))

pub returns-in_err-put-clause-err : goal.returns-in_err-put-clause-err
returns-in_err-put-clause-err g c = on_err c.from_residual-in_err-put.result
    (part_next _ _ _ (type_member (codes ",\"inside\":") (option_copied c.args.inside)) _ c.in_ok-put_type.ensures.ok
    (part_next _ _ _ (codes ",\"description\":" ++ json_string c.args.sentence.now) _ c.in_ok-put_string.ensures.ok
    c.in_err-put.ensures.err))
