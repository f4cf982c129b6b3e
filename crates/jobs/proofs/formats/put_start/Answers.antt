use Rattle.std.proofs.Common.{◌++◌, codes}
use Rattle.std.specs.Option.{option_copied}
use Rattle.jobs.specs.Formats.{endian_member, type_member}
use Rattle.run_parts.proofs.Sayings.{on_err}
use Rattle.text_output.proofs.Parts.{part_first, part_next}
use Rattle.value_text.specs.JsonText.{json_string}
use Rattle.jobs.proofs.formats.put_start.Goals as goal

pub returns-in_err-put_string-clause-err : goal.returns-in_err-put_string-clause-err
returns-in_err-put_string-clause-err g c = on_err c.from_residual.result
    (part_first _ _ (codes "{\"name\":" ++ json_string c.args.name.now) _ c.in_err-put_string.ensures.err)

pub returns-in_err-put_type-clause-err : goal.returns-in_err-put_type-clause-err
returns-in_err-put_type-clause-err g c = on_err c.from_residual-in_err-put_type.result
    (part_next _ _ _ (codes "{\"name\":" ++ json_string c.args.name.now) _ c.in_ok-put_string.ensures.ok
    (part_first _ _ (type_member (codes ",\"type\":") (option_copied c.args.main)) _ c.in_err-put_type.ensures.err))

pub returns-in_err-put-clause-err : goal.returns-in_err-put-clause-err
returns-in_err-put-clause-err g c = on_err c.from_residual-in_err-put.result
    (part_next _ _ _ (codes "{\"name\":" ++ json_string c.args.name.now) _ c.in_ok-put_string.ensures.ok
    (part_next _ _ _ (type_member (codes ",\"type\":") (option_copied c.args.main)) _ c.in_ok-put_type.ensures.ok
    (part_first _ _ (endian_member c.args.order) _ (rw c.endian_member.ensures at c.in_err-put.ensures.err))))

pub returns-in_err-put-2-clause-err : goal.returns-in_err-put-2-clause-err
returns-in_err-put-2-clause-err g c = on_err c.from_residual-in_err-put-2.result
    (part_next _ _ _ (codes "{\"name\":" ++ json_string c.args.name.now) _ c.in_ok-put_string.ensures.ok
    (part_next _ _ _ (type_member (codes ",\"type\":") (option_copied c.args.main)) _ c.in_ok-put_type.ensures.ok
    (part_next _ _ _ (endian_member c.args.order) _ (rw c.endian_member.ensures at c.in_ok-put.ensures.ok)
    (rw c.whole_member.ensures at c.in_err-put-2.ensures.err))))
