use Rattle.std.proofs.lemmas.Result.{err_from_is_err_and}
use Rattle.std.proofs.KnownBytes.{Appends-trans}
use Rattle.text_output.proofs.Parts.{part_first, part_next}
use Rattle.run_parts.specs.DumpText.{dump_text}
use Rattle.run_parts.proofs.dump.dump.Goals as goal

pub returns-in_err-put_ruler-clause-err : goal.returns-in_err-put_ruler-clause-err
unfolding dump_text
returns-in_err-put_ruler-clause-err g c =
    let p = err_from_is_err_and c.from_residual.result c.from_residual.ensures.1 in
    rw p.1 (λ bytes e. part_first _ _ _ _ c.in_err-put_ruler.ensures.err)

pub returns-in_err-put_lines-clause-err : goal.returns-in_err-put_lines-clause-err
unfolding dump_text
returns-in_err-put_lines-clause-err g c =
    let p = err_from_is_err_and c.from_residual-in_err-put_lines.result c.from_residual-in_err-put_lines.ensures.1 in
    rw p.1 (λ bytes e. part_next _ _ _ _ _ c.in_ok-put_ruler.ensures.ok (c.in_err-put_lines.ensures.err bytes e))

pub returns-clause-ok : goal.returns-clause-ok
unfolding dump_text
returns-clause-ok g c =
    λ bytes e. Appends-trans _ _ _ _ _ c.in_ok-put_ruler.ensures.ok (c.in_ok-put_lines.ensures.ok bytes e)
