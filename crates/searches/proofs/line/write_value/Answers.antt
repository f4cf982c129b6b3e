-- `write_value`: the line that was gathered is written, or nothing.
use Rattle.std.proofs.KnownBytes.{Keeps-refl}
use Rattle.std.proofs.lemmas.Result.{err_from_is_err_and}
use Rattle.searches.specs.Trial.{is_cut, lacks_line}
use Rattle.searches.proofs.line.write_value.Goals as goal

pub returns-in_err-gather_line-clause-err : goal.returns-in_err-gather_line-clause-err
returns-in_err-gather_line-clause-err g c =
    let p = err_from_is_err_and c.from_residual.result c.from_residual.ensures.1 in
    rw (p.1, p.2) (lacks_line c.in_err-gather_line.ensures.err (Keeps-refl _))

pub returns-in-Err-clause-err : goal.returns-in-Err-clause-err
returns-in-Err-clause-err g c = is_cut (record {
  line = c.gather_line.new.texts.line.items;
  is_line = c.in_ok-gather_line.ensures.ok;
  takes = rw c.deref.ensures.value at c.in-Err.ensures.err;
})
