-- `write_value`: what was gathered is written, or nothing.
use Rattle.std.proofs.KnownBytes.{Keeps-refl}
use Rattle.std.proofs.lemmas.Result.{err_from_is_err_and}
use Rattle.records.specs.Next.{is_cut, is_untold}
use Rattle.records.proofs.next.write_value.Goals as goal

pub returns-in_err-gather-clause-err : goal.returns-in_err-gather-clause-err
returns-in_err-gather-clause-err g c =
    let p = err_from_is_err_and c.from_residual.result c.from_residual.ensures.1 in
    rw (p.1, p.2) (is_untold c.in_err-gather.ensures.err (Keeps-refl _))

pub returns-in-Ok-clause-ok : goal.returns-in-Ok-clause-ok
returns-in-Ok-clause-ok g c = record {
  text = c.gather.new.text.items;
  gathers = c.in_ok-gather.ensures.ok;
  takes = rw c.deref.ensures.value at c.in-Ok.ensures.ok;
}

pub returns-in-Err-clause-err : goal.returns-in-Err-clause-err
returns-in-Err-clause-err g c = is_cut (record {
  text = c.gather.new.text.items;
  gathers = c.in_ok-gather.ensures.ok;
  takes = rw c.deref.ensures.value at c.in-Err.ensures.err;
})
