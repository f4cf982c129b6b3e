use Rattle.std.proofs.Common.{sym}
use Rattle.jobs.proofs.installed.formats_of_all.Goals as goal

pub returns-in-Ok-formats_of-clause-ok : goal.returns-in-Ok-formats_of-clause-ok
returns-in-Ok-formats_of-clause-ok c = record {
  all_read = c.requires.read;
  sources = c.as_slice.result.now;
  are = rw (sym c.as_slice.ensures.value) at c.in-Ok.ensures;
  prepared = c.in-Ok-formats_of.ensures.ok;
}
