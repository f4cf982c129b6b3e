-- `run_file`: where the line can't be written whole, its exit status is still that of the file's run.
use Rattle.std.proofs.Common.{rules, refl}
use Rattle.poke_batch.specs.FileLine.{in_memory}
use Rattle.run_parts.proofs.Sayings.{on_err}
use Rattle.run_parts.specs.Outcomes.{outcome_status}
use Rattle.poke_batch.proofs.each.run_file.Goals as goal

pub returns-in_err-put_file_line-clause-err : goal.returns-in_err-put_file_line-clause-err
returns-in_err-put_file_line-clause-err g c pickle asked =
    let h = c.map_file.ensures.holds pickle asked in
    on_err c.from_residual.result (
      outcome_status (in_memory h.ended),
      record {
        text = c.map_file.new.kept.text.items;
        ended = h.ended;
        ends = h.ends;
        status_is = refl;
        takes = let p = rw h.outcome_is at c.in_err-put_file_line.ensures.err in search rules;
      },
    )
