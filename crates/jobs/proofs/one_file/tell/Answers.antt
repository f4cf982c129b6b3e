use Rattle.jobs.proofs.FileReasons.{line_added}
use Rattle.jobs.proofs.one_file.tell.Goals as goal

pub returns-in-Ok : goal.returns-in-Ok
returns-in-Ok c = line_added c.extend_from_slice.result c.args.line.now _ _ c.extend_from_slice.ensures.items

pub returns-in-Err : goal.returns-in-Err
returns-in-Err c = line_added c.extend_from_slice.result c.args.line.now _ _ c.extend_from_slice.ensures.items
