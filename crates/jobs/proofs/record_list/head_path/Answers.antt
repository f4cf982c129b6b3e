use Rattle.std.proofs.Common.{Err, ap}
use Rattle.jobs.specs.Tasks.{no_room}
use Rattle.jobs.proofs.Inner.{no_path, odd_path}
use Rattle.jobs.proofs.record_list.head_path.Goals as goal

pub returns-in_default-clause-err : goal.returns-in_default-clause-err
returns-in_default-clause-err c =
    no_path c.list_path.result _ _ c.in_default.not-Some c.list_path.ensures c.deref.ensures.value

pub returns-in-Err-Form-clause-err : goal.returns-in-Err-Form-clause-err
returns-in-Err-Form-clause-err c =
    odd_path c.in-Some.text c.list_path.result _ _ c.in-Some.is c.list_path.ensures c.deref.ensures.value
    (c.in-Err-Form.ensures.form (ap Err c.in-Err-Form.field-0-is))

pub returns-in-Err-Memory-clause-err : goal.returns-in-Err-Memory-clause-err
returns-in-Err-Memory-clause-err c = no_room
