use Rattle.jobs.specs.Asides.{TellsName, none_told, tells_word}
use Rattle.jobs.specs.Every.{every_of}
use Rattle.jobs.proofs.EachWritten.{unnamed_cut, unnamed_written, word_cut, word_written}
use Rattle.jobs.proofs.Told.{tells_more}
use Rattle.jobs.proofs.many_files.run_word.Goals as goal

pub returns-in-Ok-clause-ok : goal.returns-in-Ok-clause-ok
returns-in-Ok-clause-ok g c =
    word_written (g.P.Opener.gives c.args.opener.now) (every_of c.args.task) c.args.word.now
    c.as_bytes.result.now c.run_name.result _ _ (rw c.as_bytes.ensures c.in-Ok.ensures.ok) c.run_name.ensures.ok

pub returns-in-Ok-clause-err : goal.returns-in-Ok-clause-err
returns-in-Ok-clause-err g c =
    word_cut (g.P.Opener.gives c.args.opener.now) (every_of c.args.task) c.args.word.now
    c.as_bytes.result.now c.run_name.result _ _ (rw c.as_bytes.ensures c.in-Ok.ensures.ok) c.run_name.ensures.err

pub returns-in-Err-clause-ok : goal.returns-in-Err-clause-ok
returns-in-Err-clause-ok g c =
    unnamed_written (g.P.Opener.gives c.args.opener.now) (every_of c.args.task) c.args.word.now c.put_failed.result _ _
    c.in-Err.ensures.err (rw c.as_bytes-in-Err.ensures.value at c.put_failed.ensures.ok)

pub returns-in-Err-clause-err : goal.returns-in-Err-clause-err
returns-in-Err-clause-err g c =
    unnamed_cut (g.P.Opener.gives c.args.opener.now) (every_of c.args.task) c.args.word.now c.put_failed.result _ _
    c.in-Err.ensures.err (rw c.as_bytes-in-Err.ensures.value at c.put_failed.ensures.err)

pub returns-in-Ok-clause-told : goal.returns-in-Ok-clause-told
returns-in-Ok-clause-told g c =
    tells_more (TellsName (g.P.Opener.gives c.args.opener.now) (every_of c.args.task) c.as_bytes.result.now) _ _ _
    (λ text tells. tells_word (rw c.as_bytes.ensures c.in-Ok.ensures.ok) tells) c.run_name.ensures.told

pub returns-in-Err-clause-told : goal.returns-in-Err-clause-told
returns-in-Err-clause-told g c = none_told c.put_failed.ensures.told
