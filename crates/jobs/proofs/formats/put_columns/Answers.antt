use Rattle.std.proofs.Common.{codes}
use Rattle.std.proofs.KnownBytes.{Appends-trans}
use Rattle.poke_batch.specs.FileLine.{shown_name}
use Rattle.run_parts.proofs.Sayings.{on_err}
use Rattle.text_output.proofs.Parts.{part_first, part_next}
use Rattle.jobs.proofs.formats.put_columns.Goals as goal

pub returns-in_err-put-clause-err : goal.returns-in_err-put-clause-err
returns-in_err-put-clause-err g c = on_err c.from_residual-in_err-put.result
    (part_next _ _ _ (shown_name c.args.name.now) _ c.in_ok-put_name.ensures.ok
    (part_first _ _ (codes "\t") _ c.in_err-put.ensures.err))

pub returns-in_err-put_name-2-clause-err : goal.returns-in_err-put_name-2-clause-err
returns-in_err-put_name-2-clause-err g c = on_err c.from_residual-in_err-put_name-2.result
    (part_next _ _ _ (shown_name c.args.name.now) _ c.in_ok-put_name.ensures.ok
    (part_next _ _ _ (codes "\t") _ c.in_ok-put.ensures.ok
    (part_first _ _ (shown_name c.args.main.now) _ c.in_err-put_name-2.ensures.err)))

pub returns-in_err-put-2-clause-err : goal.returns-in_err-put-2-clause-err
returns-in_err-put-2-clause-err g c = on_err c.from_residual-in_err-put-2.result
    (part_next _ _ _ (shown_name c.args.name.now) _ c.in_ok-put_name.ensures.ok
    (part_next _ _ _ (codes "\t") _ c.in_ok-put.ensures.ok
    (part_next _ _ _ (shown_name c.args.main.now) _ c.in_ok-put_name-2.ensures.ok
    (part_first _ _ (codes "\t") _ c.in_err-put-2.ensures.err))))

pub returns-in_err-put_name-3-clause-err : goal.returns-in_err-put_name-3-clause-err
returns-in_err-put_name-3-clause-err g c = on_err c.from_residual-in_err-put_name-3.result
    (part_next _ _ _ (shown_name c.args.name.now) _ c.in_ok-put_name.ensures.ok
    (part_next _ _ _ (codes "\t") _ c.in_ok-put.ensures.ok
    (part_next _ _ _ (shown_name c.args.main.now) _ c.in_ok-put_name-2.ensures.ok
    (part_next _ _ _ (codes "\t") _ c.in_ok-put-2.ensures.ok
    (part_first _ _ (shown_name c.args.options.now) _ c.in_err-put_name-3.ensures.err)))))

pub returns-in_err-put-3-clause-err : goal.returns-in_err-put-3-clause-err
returns-in_err-put-3-clause-err g c = on_err c.from_residual-in_err-put-3.result
    (part_next _ _ _ (shown_name c.args.name.now) _ c.in_ok-put_name.ensures.ok
    (part_next _ _ _ (codes "\t") _ c.in_ok-put.ensures.ok
    (part_next _ _ _ (shown_name c.args.main.now) _ c.in_ok-put_name-2.ensures.ok
    (part_next _ _ _ (codes "\t") _ c.in_ok-put-2.ensures.ok
    (part_next _ _ _ (shown_name c.args.options.now) _ c.in_ok-put_name-3.ensures.ok
    (part_first _ _ (codes "\t") _ c.in_err-put-3.ensures.err))))))

pub returns-in_err-put_name-4-clause-err : goal.returns-in_err-put_name-4-clause-err
returns-in_err-put_name-4-clause-err g c = on_err c.from_residual-in_err-put_name-4.result
    (part_next _ _ _ (shown_name c.args.name.now) _ c.in_ok-put_name.ensures.ok
    (part_next _ _ _ (codes "\t") _ c.in_ok-put.ensures.ok
    (part_next _ _ _ (shown_name c.args.main.now) _ c.in_ok-put_name-2.ensures.ok
    (part_next _ _ _ (codes "\t") _ c.in_ok-put-2.ensures.ok
    (part_next _ _ _ (shown_name c.args.options.now) _ c.in_ok-put_name-3.ensures.ok
    (part_next _ _ _ (codes "\t") _ c.in_ok-put-3.ensures.ok
    (part_first _ _ (shown_name c.args.sentence.now) _ c.in_err-put_name-4.ensures.err)))))))

pub returns-in_err-put-4-clause-err : goal.returns-in_err-put-4-clause-err
returns-in_err-put-4-clause-err g c = on_err c.from_residual-in_err-put-4.result
    (part_next _ _ _ (shown_name c.args.name.now) _ c.in_ok-put_name.ensures.ok
    (part_next _ _ _ (codes "\t") _ c.in_ok-put.ensures.ok
    (part_next _ _ _ (shown_name c.args.main.now) _ c.in_ok-put_name-2.ensures.ok
    (part_next _ _ _ (codes "\t") _ c.in_ok-put-2.ensures.ok
    (part_next _ _ _ (shown_name c.args.options.now) _ c.in_ok-put_name-3.ensures.ok
    (part_next _ _ _ (codes "\t") _ c.in_ok-put-3.ensures.ok
    (part_next _ _ _ (shown_name c.args.sentence.now) _ c.in_ok-put_name-4.ensures.ok
    c.in_err-put-4.ensures.err)))))))

pub returns-clause-ok : goal.returns-clause-ok
returns-clause-ok g c =
    Appends-trans _ _ _ (shown_name c.args.name.now) _ c.in_ok-put_name.ensures.ok
    (Appends-trans _ _ _ (codes "\t") _ c.in_ok-put.ensures.ok
    (Appends-trans _ _ _ (shown_name c.args.main.now) _ c.in_ok-put_name-2.ensures.ok
    (Appends-trans _ _ _ (codes "\t") _ c.in_ok-put-2.ensures.ok
    (Appends-trans _ _ _ (shown_name c.args.options.now) _ c.in_ok-put_name-3.ensures.ok
    (Appends-trans _ _ _ (codes "\t") _ c.in_ok-put-3.ensures.ok
    (Appends-trans _ _ _ (shown_name c.args.sentence.now) (codes "\n") c.in_ok-put_name-4.ensures.ok
    c.in_ok-put-4.ensures.ok))))))
