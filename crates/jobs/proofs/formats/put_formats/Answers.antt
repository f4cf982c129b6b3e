use Rattle.std.proofs.Common.{arith, subst}
use Rattle.std.proofs.KnownBytes.{Appends-nil}
use Rattle.run_parts.proofs.Sayings.{on_err}
use Rattle.run_parts.proofs.TypeLines.{texts_step, texts_cut}
use Rattle.std.specs.Io.KnownBytes.{Appends}
use Rattle.text_output.specs.Written.{AppendsPart}
use Rattle.jobs.proofs.Listed.{all_listed, listed_one, part_listed}
use Rattle.jobs.proofs.formats.put_formats.Goals as goal

pub loop-one-init : goal.loop-one-init
loop-one-init g c = Appends-nil _

pub loop-one-preserved : goal.loop-one-preserved
loop-one-preserved g c =
    let before = g.O.Write.contents c.loop-one.out in
    let after = g.O.Write.contents c.put_listed.new.out in
    texts_step (listed_one c.args.form) c.args.installed.now c.loop-one.one-index c.one-item.result
    (omega arith) _ before
    after c.loop-one.invariant
    (subst (λ one. Appends before after (listed_one c.args.form one)) c.one-item.is c.in_ok-put_listed.ensures.ok)

pub returns-in_err-put_listed-clause-err : goal.returns-in_err-put_listed-clause-err
returns-in_err-put_listed-clause-err g c =
    let before = g.O.Write.contents c.loop-one.out in
    let after = g.O.Write.contents c.put_listed.new.out in
    on_err c.from_residual.result
    (part_listed c.args.form c.args.installed.now _ _
    (texts_cut (listed_one c.args.form) c.args.installed.now c.loop-one.one-index c.one-item.result (omega arith) _
    before after c.loop-one.invariant
    (subst (λ one. AppendsPart before after (listed_one c.args.form one)) c.one-item.is
    c.in_err-put_listed.ensures.err)))

pub returns-clause-ok : goal.returns-clause-ok
returns-clause-ok g c =
    all_listed c.args.form c.args.installed.now _ _ c.loop-one.one-index (omega arith) c.loop-one.invariant
