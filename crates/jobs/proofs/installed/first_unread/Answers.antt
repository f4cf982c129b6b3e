use Rattle.std.proofs.Common.{◌∙◌, ap, arith, map, refl, sym}
use Rattle.std.proofs.lemmas.List.{take_all}
use Rattle.jobs.specs.Installed.{first_unread, installed_pickle}
use Rattle.jobs.proofs.Readable.{unread_step, unread_there}
use Rattle.jobs.proofs.installed.first_unread.Goals as goal

pub loop-one-init : goal.loop-one-init
loop-one-init c = refl

pub loop-one-preserved : goal.loop-one-preserved
loop-one-preserved c =
    unread_step c.args.installed.now c.loop-one.one-index c.one-item.result (omega arith) c.one-item.is
    c.loop-one.invariant ∙ sym c.unread_of.ensures ∙ c.in-None.is

pub returns-in-Some : goal.returns-in-Some
returns-in-Some c =
    sym (unread_there c.args.installed.now c.loop-one.one-index c.one-item.result (omega arith) c.one-item.is
    c.in-Some.fault (sym c.unread_of.ensures ∙ c.in-Some.is) c.loop-one.invariant)

pub returns : goal.returns
returns c =
    sym (ap (λ xs. first_unread (map installed_pickle xs))
    (sym (take_all c.loop-one.one-index c.args.installed.now (omega arith))) ∙ c.loop-one.invariant)
