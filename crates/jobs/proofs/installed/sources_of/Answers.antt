use Rattle.std.proofs.Common.{[], arith, map, refl, subst, sym}
use Rattle.std.proofs.lemmas.List.{take_all}
use Rattle.jobs.specs.Installed.{AreSources, installed_pickle, read_among, read_bytes}
use Rattle.jobs.proofs.Readable.{sources_step}
use Rattle.jobs.proofs.installed.sources_of.Goals as goal

pub loop-one-init : goal.loop-one-init
loop-one-init c = subst (AreSources []) (sym c.new-sources.ensures.items) tt

pub loop-one-preserved : goal.loop-one-preserved
loop-one-preserved c =
    sources_step c.args.installed.now c.loop-one.one-index c.one-item.result (omega arith) c.one-item.is _ _
    (read_bytes c.one-item.result.pickle) refl c.in_ok-push_source.ensures c.loop-one.invariant

pub returns : goal.returns
returns c =
    subst (λ xs. AreSources (read_among (map installed_pickle xs)) c.loop-one.sources.items)
    (take_all c.loop-one.one-index c.args.installed.now (omega arith)) c.loop-one.invariant
