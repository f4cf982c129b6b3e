-- `known_skip`: what is known is of a run of the signature with the steps that it is allowed.
use Rattle.std.proofs.Common.{refl, subst, sym}
use Rattle.command_line.specs.declared.ask.Ask.{Ask}
use Rattle.first_numbers.specs.Screens.{IsSieve}
use Rattle.pickle_types.specs.TypeTable.{type_named}
use Rattle.records.proofs.Nexts.{view_kept}
use Rattle.searches.proofs.Probes.{known_few, skip_missed}
use Rattle.searches.proofs.probe.known_skip.Goals as goal

pub returns-clause-missed : goal.returns-clause-missed
returns-clause-missed c = λ first before since whole sieve.
    let sought = c.args.sought.now in
    skip_missed c.args.hunt.now first before c.args.at sought sought.signature _
    (record { table = refl; same_id = refl; terms = refl; ask = c.ask_in-ask.ensures }) since before
    c.known_stop.result (view_kept before)
    (c.known_stop.ensures.stopped before before whole
    (subst (λ (ask : Ask). IsSieve (type_named sought.table.now sought.signature) before ask.order c.args.sieve.now)
    (sym c.ask_in-ask.ensures) sieve))

pub returns-clause-few : goal.returns-clause-few
returns-clause-few c =
    known_few c.args.hunt.now c.args.at _ _ c.ask_in-ask.ensures c.known_stop.result c.known_stop.ensures.few
