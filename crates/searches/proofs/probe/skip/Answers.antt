-- `skip`: the first numbers are those of a run of the signature with the steps that it is allowed.
use Rattle.std.proofs.Common.{refl, subst, sym}
use Rattle.command_line.specs.declared.ask.Ask.{Ask}
use Rattle.first_numbers.specs.Screens.{IsSieve}
use Rattle.pickle_types.specs.TypeTable.{type_named}
use Rattle.searches.proofs.Probes.{skip_few, skip_missed}
use Rattle.searches.proofs.probe.skip.Goals as goal

pub missed-requires : goal.missed-requires
missed-requires g c =
    let sought = c.args.sought.now in
    record {
      sieve = subst (λ (ask : Ask). IsSieve (type_named sought.table.now sought.signature)
          (g.S.Space.view c.args.space.now) ask.order c.args.sieve.now) (sym c.ask_in-ask.ensures) c.requires.sieve;
    }

pub returns-clause-sieve : goal.returns-clause-sieve
returns-clause-sieve g c =
    let sought = c.args.sought.now in
    subst (λ (ask : Ask). IsSieve (type_named sought.table.now sought.signature) (g.S.Space.view c.missed.new.space)
    ask.order c.missed.new.sieve) c.ask_in-ask.ensures c.missed.ensures.sieve

pub returns-clause-missed : goal.returns-clause-missed
returns-clause-missed g c = λ first since.
    skip_missed c.args.hunt.now first _ c.args.at c.args.sought.now c.args.sought.now.signature _
    (record { table = refl; same_id = refl; terms = refl; ask = c.ask_in-ask.ensures }) since _ c.missed.result
    c.missed.ensures.keeps c.missed.ensures.missed

pub returns-clause-few : goal.returns-clause-few
returns-clause-few g c =
    skip_few c.args.hunt.now c.args.at _ _ _ _ c.ask_in-ask.ensures c.missed.result c.missed.ensures.missed
