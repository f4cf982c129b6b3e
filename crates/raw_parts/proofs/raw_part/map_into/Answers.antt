-- `map_into`: a value that the type means, or what the mapping must say of its fault.
use Rattle.std.proofs.Common.{◌-◌, refl, arith}
use Rattle.pickle_map.specs.Mapped.{prepared}
use Rattle.pickle_types.specs.TypeTable.{nodes_of}
use Rattle.poke_batch.proofs.Mappings.{fault_says, root_given, run_to_fault, value_answers}
use Rattle.poke_batch.proofs.UnderTerms.{light_of}
use Rattle.poke_batch.specs.TypeRuns.{run_type}
use Rattle.raw_parts.proofs.Endings.{ends_under}
use Rattle.raw_parts.proofs.raw_part.map_into.Goals as goal

pub map_with-requires-clause-found : goal.map_with-requires-clause-found
map_with-requires-clause-found g c = c.new-findings.ensures (nodes_of c.args.run.now.table.now)

pub returns-in-Ok-clause-ok : goal.returns-in-Ok-clause-ok
returns-in-Ok-clause-ok g c =
    let run = c.args.run.now in
    let ask = run.ask.now in
    let given = c.in-Ok.ensures.is.fits in
    let meter = c.new-meter.result in
    let limit = c.new-meter.ensures.limit in
    let unused = c.new-meter.ensures.steps in
    record {
      value = given.value;
      there = root_given given;
      mapped = record {
        means = value_answers (run_type run) ask.order ask.start ask.limit c.new-meter.result.limit
            c.new-meter.result.steps _ _ _ (nodes_of run.table.now) c.map_with.new.store given.value
            c.new-meter.ensures.limit c.new-meter.ensures.steps c.in-Ok.ensures.is.value (root_given given);
        fits = given.holds;
        light = light_of run.terms.now _ _
            (prepared (run_type run) (g.S.Space.view c.args.space.now) c.clear.new.self).room (run_type run) ask _
            (meter.limit - meter.steps) c.requires c.clear.ensures.empty refl (omega (arith, limit, unused))
            c.in-Ok.ensures.is.weighed;
      };
    }

pub returns-clause-err : goal.returns-clause-err
returns-clause-err g c =
    let run = c.args.run.now in
    let ask = run.ask.now in
    let fault = c.in-Err.fault in
    let meter = c.new-meter.result in
    let limit = c.new-meter.ensures.limit in
    let unused = c.new-meter.ensures.steps in
    record {
      says = λ pickle asked.
          ends_under pickle run _ _ fault.kind fault.at _ _
          (prepared (run_type run) (g.S.Space.view c.args.space.now) c.clear.new.self).room (meter.limit - meter.steps)
          c.clear.ensures.empty c.clear.ensures.fixed refl (omega (arith, limit, unused)) c.in-Err.ensures.is.memory
          (λ memory bytes known kept light. c.in-Err.ensures.is.asked bytes known memory kept light)
          (fault_says pickle ask _ _ (run_type run) fault.at meter.limit meter.steps _ _ _ limit unused asked fault.kind
          c.in-Err.ensures.is.fault
          (run_to_fault _ (run_type run) ask.order ask.start ask.limit meter c.map_with.new.meter
          (prepared (run_type run) (g.S.Space.view c.args.space.now) c.clear.new.self)
          c.map_with.new.store
          fault.kind fault.at limit unused c.new-meter.ensures.made c.in-Err.ensures.is.counts)
          c.in-Err.ensures.is.limit c.in-Err.ensures.is.place c.in-Err.ensures.is.device)
          c.requires;
    }
