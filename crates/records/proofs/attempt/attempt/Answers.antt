-- `attempt`: a value in so many steps, or a fault, with what the mapping must say of it and what it means.
use Rattle.std.proofs.Common.{◌-◌, ◌∙◌, refl, sym, arith}
use Rattle.pickle_map.specs.Mapped.{prepared}
use Rattle.pickle_types.specs.TypeTable.{nodes_of}
use Rattle.poke_batch.proofs.Mappings.{fault_says, root_given, run_to_fault}
use Rattle.poke_batch.proofs.UnderTerms.{ends_under, fault_under, few_of, heavy_of, least_of, light_of, stays_under}
use Rattle.poke_batch.specs.TypeRuns.{run_type}
use Rattle.records.proofs.Mapped.{fault_meant, of_slots, of_weight, value_meant}
use Rattle.records.proofs.attempt.attempt.Goals as goal

pub returns-in-Ok-clause-ok : goal.returns-in-Ok-clause-ok
returns-in-Ok-clause-ok g c =
    let run = c.args.run.now in
    let ask = run.ask.now in
    let given = c.in-Ok.ensures.is.fits in
    let limit = c.new-meter.ensures.limit in
    let unused = c.new-meter.ensures.steps in
    let most = c.in-Ok.ensures.is.most in
    let within = c.map_with.new.meter.within in
    let taken = c.steps.ensures in
    record {
      value = given.value;
      there = root_given given;
      few = omega (arith, limit, most, within, taken);
      made = c.map_with.new.meter.made - c.new-meter.result.made;
      means = value_meant (run_type run) ask.order ask.start ask.limit c.steps.result c.new-meter.result
          c.map_with.new.meter (g.S.Space.view c.args.space.now).bytes (nodes_of run.table.now) c.map_with.new.store
          given.value limit unused (sym taken) c.in-Ok.ensures.is.value (root_given given);
      fits = given.holds;
      light =
          light_of run.terms.now _ _ (prepared (run_type run) (g.S.Space.view c.args.space.now) c.clear.new.self).room
          (run_type run) ask _ (c.new-meter.result.limit - c.new-meter.result.steps) c.requires.store
          c.clear.ensures.empty refl (omega (arith, limit, unused)) c.in-Ok.ensures.is.weighed;
    }

pub returns-in-Ok-clause-ready : goal.returns-in-Ok-clause-ready
returns-in-Ok-clause-ready g c = record {
  store = stays_under c.args.run.now.terms.now.most_slots c.args.run.now.terms.now.most_bytes _ _ _ c.requires.store
      c.clear.ensures.empty c.in-Ok.ensures.is.room;
  found = c.map_with.ensures.found;
}

pub returns-in-Err-clause-ready : goal.returns-in-Err-clause-ready
returns-in-Err-clause-ready g c = record {
  store = stays_under c.args.run.now.terms.now.most_slots c.args.run.now.terms.now.most_bytes _ _ _ c.requires.store
      c.clear.ensures.empty c.in-Err.ensures.is.room;
  found = c.map_with.ensures.found;
}

pub returns-in-Err-clause-fault : goal.returns-in-Err-clause-fault
returns-in-Err-clause-fault g c =
    let run = c.args.run.now in
    let ask = run.ask.now in
    let fault = c.in-Err.fault in
    let meter = c.new-meter.result in
    let limit = c.new-meter.ensures.limit in
    let unused = c.new-meter.ensures.steps in
    record {
      says = λ pickle asked.
          ends_under pickle ask run.terms.now _ _ fault.kind fault.at _ _
          (prepared (run_type run) (g.S.Space.view c.args.space.now) c.clear.new.self).room (meter.limit - meter.steps)
          asked c.clear.ensures.empty c.clear.ensures.fixed refl (omega (arith, limit, unused))
          c.in-Err.ensures.is.memory
          (λ memory bytes known kept light. c.in-Err.ensures.is.asked bytes known memory kept light)
          (fault_under pickle ask run.terms.now _ _ fault.kind fault.at
          (fault_says pickle ask _ _ (run_type run) fault.at meter.limit meter.steps _ _ _ limit unused asked fault.kind
          c.in-Err.ensures.is.fault
          (run_to_fault _ (run_type run) ask.order ask.start ask.limit meter c.map_with.new.meter
          (prepared (run_type run) (g.S.Space.view c.args.space.now) c.clear.new.self)
          c.map_with.new.store
          fault.kind fault.at limit unused c.new-meter.ensures.made c.in-Err.ensures.is.counts)
          c.in-Err.ensures.is.limit c.in-Err.ensures.is.place c.in-Err.ensures.is.device))
          c.requires.store;
    }

pub returns-in-Err-clause-err : goal.returns-in-Err-clause-err
returns-in-Err-clause-err g c =
    let run = c.args.run.now in
    let ask = run.ask.now in
    let fault = c.in-Err.fault in
    let limit = c.new-meter.ensures.limit in
    let unused = c.new-meter.ensures.steps in
    let most = c.in-Err.ensures.is.most in
    let within = c.map_with.new.meter.within in
    let taken = c.steps-in-Err.ensures in
    record {
      few = omega (arith, limit, most, within, taken);
      made = c.map_with.new.meter.made - c.new-meter.result.made;
      means = fault_meant (run_type run) ask.order ask.start ask.limit c.steps-in-Err.result c.new-meter.result
          c.map_with.new.meter (g.S.Space.view c.args.space.now).bytes fault.kind fault.at limit unused (sym taken)
          c.in-Err.ensures.is.fault;
      runs = run_to_fault _ (run_type run) ask.order ask.start ask.limit c.new-meter.result c.map_with.new.meter
          (prepared (run_type run) (g.S.Space.view c.args.space.now) c.clear.new.self)
          c.map_with.new.store
          fault.kind fault.at limit unused c.new-meter.ensures.made c.in-Err.ensures.is.counts;
      costs = λ kind. let over = (c.in-Err.ensures.is.limit kind).1 in omega (arith, limit, unused, over);
      limit = λ kind. taken ∙ (c.in-Err.ensures.is.limit kind).0 ∙ limit;
      device = c.in-Err.ensures.is.device;
      slots = λ memory free most given.
          let store = of_slots run.terms.now _ c.requires.store free in
          record {
            bound = least_of run.terms.now.most_slots _ _ store c.clear.ensures.empty c.clear.ensures.fixed
                (c.in-Err.ensures.is.memory memory) most given;
            few = few_of run.terms.now.most_slots _ _
                (prepared (run_type run) (g.S.Space.view c.args.space.now) c.clear.new.self).room (run_type run) ask _
                (c.new-meter.result.limit - c.new-meter.result.steps) store c.clear.ensures.empty refl
                c.clear.ensures.fixed (omega (arith, limit, unused))
                (λ bytes known kept. c.in-Err.ensures.is.asked bytes known memory kept) most given;
          };
      heavy = λ memory most given.
          heavy_of most _ _ (prepared (run_type run) (g.S.Space.view c.args.space.now) c.clear.new.self).room
          (run_type run) ask _ (c.new-meter.result.limit - c.new-meter.result.steps)
          (of_weight run.terms.now _ c.requires.store most given) c.clear.ensures.empty refl
          (omega (arith, limit, unused))
          (λ bytes known kept light. c.in-Err.ensures.is.asked bytes known memory kept light);
      place = c.in-Err.ensures.is.place;
    }
