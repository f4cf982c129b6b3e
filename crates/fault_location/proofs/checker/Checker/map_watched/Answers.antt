use Rattle.std.proofs.Common.{rules}
use Rattle.fault_location.proofs.Meant.{comes_mapped, outer_mapped}
use Rattle.fault_location.proofs.Searching.{mapped_spends}
use Rattle.pickle_map.specs.Calls.{as_type}
use Rattle.pickle_map.proofs.Keeping.{extended_keeps}
use Rattle.fault_location.proofs.checker.Checker.map_watched.Goals as goal

pub returns : goal.returns
returns g c =
    let e = c.new-mapper.ensures in
    let left = rw (e.meter, e.store) at c.map_type.ensures.frame.left in
    let is = rw (e.nodes, e.meter, e.store) at c.map_type.ensures.is in
    let level = rw (e.nodes, e.store) at c.map_type.ensures.level in
    record {
      frame = search rules;
      ends = search rules;
      is = comes_mapped c.args.self.now.nodes.now (g.S.Space.view c.args.space.now) c.args.self.now.meter.now
          c.map_type.new.self.meter.now c.args.self.now.store.now c.map_type.new.self.store.now
          c.args.inner.node c.args.inner.order c.args.inner.start
          (g.met.S.Space.whole c.args.space.now) c.map_type.result
          is;
      level = search rules;
      outer = record {
        outer = outer_mapped c.args.self.now.nodes.now (g.S.Space.view c.args.space.now) c.args.self.now.meter.now
            c.map_type.new.self.meter.now c.args.self.now.store.now c.map_type.new.self.store.now
            (as_type c.args.inner.node c.args.inner.order c.args.inner.start) c.map_type.result is
            level.same;
        depth = search rules;
        frames = level.frames;
        opened = extended_keeps c.args.self.now.store.now c.map_type.new.self.store.now level.extends;
      };
      spends =
          mapped_spends c.args.self.now.nodes.now (g.S.Space.view c.args.space.now)
          (g.S.Space.view c.map_type.new.space)
          c.args.self.now.meter.now c.map_type.new.self.meter.now c.args.self.now.store.now
          c.map_type.new.self.store.now
          c.args.inner.node c.args.inner.order c.args.inner.start
          (g.met.S.Space.whole c.args.space.now) c.map_type.result
          is left.device;
    }
