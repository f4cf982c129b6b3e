use Rattle.std.proofs.Common.{rules, ◌≡◌, ◌*◌, option_map, refl, sym, ap, ◌∙◌, arith}
use Rattle.bit_space.specs.Bits.{bits_of}
use Rattle.bit_space.proofs.Digits.{length-bits_of}
use Rattle.pickle_types.specs.Table.{type_of}
use Rattle.pickle_types.specs.Bounds.{room}
use Rattle.value_store.specs.Promises.{promised, promising}
use Rattle.value_store.specs.Slots.{emptied}
use Rattle.value_store.proofs.Promises.{promising-levels}
use Rattle.pickle_map.proofs.Prepared.{promising_none, lacks_capacity, holds_back, keeps_back, most_back}
use Rattle.pickle_meaning.specs.Values.{no_values}
use Rattle.pickle_map.proofs.Followed.{walk_rises, followed_steps, followed_made, followed_fits, followed_size, followed_result}
use Rattle.pickle_map.proofs.Keeping.{kept_within}
use Rattle.pickle_map.proofs.Lent.{given_back}
use Rattle.pickle_map.proofs.Stopped.{fault_of_there, fault_of_limit, fault_of_memory, fault_of_device, fault_of_counts, fault_of_means, done_kept, done_light, fault_of_kept, fault_of_light, fault_of_wanted, none_kept, none_stored, from_none}
use Rattle.pickle_map.proofs.mapper.map_with.Goals as goal

pub returns-in-Ok-clause-is : goal.returns-in-Ok-clause-is
returns-in-Ok-clause-is g c =
    let nodes = c.args.table.now.nodes.items in
    let store = c.args.store.now in
    let last = c.map_type.new.self.store.now in
    let before = c.prepare-before.result in
    let bits = 8 * (g.S.Space.view c.args.space.now).len in
    let ty = type_of nodes c.args.id.node in
    let more = promised (room ty bits) store in
    let first : promising more store ≡ emptied (promising more store) = promising_none more store c.requires.empty in
    let p = rw c.len.ensures at c.prepare-before.ensures.store in
    let none = none_kept nodes (promising more store) first in
    let e = c.new-mapper.ensures in
    let m = rw (e.nodes, e.meter, e.store, p, c.nodes.ensures, c.node.ensures) at c.in-Ok.ensures.is in
    let left = rw (e.meter, e.store, p) at c.in-Ok.ensures.frame.left in
    let keeps = promising-levels nodes before last ∙ rw none at m.kept in
    let h = rw (none, c.from.ensures) at m.follows in
    let h = from_none (none_stored (promising more store) first) h in
    let within = c.map_type.new.self.meter.now.within in
    let limit = left.limit in
    given_back c.map_type.new.self.meter.now (promising before last) (search rules) (search rules) (record {
      value = λ bytes known.
          let e =
          ap (λ n. 8 * n) (sym (g.met.S.Space.whole c.args.space.now bytes known)) ∙ sym (length-bits_of bytes) in
          let h = rw e at h in
          record {
            value = m.value;
            keeps = keeps;
            holds = followed_result (bits_of bytes) ty c.args.order c.args.start (ap (option_map bits_of) known)
                (omega (arith, within, limit)) h;
          };
      fault = λ bytes known. tt;
      fits = record {
        value = m.value;
        keeps = keeps;
        holds = followed_fits bits ty c.args.order no_values c.args.start h;
      };
      size = record {
        value = m.value;
        keeps = keeps;
        holds = followed_size bits ty c.args.order no_values c.args.start h;
      };
      rise = (walk_rises h.walk).0;
      steps = followed_steps bits ty c.args.order no_values c.args.start h;
      made = ((walk_rises h.walk).1, followed_made bits ty c.args.order no_values c.args.start h);
      limit = tt;
      memory = tt;
      device = tt;
      counts = record { value = m.value; keeps = keeps; holds = h };
      kept =
          λ bytes known. done_kept (bits_of bytes) bits ty c.args.order c.args.start (ap (option_map bits_of) known) h;
      weighed =
          λ bytes known. done_light (bits_of bytes) bits ty c.args.order c.args.start (ap (option_map bits_of) known) h;
      asked = λ bytes known. tt;
      place = tt;
      emptied = tt;
      holds = holds_back before last c.never_grows-fixed.ensures.holds;
      room = keeps_back store last more before c.prepare-before.ensures.before left.room;
      held = λ never kind. most_back nodes last more before store.room.least kind
          (rw p at c.prepare-before.ensures.fixed never) c.prepare-before.ensures.before
          (kept_within nodes (promising more store) last left.room.room never
          (λ e. c.never_grows-fixed.ensures.fits e nodes) kind);
      most = limit;
      len = left.len;
      bytes = left.bytes;
      failures = left.failures;
    })

pub returns-in-Err-clause-is : goal.returns-in-Err-clause-is
returns-in-Err-clause-is g c =
    let nodes = c.args.table.now.nodes.items in
    let store = c.args.store.now in
    let last = c.map_type.new.self.store.now in
    let before = c.prepare-before.result in
    let bits = 8 * (g.S.Space.view c.args.space.now).len in
    let ty = type_of nodes c.args.id.node in
    let more = promised (room ty bits) store in
    let first : promising more store ≡ emptied (promising more store) = promising_none more store c.requires.empty in
    let p = rw c.len.ensures at c.prepare-before.ensures.store in
    let none = none_kept nodes (promising more store) first in
    let e = c.new-mapper.ensures in
    let left = rw (e.meter, e.store, p) at c.in-Err.ensures.frame.left in
    let h =
    rw (e.nodes, e.meter, e.store, p, c.nodes.ensures, c.node.ensures, none, c.from.ensures) at c.in-Err.ensures.is in
    let h = from_none (none_stored (promising more store) first) h in
    let order = c.args.order in
    let start = c.args.start in
    let within = c.map_type.new.self.meter.now.within in
    let limit = left.limit in
    let keeps = left.room in
    given_back c.map_type.new.self.meter.now (promising before c.clear.new.self) (search rules) (search rules) (record {
      value = λ bytes known. tt;
      fault = λ bytes known.
          let e =
          ap (λ n. 8 * n) (sym (g.met.S.Space.whole c.args.space.now bytes known)) ∙ sym (length-bits_of bytes) in
          let h = rw e at h in
          rw c.fault_of.ensures (fault_of_means (bits_of bytes) ty order start (ap (option_map bits_of) known)
          (omega (arith, within, limit)) c.in-Err.stop h);
      fits = tt;
      size = tt;
      rise = (walk_rises h.walk).0;
      steps = followed_steps bits ty order no_values start h;
      made = ((walk_rises h.walk).1, followed_made bits ty order no_values start h);
      limit = rw c.fault_of.ensures (fault_of_limit bits ty order start c.in-Err.stop h);
      memory = rw c.fault_of.ensures
          (λ e free. lacks_capacity (room ty bits) store (fault_of_memory bits ty order start c.in-Err.stop h e free));
      device = rw c.fault_of.ensures
          (λ e. left.device (fault_of_device bits ty order start c.in-Err.stop h e));
      counts = rw (c.fault_of.ensures, c.clear.ensures.empty) (fault_of_counts bits ty order start
          (g.S.Space.view c.args.space.now) c.args.meter.now c.map_type.new.self.meter.now
          (promising more store) (promising before (emptied last)) c.in-Err.stop (record { last = _; follows = h }));
      kept = λ bytes known. rw (c.fault_of.ensures, c.clear.ensures.empty)
          (fault_of_kept (bits_of bytes) bits ty order start (ap (option_map bits_of) known) c.in-Err.stop h);
      weighed = λ bytes known. rw c.fault_of.ensures
          (fault_of_light (bits_of bytes) bits ty order start (ap (option_map bits_of) known) c.in-Err.stop h);
      asked = λ bytes known. rw c.fault_of.ensures (fault_of_wanted (bits_of bytes) bits ty order start
          (ap (option_map bits_of) known) (omega (arith, within, limit)) c.in-Err.stop h);
      place = rw c.fault_of.ensures (fault_of_there bits ty order start c.in-Err.stop h);
      emptied = rw c.clear.ensures.empty refl;
      holds = rw c.clear.ensures.empty (record {
        nodes = omega arith;
        families = omega arith;
        links = omega arith;
        pending = omega arith;
        texts = omega arith;
        bytes = omega arith;
      });
      room = rw c.clear.ensures.empty
          (keeps_back store (emptied last) more before c.prepare-before.ensures.before (record {
            room = keeps.room;
            nodes = keeps.nodes;
            families = keeps.families;
            links = keeps.links;
            pending = keeps.pending;
            texts = keeps.texts;
            bytes = keeps.bytes;
          }));
      held = tt;
      most = limit;
      len = left.len;
      bytes = left.bytes;
      failures = left.failures;
    })
