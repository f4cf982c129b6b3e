use Rattle.std.proofs.Common.{rules, subst, sym, arith}
use Rattle.value_store.specs.Gathering.{TakesRecord}
use Rattle.value_store.specs.Slots.{Held}
use Rattle.value_store.specs.contracts.store.Store.{the_view}
use Rattle.value_store.proofs.Gathering.{record-frames, record-placed}
use Rattle.value_store.proofs.store.Store.extend_records.Goals as goal

pub invariant_of-self : goal.invariant_of-self
invariant_of-self c =
    let h = the_view c.self.inside in
    let t : TakesRecord h c.args.more.now =
    subst (λ (h : Held). TakesRecord h c.args.more.now) (sym c.self.view_is) c.requires.takes in
    let e = record-placed h c.args.more.now t c.len-last.result c.len.result c.append.new.to.items (search rules)
    (search rules) (search rules) in
    record {
      levels = rw e (record-frames h c.args.more.now t);
      nodes = search rules;
      families = search rules;
      links = search rules;
      pending = search rules;
      texts = search rules;
      bytes = search rules;
      fixed = λ e. let f = c.self.invariant.fixed e in record {
        nodes = f.nodes;
        families = f.families;
        links = f.links;
        pending = f.pending;
        texts = f.texts;
        bytes = omega (arith, f.bytes, c.append.ensures.fixed e);
      };
    }

pub returns-clause-slots : goal.returns-clause-slots
returns-clause-slots c =
    let h = the_view c.self.inside in
    let t : TakesRecord h c.args.more.now =
    subst (λ (h : Held). TakesRecord h c.args.more.now) (sym c.self.view_is) c.requires.takes in
    let e = record-placed h c.args.more.now t c.len-last.result c.len.result c.append.new.to.items (search rules)
    (search rules) (search rules) in
    rw (← c.self.view_is) (rw e (search rules))
