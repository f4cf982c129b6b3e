use Rattle.std.proofs.Common.{rules, subst, sym, arith, ◌∙◌, ap}
use Rattle.value_store.specs.Gathering.{TakesRecord}
use Rattle.value_store.specs.PackedStructs.{TakesStruct}
use Rattle.value_store.proofs.PackedStructs.{takes-record, packs-struct, cannot-pack_struct}
use Rattle.value_store.proofs.Held.{refused}
use Rattle.value_store.specs.Slots.{Held, cut_to, innermost}
use Rattle.value_store.specs.contracts.store.Store.{the_view}
use Rattle.value_store.proofs.Gathering.{gathers, record-frames, record-placed}
use Rattle.value_store.proofs.Below.{more-below, frame-within, gathering-text}
use Rattle.value_store.proofs.store.Store.pack_record.Goals as goal

pub invariant_of-self-2 : goal.invariant_of-self-2
invariant_of-self-2 c =
    let h = the_view c.self.inside in
    let t : TakesRecord h c.args.more.now = takes-record h c.args.more.now
    (subst (λ (h : Held). TakesStruct h c.args.more.now) (sym c.self.view_is) c.requires) in
    let e = record-placed h c.args.more.now t c.len-last.result c.len.result c.append.new.to.items (search rules)
    (search rules) (search rules) in
    record {
      levels = rw e (record-frames h c.args.more.now t);
      nodes = search rules;
      families = search rules;
      links = search rules;
      pending = search rules;
      texts = search rules;
      bytes = search rules;
      fixed = λ e. let f = c.self.invariant.fixed e in record {
        nodes = f.nodes;
        families = f.families;
        links = f.links;
        pending = f.pending;
        texts = f.texts;
        bytes = omega (arith, f.bytes, c.reserve.ensures.fixed e, c.append.ensures.fixed e);
      };
    }

pub returns-clause-ok : goal.returns-clause-ok
returns-clause-ok c =
    let h = the_view c.self.inside in
    let t : TakesRecord h c.args.more.now = takes-record h c.args.more.now
    (subst (λ (h : Held). TakesStruct h c.args.more.now) (sym c.self.view_is) c.requires) in
    let e = record-placed h c.args.more.now t c.len-last.result c.len.result c.append.new.to.items (search rules)
    (search rules) (search rules) in
    rw (← c.self.view_is) (rw e (packs-struct h _ c.args.more.now (gathers h c.args.more.now _)))

pub returns-in_err-reserve-clause-full : goal.returns-in_err-reserve-clause-full
returns-in_err-reserve-clause-full c = refused _ (cannot-pack_struct c.args.self.now)

pub returns-clause-below : goal.returns-clause-below
returns-clause-below c =
    let h = the_view c.self.inside in
    let t : TakesRecord h c.args.more.now = takes-record h c.args.more.now
    (subst (λ (h : Held). TakesStruct h c.args.more.now) (sym c.self.view_is) c.requires) in
    let e = record-placed h c.args.more.now t c.len-last.result c.len.result c.append.new.to.items (search rules)
    (search rules) (search rules) in
    rw (← c.self.view_is) (ap (cut_to (innermost h.frames)) e
    ∙ more-below (innermost h.frames) h.slots (frame-within h c.self.invariant.levels) c.args.more.now
    (gathering-text h t.before t.size t.stride t.start t.bytes t.gathering))
