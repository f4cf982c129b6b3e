use Rattle.std.proofs.Common.{length, sym, ap, subst, arith}
use Rattle.std.proofs.lemmas.List.{length_push}
use Rattle.identification.specs.Prepared.{Leads}
use Rattle.identification.proofs.Lines.{leads_more, leads_line}
use Rattle.identification.proofs.prepare.line_of.Goals as goal

pub returns-in_default-clause-ok : goal.returns-in_default-clause-ok
returns-in_default-clause-ok c =
    leads_line c.args.list.now c.args.place c.loop-places.places.items c.loop-places.at c.loop-places.invariant.leads
    (rw c.in_default.is at c.in_ok-parent.ensures.none)

pub loop-places-preserved : goal.loop-places-preserved
loop-places-preserved c =
    let added = c.in_ok-push_place.ensures.ok in
    record {
      within = rw c.in-Some.is at c.in_ok-parent.ensures.within;
      few = omega
          (arith, ap length added, length_push c.loop-places.places.items c.in-Some.parent, c.loop-places-test.true);
      leads = subst (λ line. Leads c.args.list.now c.args.place line c.in-Some.parent) (sym added)
          (leads_more c.args.list.now c.args.place c.loop-places.places.items c.loop-places.at c.in-Some.parent
          c.loop-places.invariant.leads (rw c.in-Some.is at c.in_ok-parent.ensures.some));
    }
