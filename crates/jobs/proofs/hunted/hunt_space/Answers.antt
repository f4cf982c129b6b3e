use Rattle.std.proofs.Common.{◌≡◌, ◌∙◌, ℕ, List, length, map, refl, sym, subst, arith}
use Rattle.std.proofs.KnownBytes.{Keeps-refl}
use Rattle.std.specs.List.{flat_map}
use Rattle.jobs.specs.Hunted.{IsHuntAsk, found_due, no_list, only_names, quarries_in, quarry_of}
use Rattle.jobs.proofs.Holding.{holds_cut, holds_more, holds_next, no_text}
use Rattle.jobs.proofs.Hunts.{hunt_holds}
use Rattle.searches.specs.declared.sought.Sought.{Sought}
use Rattle.jobs.proofs.hunted.hunt_space.Goals as goal

pub returns-in_default-clause-hunts : goal.returns-in_default-clause-hunts
returns-in_default-clause-hunts g c = record {
  after = g.S.Space.view c.args.space.now;
  failures = omega arith;
  holds = no_text _ _ _ _ no_list (Keeps-refl _);
}

pub returns-in-Err-clause-hunts : goal.returns-in-Err-clause-hunts
returns-in-Err-clause-hunts g c = record {
  after = g.S.Space.view c.args.space.now;
  failures = omega arith;
  holds = holds_more _ _ _ _ _ (λ lines end due. found_due due) (holds_cut _ _ _ _ only_names c.in-Err.ensures.err);
}

pub returns-clause-hunts : goal.returns-clause-hunts
returns-clause-hunts g c =
    let request = c.args.request.now in
    let file = g.S.Space.view c.args.space.now in
    let same : c.len.result ≡ length c.deref.result.now =
    c.len.ensures ∙ sym c.deref.ensures.len in
    record {
      after = g.S.Space.view c.search_types-searched.new.space;
      failures = omega arith;
      holds = holds_more _ _ _ _ _ (λ lines end due. found_due due)
          (holds_next _ _ _ _ _ _ c.in-Ok-write_place_names.ensures.ok
          (hunt_holds request c.args.search c.args.formats.now c.args.start file _ _ _ _ _ _
          (record {
            types = subst
                (λ (items : List Sought). map quarry_of items
                ≡ flat_map (quarries_in request.order) c.args.formats.now.list.items)
                (sym c.deref.ensures.value) c.in-Ok.ensures;
            asks = subst
                (λ (count : ℕ). IsHuntAsk request c.args.search count c.args.start file.len c.hunt_ask.result)
                same c.hunt_ask.ensures;
            terms = refl;
            searches = c.search_of.ensures;
          })
          c.search_types-searched.ensures.writes));
    }
