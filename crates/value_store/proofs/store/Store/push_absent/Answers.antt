use Rattle.std.proofs.Common.{rules, ◌≡◌, ◌++◌, ◌∷◌, [], None, arith}
use Rattle.std.proofs.lemmas.List.{length_push}
use Rattle.value_store.specs.Moves.{Leaves}
use Rattle.value_store.specs.Takes.{PendingOf}
use Rattle.value_store.specs.contracts.store.Store.{the_view}
use Rattle.value_store.proofs.Held.{absent-frames, absent-levels, absent-full}
use Rattle.value_store.proofs.Weights.{refuses-more}
use Rattle.value_store.proofs.Moved.{absent-moves, unmoved}
use Rattle.value_store.proofs.Below.{absent-kept}
use Rattle.value_store.proofs.store.Store.push_absent.Goals as goal

pub returns-in_err-reserve-clause-full : goal.returns-in_err-reserve-clause-full
returns-in_err-reserve-clause-full c =
    let h = the_view c.self.inside in
    rw (← c.self.view_is) (absent-full _ h c.self.invariant.levels (
      PendingOf,
      (c.self.invariant.pending, omega (arith, c.in_err-reserve.ensures.full, length_push h.slots.pending None)),
    ))

pub invariant_of-self-2 : goal.invariant_of-self-2
invariant_of-self-2 c =
    let e : c.push_reserved.new.self.items ≡ (the_view c.self.inside).slots.pending ++ None ∷ [] = search rules in
    record {
      levels = rw e (absent-frames (the_view c.self.inside) c.self.invariant.levels);
      nodes = search rules;
      families = search rules;
      links = search rules;
      pending = search rules;
      texts = search rules;
      bytes = search rules;
      fixed = λ e. let f = c.self.invariant.fixed e in record {
        nodes = f.nodes;
        families = f.families;
        links = f.links;
        pending = omega (arith, f.pending, c.reserve.ensures.fixed e, c.push_reserved.ensures.capacity);
        texts = f.texts;
        bytes = f.bytes;
      };
    }

pub returns-clause-ok : goal.returns-clause-ok
returns-clause-ok c =
    let e : c.push_reserved.new.self.items ≡ (the_view c.self.inside).slots.pending ++ None ∷ [] = search rules in
    λ names. rw (← c.self.view_is) (rw e (absent-levels names (the_view c.self.inside) _ c.self.invariant.levels))

pub returns-in_err-reserve-clause-lacks : goal.returns-in_err-reserve-clause-lacks
returns-in_err-reserve-clause-lacks c = rw (← c.self.view_is)
    (refuses-more _ (the_view c.self.inside) Leaves
    (unmoved (the_view c.self.inside) _ Leaves PendingOf (omega (arith, c.in_err-reserve.ensures.full))))

pub returns-clause-moves : goal.returns-clause-moves
returns-clause-moves c =
    let e : c.push_reserved.new.self.items ≡ (the_view c.self.inside).slots.pending ++ None ∷ [] = search rules in
    rw (← c.self.view_is) (rw e (absent-moves (the_view c.self.inside)))

pub returns-clause-extends : goal.returns-clause-extends
returns-clause-extends c =
    let e : c.push_reserved.new.self.items ≡ (the_view c.self.inside).slots.pending ++ None ∷ [] = search rules in
    rw (← c.self.view_is) (rw e (absent-kept (the_view c.self.inside).slots))
