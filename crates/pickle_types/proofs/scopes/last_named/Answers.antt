use Rattle.std.proofs.Common.{◌≡◌, ◌+◌, ◌-◌, ◌<◌, ℕ, length, take, sym, ap, ◌∙◌, arith}
use Rattle.std.specs.Prelude.{None}
use Rattle.pickle_types.specs.declared.scopes.Seen.{Seen}
use Rattle.pickle_types.specs.Scopes.{resolve}
use Rattle.pickle_types.specs.Built.{views_of}
use Rattle.pickle_types.proofs.Places.{last_here, last_passed}
use Rattle.pickle_types.proofs.scopes.last_named.Goals as goal

abbrev unread : Seen
unread = record { name = None; level = 0; place = 0; node = 0 }

pub returns-then-is_called-clause-found : goal.returns-then-is_called-clause-found
returns-then-is_called-clause-found c nodes =
    let left = c.loop-left.left in
    let fields = c.args.fields.now in
    let lt : left - 1 < length fields = let h = c.loop-left.invariant.within in omega arith in
    let next : left ≡ left - 1 + 1 = omega arith in
    sym (c.loop-left.invariant.rest nodes)
    ∙ ap (λ (n : ℕ). resolve c.args.word.now (views_of nodes (take n fields))) next
    ∙ last_here nodes c.args.word.now fields (left - 1) unread lt (sym c.is_called.ensures ∙ c.if-is_called.true)

pub loop-left-preserved : goal.loop-left-preserved
loop-left-preserved c =
    let left = c.loop-left.left in
    let fields = c.args.fields.now in
    let lt : left - 1 < length fields = let h = c.loop-left.invariant.within in omega arith in
    let next : left ≡ left - 1 + 1 = omega arith in
    record {
      within = omega arith;
      rest = λ nodes.
          sym (ap (λ (n : ℕ). resolve c.args.word.now (views_of nodes (take n fields))) next ∙ last_passed nodes
          c.args.word.now fields (left - 1) unread lt (sym c.is_called.ensures ∙ c.if-is_called.false))
          ∙ c.loop-left.invariant.rest nodes;
    }
