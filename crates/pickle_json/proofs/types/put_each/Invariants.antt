use Rattle.std.proofs.Common.{◌-◌, ◌≤◌}
use Rattle.pickle_json.specs.Fields.{WritesFields}
use Rattle.pickle_json.proofs.types.put_each.Given as goal

abbrev pub invariant-loop-first : goal.invariant-loop-first
invariant-loop-first g l =
    (l.place ≤ l.first) × WritesFields l.place (g.W.Write.contents l.initial.w) (g.W.Write.contents l.w)

abbrev pub decreases-loop-first : goal.decreases-loop-first
decreases-loop-first g l = l.inside.end - l.first
