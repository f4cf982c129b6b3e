use Rattle.std.proofs.Common.{◌≡◌, ◌+◌, drop}
use Rattle.pickle_heads.specs.Heads.{mark_place}
use Rattle.pickle_heads.proofs.head.mark_place.Given as goal

abbrev pub invariant-loop-place : goal.invariant-loop-place
invariant-loop-place l = mark_place l.text ≡ l.place + mark_place (drop l.place l.text)
