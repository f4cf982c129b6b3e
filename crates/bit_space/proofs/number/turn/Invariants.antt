use Rattle.std.proofs.Common.{◌≡◌, ◌+◌, ◌-◌, ◌*◌, ◌^◌, ◌<◌}
use Rattle.bit_space.proofs.Turned.{turned}
use Rattle.bit_space.proofs.number.turn.Given as goal

abbrev pub invariant-loop : goal.invariant-loop
invariant-loop l = (l.turned < 2 ^ (l.last + 8 * l.counter))
    × (turned (l.groups - l.counter) l.rest l.turned ≡ turned l.groups l.initial.rest l.initial.turned)
