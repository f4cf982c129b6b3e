use Rattle.std.proofs.Common.{◌≡◌, ◌+◌, ◌*◌, refl, subst, arith}
use Rattle.pickle_types.specs.Bounds.{IsBound}
use Rattle.text_bounds.specs.TextRoom.{rooms_of, no_size, quoted_room}
use Rattle.text_bounds.proofs.fields.text_size.Goals as goal

pub returns : goal.returns
returns c =
    let rooms = rooms_of c.args.mode in
    let line = rooms.line c.args.bits c.args.bits in
    let same : (2 + line) + rooms.escape * c.args.count ≡ quoted_room rooms c.args.count + line = omega arith in
    c.with_parts.ensures _ no_size
    (subst (λ room. IsBound c.sum_of-own.result room) same
    (c.sum_of-own.ensures _ _ (omega (arith, c.line_room-around.ensures.count))
    (c.times.ensures _ _ c.escape_room.ensures.count refl)))
    c.no_size.ensures
