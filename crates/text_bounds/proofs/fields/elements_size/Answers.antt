use Rattle.std.proofs.Common.{◌≡◌, arith}
use Rattle.std.specs.Prelude.{min, max}
use Rattle.text_bounds.proofs.fields.elements_size.Goals as goal

pub returns-in-Some : goal.returns-in-Some
returns-in-Some c n size same holds =
    let printed : c.min-printed.result ≡ min (max 1 c.in-Some.most) c.args.count =
    omega (arith, c.min-printed.ensures, c.from.ensures, c.max.ensures) in
    rw (← same, c.in-Some.is) (c.both.ensures _ _ (c.repeat-in-Some.ensures _ _ printed holds) c.more_size.ensures)
