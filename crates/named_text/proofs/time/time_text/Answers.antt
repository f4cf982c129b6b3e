use Rattle.std.proofs.Common.{rules, ◌≡◌, arith, pos, ◌≤ℤ◌, ◌<ℤ◌}
use Rattle.std.proofs.lemmas.Int.{ints}
use Rattle.std.specs.Fmt.{signed_decimal}
use Rattle.jiff_core.specs.DateTime.{civil_nanos}
use Rattle.named_text.specs.Times.{nanoseconds, clock_text}
use Rattle.named_text.proofs.TimeLaws.{in_years, before_years}
use Rattle.named_text.proofs.time.time_text.Goals as goal

pub returns-else-time-lt0 : goal.returns-else-time-lt0
returns-else-time-lt0 c =
    let shown : c.clock_text.result.items ≡ clock_text c.args.scale c.in-Ok.time = search rules in
    let is : civil_nanos c.in-Ok.time ≡ nanoseconds c.args.scale c.args.number = search rules in
    let year : pos 0 ≤ℤ c.in-Ok.time.date.year = omega (arith, ints) in
    in_years c.args.scale c.args.number c.clock_text.result.items c.in-Ok.time shown is year

pub returns-then-time-lt0 : goal.returns-then-time-lt0
returns-then-time-lt0 c =
    let shown : c.number_text.result.items ≡ signed_decimal c.args.number = search rules in
    let is : civil_nanos c.in-Ok.time ≡ nanoseconds c.args.scale c.args.number = search rules in
    let year : c.in-Ok.time.date.year <ℤ pos 0 = omega (arith, ints) in
    before_years c.args.scale c.args.number c.number_text.result.items c.in-Ok.time shown is year
