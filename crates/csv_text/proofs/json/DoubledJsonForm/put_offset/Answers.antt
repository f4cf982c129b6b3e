use Rattle.std.proofs.Common.{◌≡◌, rules, to_z, of_z}
use mir.Syntax.{w128}
use Rattle.value_text.proofs.Puts.{puts_next}
use Rattle.csv_text.proofs.Doubling.{puts_as, offset_is}
use Rattle.csv_text.proofs.json.DoubledJsonForm.put_offset.Goals as goal

pub returns : goal.returns
returns g c =
    let n : to_z w128 (of_z w128 c.args.magnitude) ≡ c.args.magnitude = search rules in
    puts_as (offset_is c.args.numbers c.args.magnitude c.args.unit) (puts_next c.put.ensures
    (puts_next (rw n at c.put_integer.ensures) (puts_next c.put-2.ensures
    (puts_next c.put_digits.ensures c.put-3.ensures))))
