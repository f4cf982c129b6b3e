use Rattle.std.proofs.Common.{◌≡◌, rules, to_z, of_z}
use mir.Syntax.{w128}
use Rattle.value_text.proofs.Puts.{puts_next}
use Rattle.csv_text.proofs.Doubling.{puts_as, quoted_hex_is}
use Rattle.csv_text.proofs.json.put_hex.Goals as goal

pub returns : goal.returns
returns g c =
    let n : to_z w128 (of_z w128 c.args.number) ≡ c.args.number = search rules in
    puts_as (quoted_hex_is c.args.number)
    (puts_next c.put.ensures (puts_next (rw n at c.put_signed_hex.ensures) c.put-2.ensures))
