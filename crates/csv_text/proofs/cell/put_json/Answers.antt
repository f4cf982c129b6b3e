use Rattle.value_text.proofs.Puts.{puts_next}
use Rattle.value_text.specs.TypedValue.{typed_shown}
use Rattle.csv_text.proofs.Doubling.{puts_as, json_is}
use Rattle.csv_text.proofs.cell.put_json.Goals as goal

pub returns : goal.returns
returns g c = puts_as (json_is c.args.style.now (typed_shown c.args.value.now))
    (puts_next c.put.ensures (puts_next c.put_value.ensures c.put-2.ensures))
