use Rattle.value_text.proofs.Puts.{puts_next}
use Rattle.csv_text.proofs.Doubling.{puts_as, place_is}
use Rattle.csv_text.proofs.json.put_place_key.Goals as goal

pub returns : goal.returns
returns g c = puts_as (place_is c.args.first c.args.place) (puts_next c.put_comma.ensures
    (puts_next c.put.ensures (puts_next c.put_count.ensures c.put-2.ensures)))
