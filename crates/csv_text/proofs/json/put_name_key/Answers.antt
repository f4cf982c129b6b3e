use Rattle.value_text.proofs.Puts.{puts_next}
use Rattle.csv_text.proofs.Doubling.{puts_as, name_is}
use Rattle.csv_text.proofs.json.put_name_key.Goals as goal

pub returns : goal.returns
returns g c = puts_as (name_is c.args.first c.args.name.now) (puts_next c.put_comma.ensures
    (puts_next (rw c.new.ensures at c.put_json_string.ensures) c.put.ensures))
