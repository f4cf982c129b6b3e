use Rattle.value_text.proofs.Puts.{puts_next}
use Rattle.csv_text.proofs.Doubling.{puts_as, more_is}
use Rattle.csv_text.proofs.json.DoubledJsonForm.put_more.Goals as goal

pub returns : goal.returns
returns g c = puts_as (more_is c.args.left)
    (puts_next c.put.ensures (puts_next c.put_count.ensures c.put-2.ensures))
