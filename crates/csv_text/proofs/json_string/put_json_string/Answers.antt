use Rattle.value_text.proofs.Puts.{puts_next}
use Rattle.csv_text.specs.TextBytes.{text_bytes}
use Rattle.csv_text.proofs.Doubling.{puts_as, string_is}
use Rattle.csv_text.proofs.json_string.put_json_string.Goals as goal

pub returns : goal.returns
returns g c = puts_as (string_is (text_bytes c.args.text))
    (puts_next c.put.ensures (puts_next c.put_bytes.ensures c.put-2.ensures))
