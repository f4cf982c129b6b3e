use Rattle.std.proofs.Common.{arith}
use Rattle.pickle_json.proofs.Columns.{column_few}
use Rattle.pickle_json.proofs.note.put_note.Goals as goal

pub put_placed-requires-clause-column : goal.put_placed-requires-clause-column
put_placed-requires-clause-column g c =
    omega (arith, c.place_behind.ensures.column, column_few c.split_at.result.0.now, c.split_at.ensures.front_len)
