use Rattle.pickle_map.proofs.RecordTypes.{appended}
use Rattle.pickle_map.proofs.mapper.packed_fields.append_digits.Goals as goal

pub returns : goal.returns
returns c =
    let t = rw c.from.ensures at c.try_extend_from_slice-fits.ensures in
    appended c.try_extend_from_slice-fits.result c.args.row.now.items c.try_extend_from_slice-fits.new.self.items
    c.to_le_bytes-bytes.result _ c.args.width c.args.digits c.to_le_bytes-bytes.ensures c.requires.width
    c.requires.room t.variant t.ok
