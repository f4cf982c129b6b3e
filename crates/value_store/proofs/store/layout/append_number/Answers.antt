use Rattle.std.proofs.Common.{◌+◌, ◌≤◌, length, arith}
use Rattle.value_store.specs.Packed.{bytes_for, number_bytes}
use Rattle.value_store.proofs.Packed.{length-number_bytes}
use Rattle.value_store.proofs.LayoutRows.{appended}
use Rattle.value_store.proofs.store.layout.append_number.Goals as goal

pub returns : goal.returns
returns c =
    let w = c.args.width in
    let n = c.args.digits in
    let room : length c.args.row.now.items + length (number_bytes (bytes_for w) n) ≤ 512 =
    omega (arith, c.requires.room, length-number_bytes (bytes_for w) n) in
    let t = rw c.bytes_for.ensures at c.try_extend_from_slice-fits.ensures in
    appended c.try_extend_from_slice-fits.result c.args.row.now.items c.try_extend_from_slice-fits.new.self.items
    c.to_le_bytes-bytes.result _ w n c.to_le_bytes-bytes.ensures c.requires.width room t.variant t.ok
