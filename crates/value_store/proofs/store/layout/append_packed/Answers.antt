use Rattle.std.proofs.Common.{◌≡◌, ◌*◌, ◌/◌, ◌++◌, ◌∙◌, length, take, ap, arith}
use Rattle.value_store.specs.Packed.{bytes_for, packed, numbers_in}
use Rattle.value_store.proofs.PackedNumbers.{numbers_again, extended}
use Rattle.value_store.proofs.store.layout.append_packed.Goals as goal

pub returns : goal.returns
returns c =
    let w = c.args.width in
    let bytes = c.args.bytes.now in
    let before = c.args.row.now.items in
    let own = take (length bytes / bytes_for w * bytes_for w) bytes in
    let is : own ≡ packed (bytes_for w) (numbers_in w bytes) =
    numbers_again w bytes (λ i. omega (arith, c.type_inv.bytes i)) in
    let t = rw c.bytes_for-size.ensures at c.try_extend_from_slice-fits.ensures in
    extended c.try_extend_from_slice-fits.result before c.try_extend_from_slice-fits.new.self.items own
    (omega (arith, c.requires.room, ap length is)) t.variant t.ok ∙ ap (λ bs. before ++ bs) is
