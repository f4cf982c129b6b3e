use Rattle.std.proofs.Common.{◌≡◌, ◌+◌, ◌*◌, ◌<◌, ◌≤◌, length, slice_index, subst, sym, ap, ◌∙◌, arith, rules}
use Rattle.value_store.specs.Packed.{numbers_in}
use Rattle.value_store.proofs.Lent.{number_within, number-at, byte_numbers}
use Rattle.value_store.proofs.store.Store.packed_number.Goals as goal

pub bounds-bytes-i : goal.bounds-bytes-i
bounds-bytes-i c =
    let within =
    subst (λ bs. c.args.i < length (numbers_in c.args.width bs)) (sym c.text-bytes.ensures) c.requires.within in
    subst (λ ns. c.args.i < length ns)
    (byte_numbers c.args.width c.text-bytes.result.now c.requires.width.0 c.if-width-le8.true) within

pub returns-then-width-le8 : goal.returns-then-width-le8
returns-then-width-le8 c =
    let own = byte_numbers c.args.width c.text-bytes.result.now c.requires.width.0 c.if-width-le8.true in
    let got : c.from.result ≡ slice_index c.text-bytes.result.now c.args.i = search rules in
    got ∙ ap (λ ns. slice_index ns c.args.i) (sym own)
    ∙ ap (λ bs. slice_index (numbers_in c.args.width bs) c.args.i) c.text-bytes.ensures

pub overflow_mul-first : goal.overflow_mul-first
overflow_mul-first c =
    let within =
    subst (λ bs. c.args.i < length (numbers_in c.args.width bs)) (sym c.text-bytes.ensures) c.requires.within in
    let fits : c.args.i * c.bytes_for-size.result + c.bytes_for-size.result ≤ length c.text-bytes.result.now =
    rw c.bytes_for-size.ensures (number_within c.args.width c.text-bytes.result.now c.args.i within) in
    omega (arith, fits)

pub overflow_add-first : goal.overflow_add-first
overflow_add-first c =
    let within =
    subst (λ bs. c.args.i < length (numbers_in c.args.width bs)) (sym c.text-bytes.ensures) c.requires.within in
    let fits : c.args.i * c.bytes_for-size.result + c.bytes_for-size.result ≤ length c.text-bytes.result.now =
    rw c.bytes_for-size.ensures (number_within c.args.width c.text-bytes.result.now c.args.i within) in
    omega (arith, fits)

pub slice_bounds-bytes_number-end : goal.slice_bounds-bytes_number-end
slice_bounds-bytes_number-end c =
    let within =
    subst (λ bs. c.args.i < length (numbers_in c.args.width bs)) (sym c.text-bytes.ensures) c.requires.within in
    let fits : c.args.i * c.bytes_for-size.result + c.bytes_for-size.result ≤ length c.text-bytes.result.now =
    rw c.bytes_for-size.ensures (number_within c.args.width c.text-bytes.result.now c.args.i within) in
    omega (arith, fits)

pub returns : goal.returns
returns c =
    let within =
    subst (λ bs. c.args.i < length (numbers_in c.args.width bs)) (sym c.text-bytes.ensures) c.requires.within in
    c.bytes_number.ensures
    ∙ rw c.bytes_for-size.ensures (sym (number-at c.args.width c.text-bytes.result.now c.args.i within))
    ∙ ap (λ bs. slice_index (numbers_in c.args.width bs) c.args.i) c.text-bytes.ensures
