use Rattle.std.proofs.Common.{◌≡◌, ◌≤◌, ◌+◌, ◌-◌, ◌*◌, length, drop, ◌∙◌, ap, arith}
use Rattle.std.proofs.lemmas.List.{length-take}
use Rattle.value_store.specs.Packed.{bytes_for}
use Rattle.value_store.specs.Slots.{number_bits}
use Rattle.value_store.proofs.Instances.{is_part}
use Rattle.value_store.proofs.RecordsRead.{digits_within, digits_below, digits_most}
use Rattle.value_store.proofs.store.Store.part_digits.Goals as goal

pub overflow_add-first : goal.overflow_add-first
overflow_add-first c =
    let slots = c.args.self.now.slots in
    let p = is_part slots c.args.array c.args.index c.args.node c.requires.place in
    let all : c.from.result * c.args.index + c.args.number.content + bytes_for (number_bits c.args.number.shape)
    ≤ length c.text-bytes.result.now =
    rw (c.from.ensures, c.text-bytes.ensures) (digits_within slots c.args.array c.args.index c.args.node
    c.node_at-own.result c.args.number c.node_at-own.ensures.read.sound p c.node_at-own.ensures.is c.requires.found
    c.requires.number c.in-Records.stride c.in-Records.size c.in-Records.is) in
    omega (arith, all, c.text-bytes.type_inv.0)

pub overflow_add-first-2 : goal.overflow_add-first-2
overflow_add-first-2 c =
    let slots = c.args.self.now.slots in
    let p = is_part slots c.args.array c.args.index c.args.node c.requires.place in
    let k : c.bytes_for.result ≡ bytes_for (number_bits c.args.number.shape) =
    c.bytes_for.ensures ∙ ap (λ w. bytes_for w) c.number_bits.ensures in
    let all : c.from.result * c.args.index + c.args.number.content + c.bytes_for.result
    ≤ length c.text-bytes.result.now =
    rw (k, c.from.ensures, c.text-bytes.ensures) (digits_within slots c.args.array c.args.index c.args.node
    c.node_at-own.result c.args.number c.node_at-own.ensures.read.sound p c.node_at-own.ensures.is c.requires.found
    c.requires.number c.in-Records.stride c.in-Records.size c.in-Records.is) in
    omega (arith, all, c.text-bytes.type_inv.0)

pub slice_bounds-bytes_number-end : goal.slice_bounds-bytes_number-end
slice_bounds-bytes_number-end c =
    let slots = c.args.self.now.slots in
    let p = is_part slots c.args.array c.args.index c.args.node c.requires.place in
    let k : c.bytes_for.result ≡ bytes_for (number_bits c.args.number.shape) =
    c.bytes_for.ensures ∙ ap (λ w. bytes_for w) c.number_bits.ensures in
    let all : c.from.result * c.args.index + c.args.number.content + c.bytes_for.result
    ≤ length c.text-bytes.result.now =
    rw (k, c.from.ensures, c.text-bytes.ensures) (digits_within slots c.args.array c.args.index c.args.node
    c.node_at-own.result c.args.number c.node_at-own.ensures.read.sound p c.node_at-own.ensures.is c.requires.found
    c.requires.number c.in-Records.stride c.in-Records.size c.in-Records.is) in
    omega (arith, all)

pub bytes_number-requires : goal.bytes_number-requires
bytes_number-requires c =
    let k : c.bytes_for.result ≡ bytes_for (number_bits c.args.number.shape) =
    c.bytes_for.ensures ∙ ap (λ w. bytes_for w) c.number_bits.ensures in
    let first = c.from.result * c.args.index + c.args.number.content in
    omega (
      arith,
      k,
      digits_most c.args.number c.requires.number,
      length-take (first + c.bytes_for.result - first) (drop first c.text-bytes.result.now),
    )

pub returns-clause-below : goal.returns-clause-below
returns-clause-below c =
    let slots = c.args.self.now.slots in
    let p = is_part slots c.args.array c.args.index c.args.node c.requires.place in
    let k : c.bytes_for.result ≡ bytes_for (number_bits c.args.number.shape) =
    c.bytes_for.ensures ∙ ap (λ w. bytes_for w) c.number_bits.ensures in
    let first = c.from.result * c.args.index + c.args.number.content in
    let size : first + c.bytes_for.result - first ≡ c.bytes_for.result = omega arith in
    rw (c.bytes_number.ensures, size, k, c.from.ensures, c.text-bytes.ensures)
    (digits_below slots c.args.array c.args.index c.args.node c.node_at-own.result c.args.number
    c.node_at-own.ensures.read.sound p c.node_at-own.ensures.is c.requires.found c.requires.number c.in-Records.stride
    c.in-Records.size c.in-Records.is)
