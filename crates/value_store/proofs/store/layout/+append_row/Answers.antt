use mir.Syntax.{w128}
use mir.Val.{to_z, of_z}
use Rattle.std.proofs.Common.{◌≡◌, ◌∙◌, length, arith}
use Rattle.std.proofs.lemmas.Int.{to_z-of_z}
use Rattle.pickle_meaning.specs.Values.{label_of}
use Rattle.value_store.specs.Labels.{number_of}
use Rattle.value_store.specs.Names.{Names}
use Rattle.value_store.specs.Refs.{value_of}
use Rattle.value_store.proofs.LayoutRows.{row-room, own-width, own-room, number-alone, rows-number, rows-none, rows-more, rows-skipped, member-room, rows-whole}
use Rattle.value_store.proofs.store.layout.+append_row.Goals.{in-Some, in-None}
use Rattle.value_store.proofs.store.layout.+append_row.Goals as goal

pub append_digits-requires-clause-width : goal.append_digits-requires-clause-width
append_digits-requires-clause-width t c =
    own-width (λ names. value_of names c.args.value) c.width-width.result c.signed-signed.result
    c.number.result c.if-width-gt0.true
    c.width-width.ensures c.number.ensures (length c.args.row.now.items)
    (row-room c.args.value (length c.args.row.now.items) c.requires)

pub append_digits-requires-clause-room : goal.append_digits-requires-clause-room
append_digits-requires-clause-room t c =
    let z = to_z w128 (of_z w128 c.number.result) in
    let is : (names : Names) → z ≡ number_of (label_of (value_of names c.args.value)) =
    λ names. to_z-of_z w128 c.number.result (record { sfits = c.number.type_inv }) ∙ c.number.ensures names in
    own-room (λ names. value_of names c.args.value) c.width-width.result c.signed-signed.result z c.if-width-gt0.true
    c.width-width.ensures is
    (length c.args.row.now.items) (row-room c.args.value (length c.args.row.now.items) c.requires)

pub append_row-requires : goal.append_row-requires
append_row-requires t c =
    let room = member-room (λ names. value_of names c.args.value) (λ names. value_of names c.in-Some.part)
    c.args.row.now.items c.loop-i.row.items c.loop-i.i
    (row-room c.args.value (length c.args.row.now.items) c.requires) c.loop-i.invariant c.in-Some.ensures.part in (
      omega (arith, c.in-Some.ensures.below),
      record { names = room.names; fixed = room.fixed; few = room.few },
    )

pub returns-then-width-gt0 : goal.returns-then-width-gt0
returns-then-width-gt0 t c =
    let z = to_z w128 (of_z w128 c.number.result) in
    let is : (names : Names) → z ≡ number_of (label_of (value_of names c.args.value)) =
    λ names. to_z-of_z w128 c.number.result (record { sfits = c.number.type_inv }) ∙ c.number.ensures names in
    let width = c.width-width.result in
    let signed = c.signed-signed.result in
    rows-whole (λ names. value_of names c.args.value) c.args.row.now.items c.append_digits.new.row.items 0
    (rows-number (λ names. value_of names c.args.value) width signed z c.if-width-gt0.true c.width-width.ensures is
    c.args.row.now.items
    c.append_digits.new.row.items c.append_digits.ensures)
    (number-alone (λ names. value_of names c.args.value) width signed z c.if-width-gt0.true c.width-width.ensures is
    (length c.args.row.now.items) c.len-none.result
    (row-room c.args.value (length c.args.row.now.items) c.requires) c.len-none.ensures)

pub loop-i-init : goal.loop-i-init
loop-i-init t c =
    rows-none (λ names. value_of names c.args.value) c.args.row.now.items c.width-width.result
    (λ p. omega (arith, p, c.if-width-gt0.false))
    c.width-width.ensures

pub loop-i-preserved : goal.loop-i-preserved
loop-i-preserved t c = elim c.match-linked.branch [
  | in-Some w ↦
      rw w.row-is (rows-more (λ names. value_of names c.args.value) (λ names. value_of names w.in-Some.part)
      c.args.row.now.items c.loop-i.row.items
      w.append_row.new.row.items c.loop-i.i c.loop-i.invariant w.in-Some.ensures.part w.append_row.ensures)
  | in-None w ↦
      rw w.row-is (rows-skipped (λ names. value_of names c.args.value) c.args.row.now.items c.loop-i.row.items
      c.loop-i.i c.loop-i.invariant
      w.in-None.ensures.part)
]

pub returns : goal.returns
returns t c = rows-whole (λ names. value_of names c.args.value) c.args.row.now.items c.loop-i.row.items
    c.loop-i.i c.loop-i.invariant
    (λ names. omega (arith, c.count_linked-i-end.ensures names))
