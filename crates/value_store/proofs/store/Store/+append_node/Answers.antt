use Rattle.std.proofs.Common.{rules, ◌≡◌, ◌<◌, ◌%◌, ◌^◌, ◌++◌, Some, length, sym, ◌∙◌, ap, arith}
use Rattle.std.specs.Prelude.{slice_get}
use Rattle.std.proofs.lemmas.Option.{slice_get-get_or}
use Rattle.value_store.specs.declared.store.slots.Place.TheVariants as place
use Rattle.value_store.specs.Lent.{place_links, place_packed}
use Rattle.value_store.specs.Packed.{bytes_for, number_bytes, packed, numbers_in}
use Rattle.value_store.specs.Slots.{value_at}
use Rattle.value_store.proofs.LayoutRows.{rows-more, rows-skipped, rows-none, member-room, rows-whole}
use Rattle.value_store.proofs.LayoutNodes.{node-width, node-row, node-room, copied-room, link-found, link-none, links-all, link-below, link-there}
use Rattle.value_store.proofs.PackedNumbers.{numbers-row, numbers-room}
use Rattle.value_store.proofs.store.Store.+append_node.Goals.{in-Some, in-None}
use Rattle.value_store.proofs.store.Store.+append_node.Goals as goal

pub append_number-requires-clause-room : goal.append_number-requires-clause-room
append_number-requires-clause-room t c =
    let below : c.node_at-node.result.content < 2 ^ 64 = search rules in
    node-room c.args.self.now.slots c.args.at c.node_at-node.result c.number_bits-width.result
    c.node_at-node.ensures.read c.number_bits-width.ensures (length c.args.row.now.items) c.if-width-gt0.true below
    c.requires

pub returns-then-width-gt0 : goal.returns-then-width-gt0
returns-then-width-gt0 t c = λ names.
    let w = c.number_bits-width.result in
    let below : c.node_at-node.result.content < 2 ^ 64 = search rules in
    let digits : c.low_digits.result ≡ c.node_at-node.result.content % 2 ^ w =
    c.low_digits.ensures.is ∙ ap (λ n. n % 2 ^ w) c.from.ensures in
    c.append_number.ensures
    ∙ ap (λ bs. c.args.row.now.items ++ bs)
    (ap (number_bytes (bytes_for w)) digits
    ∙ sym (node-row c.args.self.now.slots c.args.at c.node_at-node.result w c.node_at-node.ensures.read
    c.number_bits-width.ensures c.if-width-gt0.true below names))

pub append_packed-requires-clause-room : goal.append_packed-requires-clause-room
append_packed-requires-clause-room t c =
    let w = c.element_width-element.result in
    let room =
    numbers-room c.args.self.now.slots c.args.at c.node_at-node.result w c.node_at-node.ensures.read
    c.element_width-element.ensures c.if-element-gt0.true (length c.args.row.now.items) c.requires in
    omega (arith, room, ap (λ bs. length (packed (bytes_for w) (numbers_in w bs))) c.text.ensures)

pub returns-then-element-gt0 : goal.returns-then-element-gt0
returns-then-element-gt0 t c = λ names.
    let w = c.element_width-element.result in
    c.append_packed.ensures
    ∙ ap (λ bs. c.args.row.now.items ++ bs)
    (ap (λ bs. packed (bytes_for w) (numbers_in w bs)) c.text.ensures
    ∙ sym (numbers-row c.args.self.now.slots c.args.at c.node_at-node.result w c.node_at-node.ensures.read
    c.element_width-element.ensures c.if-element-gt0.true names))

pub loop-i-init : goal.loop-i-init
loop-i-init t c =
    let s = c.args.self.now.slots in
    rows-none (λ names. value_at names s c.args.at) c.args.row.now.items c.number_bits-width.result
    (λ p. omega (arith, p, c.if-width-gt0.false))
    (node-width s c.args.at c.node_at-node.result c.number_bits-width.result c.node_at-node.ensures.read
    c.number_bits-width.ensures)

pub append_node-requires : goal.append_node-requires
append_node-requires t c =
    let s = c.args.self.now.slots in
    let links = c.links-links.result.now in
    let here = c.new-value.ensures in
    let own : links ≡ place_links s (place.Node c.args.at) =
    c.links-links.ensures ∙ ap (λ p. place_links c.new-value.result.store.now.slots p) here.place
    ∙ ap (λ x. place_links x (place.Node c.args.at)) here.slots in
    let few : 0 ≡ c.packed-packed.result = omega (arith, c.if-packed-gt0.false) in
    let none : 0 ≡ place_packed s (place.Node c.args.at) =
    few ∙ c.packed-packed.ensures ∙ ap (λ p. place_packed c.new-value.result.store.now.slots p) here.place
    ∙ ap (λ x. place_packed x (place.Node c.args.at)) here.slots in
    let found : slice_get links c.loop-i.i ≡ Some (Some c.in-Some.part) =
    slice_get-get_or links c.loop-i.i c.index-links-i.result c.loop-i-test.true
    ∙ ap Some (sym c.index-links-i.is ∙ sym c.target.ensures ∙ c.in-Some.is) in
    let sound = c.node_at-node.ensures.read.sound in
    let room = member-room (λ names. value_at names s c.args.at) (λ names. value_at names s c.in-Some.part)
    c.args.row.now.items c.loop-i.row.items c.loop-i.i
    (copied-room s c.args.at (length c.args.row.now.items) c.requires) c.loop-i.invariant
    (link-found s c.args.at links sound c.requires.there own none c.loop-i.i c.in-Some.part found) in (
      omega (
        arith,
        link-below s c.args.at links sound c.requires.there own none c.loop-i.i c.in-Some.part found,
      ),
      record {
        there = link-there s c.args.at links sound c.requires.there own none c.loop-i.i c.in-Some.part found;
        names = room.names;
        fixed = room.fixed;
        few = room.few;
      },
    )

pub loop-i-preserved : goal.loop-i-preserved
loop-i-preserved t c =
    let s = c.args.self.now.slots in
    let links = c.links-links.result.now in
    let here = c.new-value.ensures in
    let own : links ≡ place_links s (place.Node c.args.at) =
    c.links-links.ensures ∙ ap (λ p. place_links c.new-value.result.store.now.slots p) here.place
    ∙ ap (λ x. place_links x (place.Node c.args.at)) here.slots in
    let few : 0 ≡ c.packed-packed.result = omega (arith, c.if-packed-gt0.false) in
    let none : 0 ≡ place_packed s (place.Node c.args.at) =
    few ∙ c.packed-packed.ensures ∙ ap (λ p. place_packed c.new-value.result.store.now.slots p) here.place
    ∙ ap (λ x. place_packed x (place.Node c.args.at)) here.slots in
    let found : slice_get links c.loop-i.i ≡ Some c.target.result =
    slice_get-get_or links c.loop-i.i c.index-links-i.result c.loop-i-test.true
    ∙ ap Some (sym c.index-links-i.is ∙ sym c.target.ensures) in
    let sound = c.node_at-node.ensures.read.sound in
    elim c.match-target.branch [
      | in-Some w ↦
          rw w.row-is (rows-more (λ names. value_at names s c.args.at) (λ names. value_at names s w.in-Some.part)
          c.args.row.now.items c.loop-i.row.items w.append_node.new.row.items c.loop-i.i c.loop-i.invariant
          (link-found s c.args.at links sound c.requires.there own none c.loop-i.i w.in-Some.part
          (found ∙ ap Some w.in-Some.is)) w.append_node.ensures)
      | in-None w ↦
          rw w.row-is (rows-skipped (λ names. value_at names s c.args.at) c.args.row.now.items c.loop-i.row.items
          c.loop-i.i c.loop-i.invariant
          (link-none s c.args.at links sound c.requires.there own none c.loop-i.i (found ∙ ap Some w.in-None.is)))
    ]

pub returns : goal.returns
returns t c =
    let s = c.args.self.now.slots in
    let links = c.links-links.result.now in
    let here = c.new-value.ensures in
    let own : links ≡ place_links s (place.Node c.args.at) =
    c.links-links.ensures ∙ ap (λ p. place_links c.new-value.result.store.now.slots p) here.place
    ∙ ap (λ x. place_links x (place.Node c.args.at)) here.slots in
    let few : 0 ≡ c.packed-packed.result = omega (arith, c.if-packed-gt0.false) in
    let none : 0 ≡ place_packed s (place.Node c.args.at) =
    few ∙ c.packed-packed.ensures ∙ ap (λ p. place_packed c.new-value.result.store.now.slots p) here.place
    ∙ ap (λ x. place_packed x (place.Node c.args.at)) here.slots in
    let all = links-all s c.args.at links c.node_at-node.ensures.read.sound c.requires.there own none in
    rows-whole (λ names. value_at names s c.args.at) c.args.row.now.items c.loop-i.row.items c.loop-i.i
    c.loop-i.invariant (λ names. omega (arith, all names, c.loop-i.auto.i-end, c.loop-i-test.false))
