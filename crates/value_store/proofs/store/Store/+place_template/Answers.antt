use Rattle.std.proofs.Common.{rules, length, ◌≡◌, ◌+◌, ◌<◌, ◌∙◌, ap, subst, arith}
use Rattle.value_store.specs.Lent.{place_rank, IsPlace}
use Rattle.value_store.specs.Packed.{bytes_for}
use Rattle.value_store.specs.Refs.{value_of}
use Rattle.value_store.specs.LayoutArrays.{PlacesTemplates}
use Rattle.value_store.specs.Slots.{Held, AreLevels, HasSlots, number_bits, with_family}
use Rattle.value_store.proofs.Held.{refused}
use Rattle.value_store.proofs.LayoutPlaced.{read-as, number-placed, number-lacks, member-lacks, branch-lacks, templates-none, still-there, member-there, member-of, no_member-of, member-copied, templates-more, branch-composite, branch-above, branch-placed, grown-none, grown-more, grown-same}
use Rattle.value_store.proofs.store.Store.+place_template.Goals as goal

pub returns-in_err-place_number-clause-err : goal.returns-in_err-place_number-clause-err
returns-in_err-place_number-clause-err t c =
    let all = subst (λ (h : Held). AreLevels h.room h.frames h.slots) c.self.view_is c.self.invariant.levels in
    refused _ (grown-none c.args.self.now c.place_number.new.self all c.in_err-place_number.ensures.err)

pub returns-then-width-gt0-clause-ok : goal.returns-then-width-gt0-clause-ok
returns-then-width-gt0-clause-ok t c =
    let h = c.args.self.now in
    let all = subst (λ (h : Held). AreLevels h.room h.frames h.slots) c.self.view_is c.self.invariant.levels in
    let shape = c.plain_shape-shape.result in
    let read = read-as h.slots c.args.place (λ names. value_of names c.new-own.result) shape c.start-start.result
    c.size-size.result c.len-count.result c.new-own.ensures.value c.plain_shape-shape.ensures.is
    c.plain_shape-shape.ensures.plain c.start-start.ensures c.size-size.ensures c.len-count.ensures in
    number-placed h c.args.place c.args.at shape c.start-start.result c.size-size.result c.len-count.result all read
    c.requires (omega (arith, c.if-width-gt0.true, c.number_bits-width.ensures)) c.place_number.new.self _
    c.in_ok-place_number.ensures.slots
    (ap (λ n. c.args.at + n) (c.bytes_for.ensures ∙ ap (λ w. bytes_for w) c.number_bits-width.ensures))

pub loop-i-init : goal.loop-i-init
loop-i-init t c =
    let h = c.args.self.now in
    let all = subst (λ (h : Held). AreLevels h.room h.frames h.slots) c.self.view_is c.self.invariant.levels in
    let shape = c.plain_shape-shape.result in
    let read = read-as h.slots c.args.place (λ names. value_of names c.new-own.result) shape c.start-start.result
    c.size-size.result c.len-count.result c.new-own.ensures.value c.plain_shape-shape.ensures.is
    c.plain_shape-shape.ensures.plain c.start-start.ensures c.size-size.ensures c.len-count.ensures in
    record {
      placed = templates-none h c.args.place c.args.at shape c.start-start.result c.size-size.result c.len-count.result
          all read c.requires;
      room = search rules;
    }

pub new-requires : goal.new-requires
new-requires t c =
    let h = c.args.self.now in
    let all = subst (λ (h : Held). AreLevels h.room h.frames h.slots) c.self.view_is c.self.invariant.levels in
    let shape = c.plain_shape-shape.result in
    let read = read-as h.slots c.args.place (λ names. value_of names c.new-own.result) shape c.start-start.result
    c.size-size.result c.len-count.result c.new-own.ensures.value c.plain_shape-shape.ensures.is
    c.plain_shape-shape.ensures.plain c.start-start.ensures c.size-size.ensures c.len-count.ensures in
    still-there h c.args.place c.args.at shape c.start-start.result c.size-size.result c.len-count.result all read
    c.requires c.loop-i.self c.loop-i.i c.loop-i.next c.loop-i.invariant.placed

pub unreachable-requires : goal.unreachable-requires
unreachable-requires t c =
    let h = c.args.self.now in
    let all = subst (λ (h : Held). AreLevels h.room h.frames h.slots) c.self.view_is c.self.invariant.levels in
    let shape = c.plain_shape-shape.result in
    let read = read-as h.slots c.args.place (λ names. value_of names c.new-own.result) shape c.start-start.result
    c.size-size.result c.len-count.result c.new-own.ensures.value c.plain_shape-shape.ensures.is
    c.plain_shape-shape.ensures.plain c.start-start.ensures c.size-size.ensures c.len-count.ensures in
    member-there h c.args.place c.args.at shape c.start-start.result c.size-size.result c.len-count.result all read
    c.requires c.loop-i.self c.loop-i.i c.loop-i.next c.loop-i.invariant.placed c.loop-i-test.true
    (no_member-of c.loop-i.self.slots c.new.result c.args.place c.loop-i.i c.new.ensures.slots c.new.ensures.place
    c.in-None.ensures.part)

pub place_template-requires : goal.place_template-requires
place_template-requires t c =
    let h = c.args.self.now in
    let all = subst (λ (h : Held). AreLevels h.room h.frames h.slots) c.self.view_is c.self.invariant.levels in
    let shape = c.plain_shape-shape.result in
    let read = read-as h.slots c.args.place (λ names. value_of names c.new-own.result) shape c.start-start.result
    c.size-size.result c.len-count.result c.new-own.ensures.value c.plain_shape-shape.ensures.is
    c.plain_shape-shape.ensures.plain c.start-start.ensures c.size-size.ensures c.len-count.ensures in
    let part = c.in-Some.part in
    let there : IsPlace c.loop-i.self.slots part =
    subst (λ s. IsPlace s part) c.new.ensures.slots c.in-Some.ensures.there in (
      omega (arith, c.in-Some.ensures.below, ap place_rank c.new.ensures.place),
      member-copied h c.args.place c.args.at shape c.start-start.result c.size-size.result c.len-count.result all read
          c.requires c.loop-i.self c.loop-i.i c.loop-i.next c.loop-i.invariant.placed part
          (member-of c.loop-i.self.slots c.new.result c.args.place part c.loop-i.i c.new.ensures.slots
          c.new.ensures.place c.in-Some.ensures.part) there,
    )

pub returns-in_err-next-clause-err : goal.returns-in_err-next-clause-err
returns-in_err-next-clause-err t c =
    refused _ (grown-more c.args.self.now c.loop-i.self c.place_template.new.self _ c.loop-i.invariant.placed.adds
    c.loop-i.invariant.placed.same c.in_err-next.ensures.err)

pub loop-i-preserved : goal.loop-i-preserved
loop-i-preserved t c =
    let h = c.args.self.now in
    let all = subst (λ (h : Held). AreLevels h.room h.frames h.slots) c.self.view_is c.self.invariant.levels in
    let shape = c.plain_shape-shape.result in
    let read = read-as h.slots c.args.place (λ names. value_of names c.new-own.result) shape c.start-start.result
    c.size-size.result c.len-count.result c.new-own.ensures.value c.plain_shape-shape.ensures.is
    c.plain_shape-shape.ensures.plain c.start-start.ensures c.size-size.ensures c.len-count.ensures in
    let part = c.in-Some.part in
    record {
      placed = templates-more h c.args.place c.args.at shape c.start-start.result c.size-size.result c.len-count.result
          all read c.requires c.loop-i.self c.loop-i.i c.loop-i.next c.loop-i.invariant.placed part
          (member-of c.loop-i.self.slots c.new.result c.args.place part c.loop-i.i c.new.ensures.slots
          c.new.ensures.place c.in-Some.ensures.part) c.place_template.new.self c.in_ok-next.next
          c.in_ok-next.ensures.ok;
      room = search rules;
    }

pub join_above-requires-clause-composite : goal.join_above-requires-clause-composite
join_above-requires-clause-composite t c =
    let h = c.args.self.now in
    let all = subst (λ (h : Held). AreLevels h.room h.frames h.slots) c.self.view_is c.self.invariant.levels in
    let shape = c.plain_shape-shape.result in
    let read = read-as h.slots c.args.place (λ names. value_of names c.new-own.result) shape c.start-start.result
    c.size-size.result c.len-count.result c.new-own.ensures.value c.plain_shape-shape.ensures.is
    c.plain_shape-shape.ensures.plain c.start-start.ensures c.size-size.ensures c.len-count.ensures in
    branch-composite h c.args.place c.args.at shape c.start-start.result c.size-size.result c.len-count.result all read
    c.requires (λ p. omega (arith, p, c.if-width-gt0.false, c.number_bits-width.ensures))

pub join_above-requires-clause-above : goal.join_above-requires-clause-above
join_above-requires-clause-above t c =
    let h = c.args.self.now in
    let all = subst (λ (h : Held). AreLevels h.room h.frames h.slots) c.self.view_is c.self.invariant.levels in
    let shape = c.plain_shape-shape.result in
    let read = read-as h.slots c.args.place (λ names. value_of names c.new-own.result) shape c.start-start.result
    c.size-size.result c.len-count.result c.new-own.ensures.value c.plain_shape-shape.ensures.is
    c.plain_shape-shape.ensures.plain c.start-start.ensures c.size-size.ensures c.len-count.ensures in
    let placed = subst (λ i. PlacesTemplates h c.loop-i.self c.args.place c.args.at i c.loop-i.next)
    (let e : c.loop-i.i ≡ c.len-count.result = omega arith in e) c.loop-i.invariant.placed in
    let none : 0 < number_bits shape → ⊥ = λ p. omega (arith, p, c.if-width-gt0.false, c.number_bits-width.ensures) in
    let mark : c.len-mark.result ≡ length h.slots.pending = rw (← c.self.view_is) (search rules) in
    branch-above h c.args.place c.args.at shape c.start-start.result c.size-size.result c.len-count.result all read
    c.requires none c.loop-i.self c.loop-i.next placed c.len-mark.result mark

pub returns-in_err-join_above-clause-err : goal.returns-in_err-join_above-clause-err
returns-in_err-join_above-clause-err t c =
    refused _ (grown-same c.args.self.now c.loop-i.self c.join_above.new.self _ c.loop-i.invariant.placed.adds
    c.loop-i.invariant.placed.same c.in_err-join_above.ensures.err)

pub returns-clause-ok : goal.returns-clause-ok
returns-clause-ok t c =
    let h = c.args.self.now in
    let all = subst (λ (h : Held). AreLevels h.room h.frames h.slots) c.self.view_is c.self.invariant.levels in
    let shape = c.plain_shape-shape.result in
    let read = read-as h.slots c.args.place (λ names. value_of names c.new-own.result) shape c.start-start.result
    c.size-size.result c.len-count.result c.new-own.ensures.value c.plain_shape-shape.ensures.is
    c.plain_shape-shape.ensures.plain c.start-start.ensures c.size-size.ensures c.len-count.ensures in
    let placed = subst (λ i. PlacesTemplates h c.loop-i.self c.args.place c.args.at i c.loop-i.next)
    (let e : c.loop-i.i ≡ c.len-count.result = omega arith in e) c.loop-i.invariant.placed in
    let none : 0 < number_bits shape → ⊥ = λ p. omega (arith, p, c.if-width-gt0.false, c.number_bits-width.ensures) in
    let mark : c.len-mark.result ≡ length h.slots.pending = rw (← c.self.view_is) (search rules) in
    branch-placed h c.args.place c.args.at shape c.start-start.result c.size-size.result c.len-count.result all read
    c.requires none c.loop-i.self c.loop-i.next placed c.join_above.new.self
    (subst (λ k. HasSlots c.loop-i.self c.join_above.new.self
    (with_family shape c.start-start.result c.size-size.result k c.loop-i.self.slots)) mark
    c.in_ok-join_above.ensures.slots)

pub returns-in_err-place_number-clause-lacks : goal.returns-in_err-place_number-clause-lacks
returns-in_err-place_number-clause-lacks t c =
    let h = c.args.self.now in
    let all = subst (λ (h : Held). AreLevels h.room h.frames h.slots) c.self.view_is c.self.invariant.levels in
    let shape = c.plain_shape-shape.result in
    let read = read-as h.slots c.args.place (λ names. value_of names c.new-own.result) shape c.start-start.result
    c.size-size.result c.len-count.result c.new-own.ensures.value c.plain_shape-shape.ensures.is
    c.plain_shape-shape.ensures.plain c.start-start.ensures c.size-size.ensures c.len-count.ensures in
    refused _ (number-lacks h c.args.place c.args.at shape c.start-start.result c.size-size.result c.len-count.result
    all read c.requires (omega (arith, c.if-width-gt0.true, c.number_bits-width.ensures))
    c.in_err-place_number.ensures.lacks)

pub returns-in_err-next-clause-lacks : goal.returns-in_err-next-clause-lacks
returns-in_err-next-clause-lacks t c =
    let h = c.args.self.now in
    let all = subst (λ (h : Held). AreLevels h.room h.frames h.slots) c.self.view_is c.self.invariant.levels in
    let shape = c.plain_shape-shape.result in
    let read = read-as h.slots c.args.place (λ names. value_of names c.new-own.result) shape c.start-start.result
    c.size-size.result c.len-count.result c.new-own.ensures.value c.plain_shape-shape.ensures.is
    c.plain_shape-shape.ensures.plain c.start-start.ensures c.size-size.ensures c.len-count.ensures in
    let part = c.in-Some.part in
    refused _ (member-lacks h c.args.place c.args.at shape c.start-start.result c.size-size.result c.len-count.result
    all read c.requires c.loop-i.self c.loop-i.i c.loop-i.next c.loop-i.invariant.placed part
    (member-of c.loop-i.self.slots c.new.result c.args.place part c.loop-i.i c.new.ensures.slots
    c.new.ensures.place c.in-Some.ensures.part) c.loop-i.invariant.room c.in_err-next.ensures.lacks)

pub returns-in_err-join_above-clause-lacks : goal.returns-in_err-join_above-clause-lacks
returns-in_err-join_above-clause-lacks t c =
    let h = c.args.self.now in
    let all = subst (λ (h : Held). AreLevels h.room h.frames h.slots) c.self.view_is c.self.invariant.levels in
    let shape = c.plain_shape-shape.result in
    let read = read-as h.slots c.args.place (λ names. value_of names c.new-own.result) shape c.start-start.result
    c.size-size.result c.len-count.result c.new-own.ensures.value c.plain_shape-shape.ensures.is
    c.plain_shape-shape.ensures.plain c.start-start.ensures c.size-size.ensures c.len-count.ensures in
    let placed = subst (λ i. PlacesTemplates h c.loop-i.self c.args.place c.args.at i c.loop-i.next)
    (let e : c.loop-i.i ≡ c.len-count.result = omega arith in e) c.loop-i.invariant.placed in
    let none : 0 < number_bits shape → ⊥ = λ p. omega (arith, p, c.if-width-gt0.false, c.number_bits-width.ensures) in
    let mark : c.len-mark.result ≡ length h.slots.pending = rw (← c.self.view_is) (search rules) in
    refused _ (branch-lacks h c.args.place c.args.at shape c.start-start.result c.size-size.result c.len-count.result
    all read c.requires none c.loop-i.self c.loop-i.next placed c.len-mark.result mark c.loop-i.invariant.room
    c.in_err-join_above.ensures.lacks)
