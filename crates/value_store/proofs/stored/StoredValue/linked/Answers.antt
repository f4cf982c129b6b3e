use Rattle.std.proofs.Common.{arith, ◌≡◌, ◌<◌, Some, None, ap, sym, ◌∙◌, subst}
use Rattle.std.specs.Prelude.{slice_get, unwrap_or, IfSome}
use Rattle.std.specs.Option.{option_map}
use Rattle.std.proofs.lemmas.Option.{slice_get-get_or, slice_get_past}
use Rattle.value_store.specs.Lent.{place_value, place_rank, linked_place, IsPlace}
use Rattle.pickle_meaning.specs.Values.{members_of, member_at}
use Rattle.value_store.proofs.Linked.{parts_of}
use Rattle.value_store.proofs.stored.StoredValue.linked.Goals as goal

pub invariant_of-result : goal.invariant_of-result
invariant_of-result c =
    let slots = c.args.self.now.store.now.slots in
    let parts = parts_of slots c.args.self.now.place c.args.links.now c.args.packed c.node_at-node.ensures.read.sound
    c.args.self.now.in_range c.requires.links c.requires.packed in
    record {
      in_range = subst (IsPlace slots) (sym c.packed_place.ensures) (parts.packed_there c.args.i c.if-i-packed.true);
    }

pub returns-then-i-packed-clause-part : goal.returns-then-i-packed-clause-part
returns-then-i-packed-clause-part c =
    let slots = c.args.self.now.store.now.slots in
    let parts = parts_of slots c.args.self.now.place c.args.links.now c.args.packed c.node_at-node.ensures.read.sound
    c.args.self.now.in_range c.requires.links c.requires.packed in
    λ names. ap (λ p. Some (place_value names slots p)) c.packed_place.ensures
    ∙ parts.packed_part names c.args.i c.if-i-packed.true

pub returns-then-i-packed-clause-below : goal.returns-then-i-packed-clause-below
returns-then-i-packed-clause-below c =
    let slots = c.args.self.now.store.now.slots in
    let parts = parts_of slots c.args.self.now.place c.args.links.now c.args.packed c.node_at-node.ensures.read.sound
    c.args.self.now.in_range c.requires.links c.requires.packed in
    omega (arith, ap place_rank c.packed_place.ensures, parts.packed_below c.args.i c.if-i-packed.true)

pub invariant_of-result-in-Some-target : goal.invariant_of-result-in-Some-target
invariant_of-result-in-Some-target c =
    let slots = c.args.self.now.store.now.slots in
    let parts = parts_of slots c.args.self.now.place c.args.links.now c.args.packed c.node_at-node.ensures.read.sound
    c.args.self.now.in_range c.requires.links c.requires.packed in
    let found : unwrap_or (slice_get c.args.links.now c.args.i) None ≡ Some c.in-Some-target.node =
    ap (λ o. unwrap_or o None)
    (slice_get-get_or c.args.links.now c.args.i c.in-Some.link.now c.in-Some.ensures.lookup.3.0
    ∙ ap Some (sym c.in-Some.ensures.lookup.1))
    ∙ sym c.target.ensures ∙ c.in-Some-target.is in
    let there = subst (λ o. IfSome o (λ j. IsPlace slots (linked_place c.args.self.now.place j))) found
    (parts.link_there c.args.i) in
    record { in_range = subst (IsPlace slots) (sym c.linked_place.ensures) there }

pub returns-in-Some-target-clause-part : goal.returns-in-Some-target-clause-part
returns-in-Some-target-clause-part c =
    let slots = c.args.self.now.store.now.slots in
    let parts = parts_of slots c.args.self.now.place c.args.links.now c.args.packed c.node_at-node.ensures.read.sound
    c.args.self.now.in_range c.requires.links c.requires.packed in
    let found : unwrap_or (slice_get c.args.links.now c.args.i) None ≡ Some c.in-Some-target.node =
    ap (λ o. unwrap_or o None)
    (slice_get-get_or c.args.links.now c.args.i c.in-Some.link.now c.in-Some.ensures.lookup.3.0
    ∙ ap Some (sym c.in-Some.ensures.lookup.1))
    ∙ sym c.target.ensures ∙ c.in-Some-target.is in
    λ names.
    ap (λ p. Some (place_value names slots p)) c.linked_place.ensures
    ∙ subst (λ o. option_map (λ j. place_value names slots (linked_place c.args.self.now.place j)) o
    ≡ member_at (members_of (place_value names slots c.args.self.now.place)) c.args.i)
    found (parts.link_part names c.args.i (omega (arith, c.if-i-packed.false)))

pub returns-in-Some-target-clause-below : goal.returns-in-Some-target-clause-below
returns-in-Some-target-clause-below c =
    let slots = c.args.self.now.store.now.slots in
    let parts = parts_of slots c.args.self.now.place c.args.links.now c.args.packed c.node_at-node.ensures.read.sound
    c.args.self.now.in_range c.requires.links c.requires.packed in
    let found : unwrap_or (slice_get c.args.links.now c.args.i) None ≡ Some c.in-Some-target.node =
    ap (λ o. unwrap_or o None)
    (slice_get-get_or c.args.links.now c.args.i c.in-Some.link.now c.in-Some.ensures.lookup.3.0
    ∙ ap Some (sym c.in-Some.ensures.lookup.1))
    ∙ sym c.target.ensures ∙ c.in-Some-target.is in
    let below =
    subst (λ o. IfSome o (λ j. place_rank (linked_place c.args.self.now.place j) < place_rank c.args.self.now.place))
    found (parts.link_below c.args.i) in
    omega (arith, below, ap place_rank c.linked_place.ensures)

pub returns-in-None-target-clause-part : goal.returns-in-None-target-clause-part
returns-in-None-target-clause-part c =
    let slots = c.args.self.now.store.now.slots in
    let parts = parts_of slots c.args.self.now.place c.args.links.now c.args.packed c.node_at-node.ensures.read.sound
    c.args.self.now.in_range c.requires.links c.requires.packed in
    let found : unwrap_or (slice_get c.args.links.now c.args.i) None ≡ None = ap (λ o. unwrap_or o None)
    (slice_get-get_or c.args.links.now c.args.i c.in-Some.link.now c.in-Some.ensures.lookup.3.0
    ∙ ap Some (sym c.in-Some.ensures.lookup.1))
    ∙ sym c.target.ensures ∙ c.in-None-target.is in
    λ names. subst (λ o. option_map (λ j. place_value names slots (linked_place c.args.self.now.place j)) o
    ≡ member_at (members_of (place_value names slots c.args.self.now.place)) c.args.i)
    found (parts.link_part names c.args.i (omega (arith, c.if-i-packed.false)))

pub returns-in-None-clause-part : goal.returns-in-None-clause-part
returns-in-None-clause-part c =
    let slots = c.args.self.now.store.now.slots in
    let parts = parts_of slots c.args.self.now.place c.args.links.now c.args.packed c.node_at-node.ensures.read.sound
    c.args.self.now.in_range c.requires.links c.requires.packed in
    let found : unwrap_or (slice_get c.args.links.now c.args.i) None ≡ None =
    ap (λ o. unwrap_or o None) (slice_get_past c.args.links.now c.args.i c.in-None.ensures.lookup.3) in
    λ names. subst (λ o. option_map (λ j. place_value names slots (linked_place c.args.self.now.place j)) o
    ≡ member_at (members_of (place_value names slots c.args.self.now.place)) c.args.i)
    found (parts.link_part names c.args.i (omega (arith, c.if-i-packed.false)))
