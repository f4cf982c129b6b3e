use Rattle.std.proofs.Common.{ℕ, ◌≤◌, ◌<◌, length, refl, sym, ap, ◌∙◌, subst, arith}
use Rattle.bit_space.specs.Bits.{bits_of}
use Rattle.bit_space.proofs.Digits.{length-bits_of}
use Rattle.pickle_types.specs.Types.{ArrayOf}
use Rattle.pickle_types.specs.Table.{type_of, bound_of, open_fields, open_parts}
use Rattle.pickle_meaning.specs.Values.{opened}
use Rattle.pickle_meaning.specs.Means.{number_type}
use Rattle.pickle_map.proofs.Shapes.{opened_as}
use Rattle.fault_parts.specs.Paths.{path_of, fields_path, alternatives_path}
use Rattle.value_store.specs.Names.{title_at}
use Rattle.value_store.specs.Slots.{levels, level_count}
use Rattle.fault_location.specs.Sites.{path_in, ReadsSite}
use Rattle.fault_location.proofs.Nodes.{struct_node, union_node, array_node, integral_node}
use Rattle.fault_location.specs.Searched.{search_of, site_left, SearchesReading}
use Rattle.fault_location.proofs.Located.{array_in, past_is, struct_path, union_path, if_site, if_read}
use Rattle.fault_location.proofs.Searching.{array_searched, struct_search, union_search, if_read_search, on_known}
use Rattle.fault_location.specs.Frames.{frames_after, frames_of}
use Rattle.fault_location.proofs.checker.Checker.find_site.Goals as goal

pub returns-then-from-inner-clause-is : goal.returns-then-from-inner-clause-is
returns-then-from-inner-clause-is g c =
    λ bytes known.
    let whole = g.met.S.Space.whole c.args.space.now bytes known in
    let past : length (bits_of bytes) < c.args.inner.start =
    rw length-bits_of (omega (arith, whole, c.if-from-inner.true, c.from.ensures, c.len.ensures)) in
    past_is (bits_of bytes) (type_of c.args.self.now.nodes.now c.args.inner.node) c.args.inner.order
    (frames_of c.args.self.now) c.args.inner.start past

pub open_level-requires : goal.open_level-requires
open_level-requires g c =
    let n = struct_node c.args.self.now.nodes.now c.args.self.now.table c.args.inner.node c.requires.part.inside
    (level_count c.args.self.now.store.now) c.requires.part.deep c.index-nodes-inner.result _ _ _ c.in-Struct.is in
    n.few

pub find_field-requires : goal.find_field-requires
find_field-requires g c =
    let n = struct_node c.args.self.now.nodes.now c.args.self.now.table c.args.inner.node c.requires.part.inside
    (level_count c.args.self.now.store.now) c.requires.part.deep c.index-nodes-inner.result _ _ _ c.in-Struct.is in
    record { fields = rw (c.deref.ensures.value, c.open_level.ensures.depth) n.fields_are }

pub open_level-requires-in-Union : goal.open_level-requires-in-Union
open_level-requires-in-Union g c =
    let n = union_node c.args.self.now.nodes.now c.args.self.now.table c.args.inner.node c.requires.part.inside
    (level_count c.args.self.now.store.now) c.requires.part.deep c.index-nodes-inner.result _ _ c.in-Union.is in
    n.few

pub find_alternative-requires-clause-alternatives : goal.find_alternative-requires-clause-alternatives
find_alternative-requires-clause-alternatives g c =
    let n = union_node c.args.self.now.nodes.now c.args.self.now.table c.args.inner.node c.requires.part.inside
    (level_count c.args.self.now.store.now) c.requires.part.deep c.index-nodes-inner.result _ _ c.in-Union.is in
    rw (c.deref-in-Union.ensures.value, c.open_level-in-Union.ensures.depth) n.alternatives_are

pub find_in_array-requires-clause-element : goal.find_in_array-requires-clause-element
find_in_array-requires-clause-element g c =
    let n = array_node c.args.self.now.nodes.now c.args.self.now.table c.args.inner.node c.requires.part.inside
    (level_count c.args.self.now.store.now) c.requires.part.deep c.index-nodes-inner.result _ _ c.in-Array.is in
    rw c.array_at.ensures.element_is (record { inside = n.inside; deep = n.deep })

pub find_in_array-requires-clause-sound : goal.find_in_array-requires-clause-sound
find_in_array-requires-clause-sound g c =
    let n = array_node c.args.self.now.nodes.now c.args.self.now.table c.args.inner.node c.requires.part.inside
    (level_count c.args.self.now.store.now) c.requires.part.deep c.index-nodes-inner.result _ _ c.in-Array.is in
    rw c.array_at.ensures.bound_is n.sound

pub read_site-requires-clause-width : goal.read_site-requires-clause-width
read_site-requires-clause-width g c =
    let n = integral_node c.args.self.now.nodes.now c.args.self.now.table c.args.inner.node c.requires.part.inside
    (level_count c.args.self.now.store.now) c.requires.part.deep c.index-nodes-inner.result _ _ _ c.in-Integral.is in
    n.width

pub returns-in-Struct-clause-is : goal.returns-in-Struct-clause-is
returns-in-Struct-clause-is g c =
    let n = struct_node c.args.self.now.nodes.now c.args.self.now.table c.args.inner.node c.requires.part.inside
    (level_count c.args.self.now.store.now) c.requires.part.deep c.index-nodes-inner.result _ _ _ c.in-Struct.is in
    let found = rw (c.struct_at.ensures, c.open_level.ensures.levels c.args.self.now.nodes.now, c.deref.ensures.value)
    at c.find_field.ensures.is in
    if_site (g.S.Space.view c.args.space.now) (g.S.Space.view c.args.space.now) c.args.self.now.nodes.now
    (frames_after c.args.self.now c.find_field.new.self)
    (λ bits. fields_path bits c.in-Struct.pinned c.args.inner.start
    (open_fields (type_of c.args.self.now.nodes.now) c.in-Struct.fields.items) c.args.inner.order
    (opened (frames_of c.args.self.now)) c.args.inner.start)
    (λ bits. path_in bits c.args.self.now.nodes.now (frames_of c.args.self.now) c.args.inner) refl
    (λ bytes known.
    let whole = g.met.S.Space.whole c.args.space.now bytes known in
    let here : c.args.inner.start ≤ length (bits_of bytes) =
    rw length-bits_of (omega (arith, whole, c.if-from-inner.false, c.from.ensures, c.len.ensures)) in
    ap (λ ty. path_of (bits_of bytes) ty c.args.inner.order (frames_of c.args.self.now) c.args.inner.start) n.type_is
    ∙ struct_path (bits_of bytes) c.args.inner.order (frames_of c.args.self.now) c.args.inner.start here
    (title_at c.args.self.now.nodes.now c.args.inner.node) c.in-Struct.pinned
    (open_fields (type_of c.args.self.now.nodes.now) c.in-Struct.fields.items))
    c.find_field.result found

pub returns-in-Union-clause-is : goal.returns-in-Union-clause-is
returns-in-Union-clause-is g c =
    let n = union_node c.args.self.now.nodes.now c.args.self.now.table c.args.inner.node c.requires.part.inside
    (level_count c.args.self.now.store.now) c.requires.part.deep c.index-nodes-inner.result _ _ c.in-Union.is in
    let found = rw
    (c.union_at.ensures, c.open_level-in-Union.ensures.levels c.args.self.now.nodes.now, c.deref-in-Union.ensures.value)
    at c.find_alternative.ensures.is in
    if_site (g.S.Space.view c.args.space.now) (g.S.Space.view c.args.space.now) c.args.self.now.nodes.now
    (frames_after c.args.self.now c.find_alternative.new.self)
    (λ bits. alternatives_path bits (open_parts (type_of c.args.self.now.nodes.now) c.in-Union.alternatives.items)
    c.args.inner.order (opened (frames_of c.args.self.now)) c.args.inner.start)
    (λ bits. path_in bits c.args.self.now.nodes.now (frames_of c.args.self.now) c.args.inner) refl
    (λ bytes known.
    let whole = g.met.S.Space.whole c.args.space.now bytes known in
    let here : c.args.inner.start ≤ length (bits_of bytes) =
    rw length-bits_of (omega (arith, whole, c.if-from-inner.false, c.from.ensures, c.len.ensures)) in
    ap (λ ty. path_of (bits_of bytes) ty c.args.inner.order (frames_of c.args.self.now) c.args.inner.start) n.type_is
    ∙ union_path (bits_of bytes) c.args.inner.order (frames_of c.args.self.now) c.args.inner.start here
    (title_at c.args.self.now.nodes.now c.args.inner.node)
    (open_parts (type_of c.args.self.now.nodes.now) c.in-Union.alternatives.items))
    c.find_alternative.result found

pub returns-in-Array-clause-is : goal.returns-in-Array-clause-is
returns-in-Array-clause-is g c =
    let nodes = c.args.self.now.nodes.now in
    let before = frames_of c.args.self.now in
    let array = c.array_at.result in
    let n = array_node nodes c.args.self.now.table c.args.inner.node c.requires.part.inside
    (level_count c.args.self.now.store.now) c.requires.part.deep c.index-nodes-inner.result _ _ c.in-Array.is in
    if_site (g.S.Space.view c.args.space.now) (g.S.Space.view c.args.space.now) nodes
    (levels nodes c.find_in_array.new.self.store.now)
    (λ bits.
    path_of bits (ArrayOf (type_of nodes array.element) (bound_of array.bound.now)) array.order before array.start)
    (λ bits. path_in bits nodes before c.args.inner) refl
    (λ bytes known. array_in (bits_of bytes) nodes before c.args.inner c.in-Array.element c.in-Array.bound array
    c.array_at.ensures n.type_is)
    c.find_in_array.result c.find_in_array.ensures.is

pub returns-in-Integral-clause-is : goal.returns-in-Integral-clause-is
returns-in-Integral-clause-is g c =
    let n = integral_node c.args.self.now.nodes.now c.args.self.now.table c.args.inner.node c.requires.part.inside
    (level_count c.args.self.now.store.now) c.requires.part.deep c.index-nodes-inner.result _ _ _ c.in-Integral.is in
    if_read (g.S.Space.view c.args.space.now) c.args.self.now.nodes.now (frames_of c.args.self.now) c.args.inner
    c.in-Integral.number (ap number_type n.type_is) c.read_site.result c.read_site.ensures.small c.read_site.ensures.is

pub returns-in-Integer-clause-is : goal.returns-in-Integer-clause-is
returns-in-Integer-clause-is g c =
    λ bytes known.
    ap (λ ty. path_of (bits_of bytes) ty c.args.inner.order (frames_of c.args.self.now) c.args.inner.start)
    (opened_as c.args.self.now.nodes.now c.args.self.now.table c.args.inner.node c.requires.part.inside
    c.index-nodes-inner.result _ c.in-Integer.is)

pub returns-in-Offset-clause-is : goal.returns-in-Offset-clause-is
returns-in-Offset-clause-is g c =
    λ bytes known.
    ap (λ ty. path_of (bits_of bytes) ty c.args.inner.order (frames_of c.args.self.now) c.args.inner.start)
    (opened_as c.args.self.now.nodes.now c.args.self.now.table c.args.inner.node c.requires.part.inside
    c.index-nodes-inner.result _ c.in-Offset.is)

pub returns-in-String-clause-is : goal.returns-in-String-clause-is
returns-in-String-clause-is g c =
    λ bytes known.
    ap (λ ty. path_of (bits_of bytes) ty c.args.inner.order (frames_of c.args.self.now) c.args.inner.start)
    (opened_as c.args.self.now.nodes.now c.args.self.now.table c.args.inner.node c.requires.part.inside
    c.index-nodes-inner.result _ c.in-String.is)

pub returns-in-Struct-clause-spends : goal.returns-in-Struct-clause-spends
returns-in-Struct-clause-spends g c =
    let n = struct_node c.args.self.now.nodes.now c.args.self.now.table c.args.inner.node c.requires.part.inside
    (level_count c.args.self.now.store.now) c.requires.part.deep c.index-nodes-inner.result _ _ _ c.in-Struct.is in
    let found = rw (c.struct_at.ensures, c.open_level.ensures.levels c.args.self.now.nodes.now, c.deref.ensures.value)
    at c.find_field.ensures.spends in
    λ bytes known.
    let whole = g.met.S.Space.whole c.args.space.now bytes known in
    let here : c.args.inner.start ≤ length (bits_of bytes) =
    rw length-bits_of (omega (arith, whole, c.if-from-inner.false, c.from.ensures, c.len.ensures)) in
    let same =
    ap (λ ty. search_of (bits_of bytes) ty c.args.inner.order (frames_of c.args.self.now) c.args.inner.start) n.type_is
    ∙ struct_search (bits_of bytes) c.args.inner.order (frames_of c.args.self.now) c.args.inner.start here
    (title_at c.args.self.now.nodes.now c.args.inner.node) c.in-Struct.pinned
    (open_fields (type_of c.args.self.now.nodes.now) c.in-Struct.fields.items) in
    rw same (found bytes known)

pub returns-in-Union-clause-spends : goal.returns-in-Union-clause-spends
returns-in-Union-clause-spends g c =
    let n = union_node c.args.self.now.nodes.now c.args.self.now.table c.args.inner.node c.requires.part.inside
    (level_count c.args.self.now.store.now) c.requires.part.deep c.index-nodes-inner.result _ _ c.in-Union.is in
    let found = rw
    (c.union_at.ensures, c.open_level-in-Union.ensures.levels c.args.self.now.nodes.now, c.deref-in-Union.ensures.value)
    at c.find_alternative.ensures.spends in
    λ bytes known.
    let whole = g.met.S.Space.whole c.args.space.now bytes known in
    let here : c.args.inner.start ≤ length (bits_of bytes) =
    rw length-bits_of (omega (arith, whole, c.if-from-inner.false, c.from.ensures, c.len.ensures)) in
    let same =
    ap (λ ty. search_of (bits_of bytes) ty c.args.inner.order (frames_of c.args.self.now) c.args.inner.start) n.type_is
    ∙ union_search (bits_of bytes) c.args.inner.order (frames_of c.args.self.now) c.args.inner.start here
    (title_at c.args.self.now.nodes.now c.args.inner.node)
    (open_parts (type_of c.args.self.now.nodes.now) c.in-Union.alternatives.items) in
    rw same (found bytes known)

pub returns-in-Array-clause-spends : goal.returns-in-Array-clause-spends
returns-in-Array-clause-spends g c =
    let nodes = c.args.self.now.nodes.now in
    let before = frames_of c.args.self.now in
    let n = array_node nodes c.args.self.now.table c.args.inner.node c.requires.part.inside
    (level_count c.args.self.now.store.now) c.requires.part.deep c.index-nodes-inner.result _ _ c.in-Array.is in
    λ bytes known.
    let same = array_searched (bits_of bytes) nodes before c.args.inner c.in-Array.element c.in-Array.bound
    c.array_at.result c.array_at.ensures n.type_is in
    subst (λ (n : ℕ). SearchesReading (g.S.Space.view c.args.space.now) (g.S.Space.view c.find_in_array.new.space)
    c.args.self.now.meter.now c.find_in_array.new.self.meter.now n
    (site_left (bits_of bytes) nodes (levels nodes c.find_in_array.new.self.store.now)) c.find_in_array.result)
    (sym same) (c.find_in_array.ensures.spends bytes known)

pub returns-in-Integral-clause-spends : goal.returns-in-Integral-clause-spends
returns-in-Integral-clause-spends g c =
    let n = integral_node c.args.self.now.nodes.now c.args.self.now.table c.args.inner.node c.requires.part.inside
    (level_count c.args.self.now.store.now) c.requires.part.deep c.index-nodes-inner.result _ _ _ c.in-Integral.is in
    λ bytes known.
    let whole = g.met.S.Space.whole c.args.space.now bytes known in
    let here : c.args.inner.start ≤ length (bits_of bytes) =
    rw length-bits_of (omega (arith, whole, c.if-from-inner.false, c.from.ensures, c.len.ensures)) in
    if_read_search _ c.args.self.now.meter.now.limit c.args.self.now.meter.now.steps c.read_site.new.meter.steps
    (bits_of bytes) c.args.self.now.nodes.now (frames_of c.args.self.now) c.args.inner _
    c.in-Integral.number _ here n.type_is
    c.read_site.result c.read_site.ensures.small (on_known (g.S.Space.view c.args.space.now)
    (ReadsSite c.args.inner c.in-Integral.number) c.read_site.result c.read_site.ensures.is bytes known)
    (c.read_site.ensures.spends bytes known)
