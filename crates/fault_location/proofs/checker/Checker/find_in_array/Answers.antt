use Rattle.std.proofs.Common.{◌≤◌, length, Err, refl, arith}
use Rattle.std.proofs.lemmas.Result.{err_from_is_err_and}
use Rattle.bit_space.specs.Bits.{bits_of}
use Rattle.bit_space.specs.SpaceView.{HasRisen}
use Rattle.bit_space.proofs.Digits.{length-bits_of}
use Rattle.pickle_types.specs.Types.{ArrayOf}
use Rattle.pickle_types.specs.Table.{type_of, bound_of}
use Rattle.pickle_meaning.specs.declared.extent.Extent.{Extent}
use Rattle.pickle_meaning.specs.Clauses.{bound_steps, extent_of}
use Rattle.fault_parts.specs.Paths.{path_of}
use Rattle.fault_location.proofs.Located.{array_among, if_site}
use Rattle.fault_location.specs.Searched.{search_among, search_of, site_left}
use Rattle.fault_location.specs.Sites.{path_among}
use Rattle.fault_location.proofs.Searching.{array_least, bound_search, none_of, searches_later, settled_spends, stop_ends}
use Rattle.value_store.specs.Slots.{levels}
use Rattle.fault_location.specs.Frames.{frames_of}
use Rattle.fault_location.proofs.checker.Checker.find_in_array.Goals as goal

pub returns-in-Ok-clause-is : goal.returns-in-Ok-clause-is
returns-in-Ok-clause-is g c =
    let nodes = c.args.self.now.nodes.now in
    let array = c.args.array in
    let before = frames_of c.args.self.now in
    if_site (g.S.Space.view c.args.space.now) (g.S.Space.view c.args.space.now) nodes
    (levels nodes c.find_element.new.self.store.now)
    (λ bits. path_among bits nodes (levels nodes c.open_level.new.self) c.elements_of.result)
    (λ bits.
    path_of bits (ArrayOf (type_of nodes array.element) (bound_of array.bound.now)) array.order before array.start) refl
    (λ bytes known.
    let whole = g.met.S.Space.whole c.args.space.now bytes known in
    let here : array.start ≤ length (bits_of bytes) = rw length-bits_of (omega (arith, whole, c.requires.inside)) in
    array_among (bits_of bytes) nodes before (levels nodes c.open_level.new.self) c.elements_of.result
    (record { element = array.element; extent = c.in-Ok.extent; order = array.order; start = array.start })
    c.elements_of.ensures (c.open_level.ensures.levels nodes) here (bound_of array.bound.now)
    (c.in-Ok.ensures.is nodes).0)
    c.find_element.result c.find_element.ensures.is

pub returns-in-Ok-clause-spends : goal.returns-in-Ok-clause-spends
returns-in-Ok-clause-spends g c =
    λ bytes known.
    let nodes = c.args.self.now.nodes.now in
    let array = c.args.array in
    let before = frames_of c.args.self.now in
    let took = (c.in-Ok.ensures.is nodes).1 in
    let whole = g.met.S.Space.whole c.args.space.now bytes known in
    let here : array.start ≤ length (bits_of bytes) = rw length-bits_of (omega (arith, whole, c.requires.inside)) in
    let n = search_among (bits_of bytes) nodes (levels nodes c.open_level.new.self) c.elements_of.result in
    let least = array_least (bits_of bytes) nodes before (levels nodes c.open_level.new.self) c.elements_of.result
    (record { element = array.element; extent = c.in-Ok.extent; order = array.order; start = array.start })
    c.elements_of.ensures (c.open_level.ensures.levels nodes) here (bound_of array.bound.now)
    (c.in-Ok.ensures.is nodes).0 in
    let failed =
    HasRisen (g.S.Space.view c.args.space.now).failures (g.S.Space.view c.find_element.new.space).failures in
    let left = site_left (bits_of bytes) nodes (levels nodes c.find_element.new.self.store.now) in
    searches_later {D = failed} {D' = failed} c.find_extent.new.meter.limit c.args.self.now.meter.now.limit
    c.find_extent.new.meter.steps c.args.self.now.meter.now.steps c.find_element.new.self.meter.now.steps n
    (search_of (bits_of bytes) (ArrayOf (type_of nodes array.element) (bound_of array.bound.now)) array.order before
    array.start) left left c.find_element.result (λ d. d) c.in-Ok.ensures.meter.limit (omega (arith, took, least))
    (λ site. omega arith) (c.find_element.ensures.spends bytes known)

pub returns-in_ok-_fault-in-Err-clause-spends : goal.returns-in_ok-_fault-in-Err-clause-spends
returns-in_ok-_fault-in-Err-clause-spends g c =
    λ bytes known.
    let took = (rw c.in_ok-_fault-in-Err.ensures at (c.in-Err.ensures.is c.args.self.now.nodes.now)).1 in
    let whole = g.met.S.Space.whole c.args.space.now bytes known in
    let here : c.args.array.start ≤ length (bits_of bytes) =
    rw length-bits_of (omega (arith, whole, c.requires.inside)) in
    let least = bound_search (bits_of bytes) c.args.array.order (frames_of c.args.self.now) c.args.array.start here
    (type_of c.args.self.now.nodes.now c.args.array.element) (bound_of c.args.array.bound.now) in
    omega (arith, took, least)

pub returns-in_err-_fault-in-Err-clause-spends : goal.returns-in_err-_fault-in-Err-clause-spends
returns-in_err-_fault-in-Err-clause-spends g c =
    let p = err_from_is_err_and c.from_residual.result c.from_residual.ensures.1 in
    λ bytes known.
    let whole = g.met.S.Space.whole c.args.space.now bytes known in
    let here : c.args.array.start ≤ length (bits_of bytes) =
    rw length-bits_of (omega (arith, whole, c.requires.inside)) in
    let least = bound_search (bits_of bytes) c.args.array.order (frames_of c.args.self.now) c.args.array.start here
    (type_of c.args.self.now.nodes.now c.args.array.element) (bound_of c.args.array.bound.now) in
    let spends = settled_spends {A = Extent} c.args.self.now.meter.now.limit c.args.self.now.meter.now.steps
    c.find_extent.new.meter.steps
    (bound_steps (bound_of c.args.array.bound.now) (frames_of c.args.self.now)) (Err c.in-Err.stop)
    (extent_of (bound_of c.args.array.bound.now) (frames_of c.args.self.now) c.args.array.start)
    (c.in-Err.ensures.is c.args.self.now.nodes.now) in
    rw (p.1, p.2) (stop_ends c.args.self.now.meter.now.limit c.args.self.now.meter.now.limit
    c.args.self.now.meter.now.steps c.args.self.now.meter.now.steps c.find_extent.new.meter.steps
    (bound_steps (bound_of c.args.array.bound.now) (frames_of c.args.self.now))
    (search_of (bits_of bytes)
    (ArrayOf (type_of c.args.self.now.nodes.now c.args.array.element) (bound_of c.args.array.bound.now))
    c.args.array.order (frames_of c.args.self.now) c.args.array.start) c.in-Err.stop _ c.in_err-_fault-in-Err.ensures
    none_of refl (omega (arith, least)) spends)
