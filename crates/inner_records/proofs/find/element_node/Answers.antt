-- `element_node`: the path leads on through structs, to an array.
use Rattle.std.proofs.Common.{◌≡◌, ◌∙◌, ◌+◌, ◌<◌, ◌≤◌, ◌∷◌, [], true, arith, refl, drop, length, sym, ap, get_or, ℕ, subst}
use Rattle.std.proofs.lemmas.List.{drop_all, drop_more}
use Rattle.inner_lists.proofs.Shapes.{list_is_array, list_is_struct}
use Rattle.inner_records.specs.Find.{element_type}
use Rattle.inner_records.proofs.ElementTypes.{array_element, element_inside, next_element, next_inside, next_list, next_node}
use Rattle.list_laws.specs.Paths.{Path, is_list}
use Rattle.pickle_types.specs.Table.{type_of}
use Rattle.inner_records.proofs.find.element_node.Goals as goal

-- the path from the place of one of its fields on
leads_on : (is : Path → Type 0) (path : Path) (index : ℕ) → index < length path → is (drop index path) →
    is (get_or path index 0 ∷ drop (index + 1) path)
leads_on is path index inside h = subst is (drop_more path index 0 inside) h

at_end : (is : Path → Type 0) (path : Path) (index : ℕ) → length path ≤ index → is (drop index path) → is []
at_end is path index past h = subst is (drop_all index path past) h

pub index-requires : goal.index-requires
index-requires c =
    let nodes = c.args.nodes.now in
    let list = leads_on (λ path. is_list (type_of nodes c.loop-place.at) path ≡ true) c.args.path.now
    c.loop-place.place-index c.loop-place-test.true c.loop-place.invariant.list in
    let inside = next_inside nodes c.requires.table c.loop-place.at c.loop-place.invariant.inside
    c.index-nodes-at.result _ _ c.in-Struct.fields c.in-Struct.fields.items c.in-Struct.is refl _ _ list in
    omega (arith, inside, c.in-Struct.fields.ok)

pub unreachable-requires : goal.unreachable-requires
unreachable-requires c =
    let nodes = c.args.nodes.now in
    list_is_struct nodes c.requires.table c.loop-place.at c.loop-place.invariant.inside c.index-nodes-at.result _ _
    (leads_on (λ path. is_list (type_of nodes c.loop-place.at) path ≡ true) c.args.path.now
    c.loop-place.place-index c.loop-place-test.true c.loop-place.invariant.list) c.in_default.not-Struct

pub unreachable-requires-in_default-shape : goal.unreachable-requires-in_default-shape
unreachable-requires-in_default-shape c =
    let nodes = c.args.nodes.now in
    list_is_array nodes c.requires.table c.loop-place.at c.loop-place.invariant.inside c.index-nodes-at-2.result
    (at_end (λ path. is_list (type_of nodes c.loop-place.at) path ≡ true) c.args.path.now
    c.loop-place.place-index c.loop-place-test.false c.loop-place.invariant.list) c.in_default-shape.not-Array

pub returns-clause-inside : goal.returns-clause-inside
returns-clause-inside c =
    element_inside c.args.nodes.now c.requires.table c.loop-place.at c.loop-place.invariant.inside
    c.index-nodes-at-2.result _ _ c.in-Array.is

pub returns-clause-is : goal.returns-clause-is
returns-clause-is c =
    array_element c.args.nodes.now c.requires.table c.loop-place.at c.loop-place.invariant.inside
    c.index-nodes-at-2.result _ _ c.in-Array.is (drop c.loop-place.place-index c.args.path.now)
    ∙ sym c.loop-place.invariant.type

pub loop-place-preserved : goal.loop-place-preserved
loop-place-preserved c =
    let nodes = c.args.nodes.now in
    let on = drop_more c.args.path.now c.loop-place.place-index 0 c.loop-place-test.true in
    let list = leads_on (λ path. is_list (type_of nodes c.loop-place.at) path ≡ true) c.args.path.now
    c.loop-place.place-index c.loop-place-test.true c.loop-place.invariant.list in
    let h = c.index.ensures in
    record {
      inside = next_node nodes c.requires.table c.loop-place.at c.loop-place.invariant.inside
          c.index-nodes-at.result _ _ c.in-Struct.fields c.in-Struct.fields.items c.in-Struct.is refl _ _ list
          c.index.result.now h;
      list = next_list nodes c.requires.table c.loop-place.at c.loop-place.invariant.inside
          c.index-nodes-at.result _ _ c.in-Struct.fields c.in-Struct.fields.items c.in-Struct.is refl _ _ list
          c.index.result.now h;
      type = c.loop-place.invariant.type
          ∙ ap (element_type (type_of nodes c.loop-place.at)) on
          ∙ next_element nodes c.requires.table c.loop-place.at c.loop-place.invariant.inside
          c.index-nodes-at.result _ _ c.in-Struct.fields c.in-Struct.fields.items c.in-Struct.is refl _ _ list
          c.index.result.now h;
    }
