-- The elements of an array of packed structs.
use Rattle.std.proofs.Common.{◌≡◌, ◌≢◌, ℕ, ◌+◌, ◌*◌, ◌≤◌, true, false, List, [], ◌∷◌, ◌++◌, Option, Some, Result, Ok, length, refl, sym, ap, ◌∙◌, arith}
use Rattle.std.specs.Prelude.{◌||◌}
use Rattle.std.proofs.lemmas.Bool.{false≢true}
use Rattle.std.proofs.Math.Nat.{mul-suc}
use Rattle.bit_space.specs.declared.order.Order.{Order}
use Rattle.pickle_types.specs.declared.node.Field.{Field}
use Rattle.pickle_types.specs.declared.node.Node.{Node}
use Rattle.pickle_types.specs.Bounds.{least_width, has_label, sum_of_widths, is_some, where_present}
use Rattle.pickle_types.specs.Types.{PokeType, IntegerOf, OffsetOf, StringOf, ArrayOf, StructOf, IntegralOf, UnionOf}
use Rattle.pickle_types.specs.Table.{type_of, open_fields}
use Rattle.pickle_meaning.specs.declared.extent.Extent.{Extent}
use Rattle.pickle_meaning.specs.Clauses.{FaultAt}
use Rattle.pickle_meaning.specs.Values.{Value, Levels}
use Rattle.value_store.specs.declared.store.slots.Shape.{Shape}
use Rattle.value_store.specs.Moves.{State}
use Rattle.value_store.specs.Names.{Names, title_at}
use Rattle.value_store.specs.PackedStructs.{struct_bits, struct_bytes, struct_of, structs_of, structs_array}
use Rattle.value_store.specs.Slots.{Held, levels, number_bits, packs}
use Rattle.value_store.proofs.PackedStructs.{structs-levels}
use Rattle.mapping_plans.specs.Avoids.{IsScalar, AreColumns}
use Rattle.mapping_plans.specs.Mapping.{plan, element_plan}
use Rattle.mapping_plans.specs.Plan.{Plan}
use Rattle.mapping_plans.specs.Rows.{scalar_shape}
use Rattle.pickle_map.specs.declared.mapper.stop.Stop.{Stop}
use Rattle.pickle_map.specs.declared.mapper.stop.Stop.TheVariants.{Memory}
use Rattle.pickle_map.specs.Columns.{shapes_of}
use Rattle.pickle_map.specs.Follows.{World, Done, Follows}
use Rattle.pickle_map.specs.Records.{HasStructs, no_structs, some_structs, as_record}
use Rattle.pickle_map.specs.Row.{IsRecordType}
use Rattle.pickle_map.specs.Stops.{stop_finish, stop_ends}
use Rattle.mapping_plans.proofs.Alike.{Alike, Same}
use Rattle.pickle_map.proofs.Alike.{FitsToo, done_too, stop_too, same_alike}
use Rattle.pickle_map.proofs.Records.{record_rowed}

-- ---- widths

scalar_least : (ty : PokeType) → IsScalar ty → least_width ty ≡ number_bits (scalar_shape ty)
unfolding least_width
scalar_least (IntegerOf type) h = refl
scalar_least (OffsetOf type unit) h = refl
scalar_least StringOf h = absurd h
scalar_least (ArrayOf element bound) h = absurd h
scalar_least (StructOf name pinned _) h = absurd h
scalar_least (IntegralOf name type _) h = absurd h
scalar_least (UnionOf name alternatives) h = absurd h

columns_least : (types : ℕ → PokeType) (fs : List Field) → AreColumns (open_fields types fs) →
    (has_label (open_fields types fs) ≡ false)
    × (sum_of_widths (open_fields types fs) ≡ struct_bits (shapes_of types fs))
unfolding sum_of_widths
columns_least types [] h = (refl, refl)
columns_least types (f ∷ fs) h =
    let rest = columns_least types fs h.4 in (
      ap (λ l. is_some l || has_label (open_fields types fs)) h.2 ∙ rest.0,
      ap (λ w. where_present w (least_width (types f.node)) + sum_of_widths (open_fields types fs)) h.3
          ∙ ap (λ n. n + sum_of_widths (open_fields types fs)) (scalar_least (types f.node) h.0)
          ∙ ap (λ n. number_bits (scalar_shape (types f.node)) + n) rest.1,
    )

-- the least width of such a struct is the one that it has
pub record_least : (nodes : List Node) (at : ℕ) (fs : List Field) → IsRecordType nodes at fs →
    least_width (type_of nodes at) ≡ struct_bits (shapes_of (type_of nodes) fs)
unfolding least_width
record_least nodes at fs r =
    let c = columns_least (type_of nodes) fs r.columns in
    ap least_width r.is ∙ rw c.0 c.1

-- it has at least one bit
bytes_least : (cs : List Shape) → struct_bytes cs ≤ struct_bits cs
bytes_least [] = omega arith
bytes_least (c ∷ cs) = let e = bytes_least cs in omega (arith, e)

pub record_some : (nodes : List Node) (at : ℕ) (fs : List Field) → IsRecordType nodes at fs →
    1 ≤ struct_bits (shapes_of (type_of nodes) fs)
record_some nodes at fs r = let e = bytes_least (shapes_of (type_of nodes) fs) in omega (arith, e, r.stride, r.some)

-- ---- one more struct

pub structs_more : (names : Names) (of : ℕ) (cs : List Shape) (start place : ℕ) (rows : List (List ℕ)) (ds : List ℕ) →
    place ≡ start + struct_bits cs * length rows →
    structs_of names of cs start (rows ++ ds ∷ [])
    ≡ structs_of names of cs start rows ++ Some (struct_of names of cs place ds) ∷ []
structs_more names of cs start place [] ds e =
    let same : start ≡ place = omega (arith, e) in ap (λ s. Some (struct_of names of cs s ds) ∷ []) same
structs_more names of cs start place (r ∷ rows) ds e =
    ap (λ os. Some (struct_of names of cs start r) ∷ os) (structs_more names of cs (start + struct_bits cs) place rows
    ds (omega (arith, e, mul-suc (struct_bits cs) (length rows))))

-- a stop at which an array ends is none for want of memory
pub ends_with_memory : (extent : Extent) (stop : Stop) → stop_ends extent stop ≡ true → stop ≢ Memory
ends_with_memory extent stop ends = λ e. false≢true (sym (ap (stop_ends extent) e) ∙ ends)

-- ---- the plan of an element

-- the frames of the store
record HasFrames (nodes : List Node) (h : Held) (outer : Levels) : Type 0 where
  before : List (Option Value)
  are : levels nodes h ≡ before ∷ outer

has_frames : (nodes : List Node) (h : Held) (at : ℕ) (cs : List Shape) (start : ℕ) (outer : Levels)
    (rows : List (List ℕ)) → HasStructs nodes h at cs start outer rows → HasFrames nodes h outer
has_frames nodes h at cs start outer _ (no_structs is opened) = record { before = []; are = is }
has_frames nodes h at cs start outer _ (some_structs {rows} some w) = record {
  before = Some (structs_array nodes at cs start rows) ∷ [];
  are = structs-levels nodes h at cs start rows outer w;
}

module _ (nodes : List Node) (h : Held) (at : ℕ) (fs : List Field) (r : IsRecordType nodes at fs) (start : ℕ)
    (outer : Levels) (rows : List (List ℕ))
    (has : HasStructs nodes h at (shapes_of (type_of nodes) fs) start outer rows) (world : World)
    (packing : packs world.room ≡ true) (m : ℕ) (order : Order) (place : ℕ) where
  abbrev inside : Levels
  inside = structs_of nodes at (shapes_of (type_of nodes) fs) start rows ∷ outer

  abbrev own : Plan (Result Value FaultAt)
  own = as_record at fs order place nodes m (levels nodes h)

  abbrev element : Plan (Result Value FaultAt)
  element = element_plan (type_of nodes at) (plan m (type_of nodes at) order) inside place

  elements_alike : Alike (FitsToo world) Same own element
  elements_alike =
      let f = has_frames nodes h at (shapes_of (type_of nodes) fs) start outer rows has in
      let s = same_alike
      (record_rowed world packing r.widths f.before (structs_of nodes at (shapes_of (type_of nodes) fs) start rows)
      outer m (title_at nodes at) (open_fields (type_of nodes) fs) r.columns order place) in
      rw (f.are, ← r.stride, r.row, r.is) s

  module _ {limit k j k' j' : ℕ} {state state' : State} where
    pub record_goes : {v : Value} → Follows world limit own k j state k' j' state' (Done (Ok v)) →
        Follows world limit element k j state k' j' state' (Done (Ok v))
    record_goes h = done_too elements_alike h

    pub record_stops : (stop : Stop) → Follows world limit own k j state k' j' state' (stop_finish stop) →
        Follows world limit element k j state k' j' state' (stop_finish stop)
    record_stops stop h = stop_too elements_alike stop h
