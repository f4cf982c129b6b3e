-- The parts that are made of fields, alternatives and elements.
use Rattle.std.specs.Prelude.{◌≡◌, ℕ, Bool, Option, None}
use Rattle.bit_space.specs.declared.order.Order.{Order}
use Rattle.pickle_types.specs.declared.node.Extent.{Extent as Bound}
use Rattle.pickle_types.specs.declared.node.Field.{Field}
use Rattle.pickle_types.specs.declared.node.Part.{Part as Alternative}
use Rattle.pickle_types.specs.Types.{Term}
use Rattle.pickle_types.specs.Table.{optional_term}
use Rattle.pickle_meaning.specs.Means.{ordered}
use Rattle.pickle_meaning.specs.declared.extent.Extent.{Extent}
use Rattle.fault_location.specs.declared.part.Array.{Array}
use Rattle.fault_location.specs.declared.part.Elements.{Elements}
use Rattle.fault_location.specs.declared.part.Part.{Part}
use Rattle.fault_location.specs.declared.part.StructStart.{StructStart}
use Rattle.fault_location.specs.declared.part.UnionStart.{UnionStart}
use Rattle.fault_location.specs.declared.site.Inner.{Inner}
use Rattle.fault_location.specs.Ways.{constraint_of}

-- a part is this type with this constraint
pub record IsMadeOf (inner : Inner) (clause : Option Term) (part : Part) : Type 0 where
  pub inner_is : part.inner ≡ inner
  pub clause_is : constraint_of part ≡ clause

-- it is a field of a struct, or an alternative of a union, in the byte order around it
abbrev pub IsFieldPart : Field → Order → (start : ℕ) → Part → Type 0
IsFieldPart field order start part =
    IsMadeOf (record { node = field.node; order = ordered field.order order; start = start })
    (optional_term field.constraint) part

abbrev pub IsAlternativePart : Alternative → UnionStart → Part → Type 0
IsAlternativePart alternative whole part =
    IsMadeOf (record { node = alternative.node; order = ordered alternative.order whole.order; start = whole.start })
    (optional_term alternative.constraint) part

-- a struct and a union that are a type
abbrev pub struct_at : Inner → (pinned : Bool) → StructStart
struct_at inner pinned = record { pinned = pinned; order = inner.order; start = inner.start }

abbrev pub union_at : Inner → UnionStart
union_at inner = record { order = inner.order; start = inner.start }

-- an array is that type
pub record IsArrayAt (inner : Inner) (element : ℕ) (bound : Bound) (array : Array) : Type 0 where
  pub element_is : array.element ≡ element
  pub bound_is : array.bound.now ≡ bound
  pub order_is : array.order ≡ inner.order
  pub start_is : array.start ≡ inner.start

-- the elements of an array up to this extent, and the element at a bit
abbrev pub elements_of : Array → Extent → Elements
elements_of array extent = record { element = array.element; extent = extent; order = array.order; start = array.start }

abbrev pub element_at : Elements → (start : ℕ) → Inner
element_at elements start = record { node = elements.element; order = elements.order; start = start }

-- a part is this type alone
abbrev pub IsBare : Inner → Part → Type 0
IsBare inner part = IsMadeOf inner None part
