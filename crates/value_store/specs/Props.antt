-- The fact that a place is one of a store has one proof at most.
use mathlib.Core.HLevel.{⊥_prop}
use mathlib.Core.Logic.{∥∥₁_prop}
use Rattle.std.specs.Prelude.{ℕ, Option, Some, None, slice_get}
use Rattle.std.specs.Coded.{×_prop, le_prop}
use Rattle.value_store.specs.declared.store.slots.Node.{Node}
use Rattle.value_store.specs.declared.store.slots.Place.{Place}
use Rattle.value_store.specs.declared.store.slots.Place.TheVariants as place
use Rattle.value_store.specs.Lent.{IsPartIn, IsPlace}
use Rattle.value_store.specs.Slots.{Slots}

IsPartIn-prop : (s : Slots) (array : Option Node) (index node : ℕ) → IsProp (IsPartIn s array index node)
IsPartIn-prop s None i j = ⊥_prop
IsPartIn-prop s (Some n) i j = ×_prop le_prop ∥∥₁_prop

pub IsPlace-prop : (s : Slots) (p : Place) → IsProp (IsPlace s p)
IsPlace-prop s (place.Node at) = le_prop
IsPlace-prop s (place.Element array index) = le_prop
IsPlace-prop s (place.Part array index node) = ×_prop le_prop (IsPartIn-prop s (slice_get s.nodes array) index node)
