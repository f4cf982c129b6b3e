-- Types whose values are all alike but for their numbers, as the mapper finds them.
use Rattle.std.specs.Prelude.{◌≡◌, ℕ, ◌+◌, ◌-◌, ◌*◌, ◌<◌, ◌≤◌, List, Option, Some, None, length, nat_le, if◌then◌else◌}
use Rattle.pickle_types.specs.declared.node.Field.{Field}
use Rattle.pickle_types.specs.declared.node.Node.{Node}
use Rattle.pickle_types.specs.declared.node.Part.{Part}
use Rattle.mapping_plans.specs.Rows.{Layout}
use Rattle.pickle_map.specs.declared.mapper.layouts.FixedSize.{FixedSize}

-- a size is that of a layout
abbrev pub IsSizeOf : Option FixedSize → Option Layout → Type 0
IsSizeOf None None = Unit {0}
IsSizeOf None (Some l) = ⊥
IsSizeOf (Some size) None = ⊥
IsSizeOf (Some size) (Some l) = (size.bits ≡ l.bits) × (size.bytes ≡ l.bytes)

-- it has at most 512 bytes
abbrev pub IsFew : Option FixedSize → Type 0
IsFew None = Unit {0}
IsFew (Some size) = (size.bits ≤ 8 * size.bytes) × (size.bytes ≤ 512)

-- the nodes of fields leave place for as many levels
abbrev pub HasPlace : List Node → (level : ℕ) → Field → Type 0
HasPlace nodes level f = level + f.node < length nodes

abbrev pub HasPartPlace : List Node → (level : ℕ) → Part → Type 0
HasPartPlace nodes level p = level + p.node < length nodes

-- what is left of so many after some; nothing if they are more
abbrev pub left_of : (weight left : ℕ) → Option ℕ
left_of weight left = if nat_le weight left then Some (left - weight) else None
