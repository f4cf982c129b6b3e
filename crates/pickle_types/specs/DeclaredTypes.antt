-- The name, the kind and the least width of each declared type.
use Rattle.std.specs.Prelude.{ℕ, ◌^◌, nat_le, if◌then◌else◌, List, Option, Some, None, drop}
use Rattle.pickle_types.specs.declared.declared_types.TypeKind.{TypeKind}
use Rattle.pickle_types.specs.declared.declared_types.TypeKind.TheVariants as kind
use Rattle.pickle_types.specs.declared.declared_types.DeclaredType.{DeclaredType}
use Rattle.pickle_types.specs.declared.node.Shape.{Shape}
use Rattle.pickle_types.specs.declared.node.Shape.TheVariants as shape
use Rattle.pickle_types.specs.Types.{PokeType, IntegerOf, OffsetOf, StringOf, ArrayOf, StructOf, IntegralOf, UnionOf}
use Rattle.pickle_types.specs.Bounds.{least_width}
use Rattle.pickle_types.specs.Names.{Names}

-- the kind of a type; an integral struct is a struct
abbrev pub kind_of : PokeType → TypeKind
kind_of (IntegerOf type) = kind.Integer
kind_of (OffsetOf type unit) = kind.Offset
kind_of StringOf = kind.String
kind_of (ArrayOf element bound) = kind.Array
kind_of (StructOf name pinned _) = kind.Struct
kind_of (IntegralOf name type _) = kind.Struct
kind_of (UnionOf name alternatives) = kind.Union

-- the kind of the type of a shape
abbrev pub shape_kind : Shape → TypeKind
shape_kind (shape.Integer type) = kind.Integer
shape_kind (shape.Offset type unit) = kind.Offset
shape_kind shape.String = kind.String
shape_kind (shape.Array element bound) = kind.Array
shape_kind (shape.Struct name pinned fields) = kind.Struct
shape_kind (shape.Integral name number fields) = kind.Struct
shape_kind (shape.Union name alternatives) = kind.Union

-- the declared types, which come after the 18 predeclared ones
abbrev pub declared_in : Names → Names
declared_in types = drop 18 types

-- a width as it is reported: None from 2^64 on
abbrev pub held_width : ℕ → Option ℕ
held_width width = if nat_le (2 ^ 64) width then None else Some width

-- the name, the kind and the least width of a type, as they are reported
abbrev pub Told : Type 0
Told = List ℕ × TypeKind × Option ℕ

abbrev pub told_of : DeclaredType → Told
told_of told = (told.name.now, told.kind, told.least)

abbrev pub told_as : List ℕ × PokeType → Told
told_as named = (named.0, kind_of named.1, held_width (least_width named.1))
