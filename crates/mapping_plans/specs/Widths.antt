-- Types whose numbers have 1 to 64 bits, as those of each table.
use Rattle.std.specs.Prelude.{◌≤◌}
use Rattle.pickle_types.specs.Sound.{IsWidth}
use Rattle.pickle_types.specs.Types.{PokeType, IntegerOf, OffsetOf, StringOf, ArrayOf, StructOf, IntegralOf, UnionOf, Fields, NoFields, FieldThen, Parts, NoParts, PartThen}

unfoldable mutual
  -- each number of the type has 1 to 64 bits, and each unit is at least one bit
  pub HasWidths : PokeType → Type 0
  HasWidths (IntegerOf type) = IsWidth type
  HasWidths (OffsetOf type unit) = IsWidth type × (1 ≤ unit)
  HasWidths StringOf = Unit {0}
  HasWidths (ArrayOf element bound) = HasWidths element
  HasWidths (StructOf name pinned fields) = HaveWidths fields
  HasWidths (IntegralOf name type fields) = IsWidth type × PartsHaveWidths fields
  HasWidths (UnionOf name alternatives) = PartsHaveWidths alternatives

  pub HaveWidths : Fields → Type 0
  HaveWidths NoFields = Unit {0}
  HaveWidths (FieldThen name order type constraint label condition rest) = HasWidths type × HaveWidths rest

  pub PartsHaveWidths : Parts → Type 0
  PartsHaveWidths NoParts = Unit {0}
  PartsHaveWidths (PartThen name order type constraint rest) = HasWidths type × PartsHaveWidths rest
