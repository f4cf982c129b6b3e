-- Types in whose arrays no element sees another one.
use Rattle.std.specs.Prelude.{ℕ, List, ◌∷◌, Option, Result}
use Rattle.bit_space.specs.declared.order.Order.{Order}
use Rattle.pickle_types.specs.Types.{PokeType, IntegerOf, OffsetOf, StringOf, ArrayOf, StructOf, IntegralOf, UnionOf, Fields, NoFields, FieldThen, Parts, NoParts, PartThen}
use Rattle.pickle_meaning.specs.Values.{Value, Levels}
use Rattle.pickle_meaning.specs.Clauses.{FaultAt}
use Rattle.pickle_meaning.specs.Means.{Means}

-- what a type means beside some frames it means beside others too, in as many steps and with as many values made
abbrev pub MeansAlike : PokeType → Levels → Levels → Type 0
MeansAlike ty levels levels' =
    (bits : List ℕ) (order : Order) (s : ℕ) (r : Result Value FaultAt) (k j : ℕ) → Means bits ty order levels s r k j →
    Means bits ty order levels' s r k j

-- an element of an array means the same whatever the array's own frame has, which holds the elements before it
abbrev pub SeesNoneBefore : PokeType → Type 0
SeesNoneBefore element = (levels : Levels) (before before' : List (Option Value)) →
    MeansAlike element (before ∷ levels) (before' ∷ levels)

unfoldable mutual
  -- that holds of each array in a type
  pub ArraysSeeNone : PokeType → Type 0
  ArraysSeeNone (IntegerOf type) = Unit {0}
  ArraysSeeNone (OffsetOf type unit) = Unit {0}
  ArraysSeeNone StringOf = Unit {0}
  ArraysSeeNone (ArrayOf element bound) = SeesNoneBefore element × ArraysSeeNone element
  ArraysSeeNone (StructOf name pinned fields) = FieldsSeeNone fields
  ArraysSeeNone (IntegralOf name type fields) = PartsSeeNone fields
  ArraysSeeNone (UnionOf name alternatives) = PartsSeeNone alternatives

  pub FieldsSeeNone : Fields → Type 0
  FieldsSeeNone NoFields = Unit {0}
  FieldsSeeNone (FieldThen name order type constraint label condition rest) = ArraysSeeNone type × FieldsSeeNone rest

  pub PartsSeeNone : Parts → Type 0
  PartsSeeNone NoParts = Unit {0}
  PartsSeeNone (PartThen name order type constraint rest) = ArraysSeeNone type × PartsSeeNone rest
