-- Sound types have widths and units of at least one bit; numbers are in the ranges of their types; expressions have
-- such types.
use Rattle.std.specs.Prelude.{◌<◌, ◌≤◌, ◌^◌, Bool, true, false, ℤ, pos, negsuc, Option, Some, None}
use Rattle.pickle_types.specs.declared.integer.IntegerType.{IntegerType}
use Rattle.pickle_types.specs.declared.check.operators.Scalar.{Scalar}
use Rattle.pickle_types.specs.declared.check.operators.Scalar.TheVariants.{Integer, Offset}
use Rattle.pickle_types.specs.declared.check.operators.Operand.{Operand}
use Rattle.pickle_types.specs.declared.check.operators.Operand.TheVariants as operand
use Rattle.pickle_types.specs.Types.{Term, Number, Text, Name, Bracket, Before, Between, Choice, Index, Select, AttributeOf, ToInteger, ToOffset, InUnit, Bound, Unbounded, ByCount, BySize}

-- a width from 1 to 64
pub record IsWidth (type : IntegerType) : Type 0 where
  pub some : 1 ≤ type.width
  pub most : type.width ≤ 64

abbrev pub IsOptionalWidth : Option IntegerType → Type 0
IsOptionalWidth None = Unit {0}
IsOptionalWidth (Some type) = IsWidth type

-- a number of at most 64 bits, with a sign or without one
abbrev pub IsSmall : Bool → ℤ → Type 0
IsSmall true (pos n) = n < 2 ^ 63
IsSmall true (negsuc n) = n < 2 ^ 63
IsSmall false (pos n) = n < 2 ^ 64
IsSmall false (negsuc n) = ⊥

-- an integer that has a width, or an offset that has one and a unit of at least one bit
abbrev pub IsSoundScalar : Scalar → Type 0
IsSoundScalar (Integer type) = IsWidth type
IsSoundScalar (Offset type unit) = IsWidth type × (1 ≤ unit)

-- an operand that is a number has a width
abbrev pub IsSoundOperand : Operand → Type 0
IsSoundOperand (operand.Number s) = IsSoundScalar s
IsSoundOperand operand.String = Unit {0}
IsSoundOperand operand.Text = Unit {0}
IsSoundOperand operand.Other = Unit {0}

abbrev pub IsSoundTerm : Term → Type 0
IsSoundTerm (Number type value) = IsWidth type × IsSmall type.signed (pos value)
IsSoundTerm (Text bytes) = Unit {0}
IsSoundTerm (Name level place) = Unit {0}
IsSoundTerm (Bracket e) = IsSoundTerm e
IsSoundTerm (Before op e) = IsSoundTerm e
IsSoundTerm (Between op a b) = IsSoundTerm a × IsSoundTerm b
IsSoundTerm (Choice common c x y) = IsOptionalWidth common × IsSoundTerm c × IsSoundTerm x × IsSoundTerm y
IsSoundTerm (Index e i) = IsSoundTerm e × IsSoundTerm i
IsSoundTerm (Select e place) = IsSoundTerm e
IsSoundTerm (AttributeOf attribute e) = IsSoundTerm e
IsSoundTerm (ToInteger type e) = IsWidth type × IsSoundTerm e
IsSoundTerm (ToOffset type unit e) = IsWidth type × (1 ≤ unit) × IsSoundTerm e
IsSoundTerm (InUnit unit e) = (1 ≤ unit) × IsSoundTerm e

-- a sound constraint, label or condition, if there is one
abbrev pub IsSoundClause : Option Term → Type 0
IsSoundClause None = Unit {0}
IsSoundClause (Some e) = IsSoundTerm e

abbrev pub IsSoundBound : Bound → Type 0
IsSoundBound Unbounded = Unit {0}
IsSoundBound (ByCount e) = IsSoundTerm e
IsSoundBound (BySize e) = IsSoundTerm e
