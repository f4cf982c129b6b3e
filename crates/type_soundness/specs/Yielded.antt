-- Faults that a mapping has by the rules of the language.
use Rattle.std.specs.Prelude.{ℕ, Err}
use Rattle.pickle_meaning.specs.declared.faults.MapFaultKind.{MapFaultKind}
use Rattle.pickle_meaning.specs.declared.faults.MapFaultKind.TheVariants as fault
use Rattle.pickle_meaning.specs.Clauses.{FaultAt}
use Rattle.type_soundness.specs.Derivations.{Yields}
use Rattle.type_soundness.specs.Evaluated.{Evaluated}

-- A fault that no fallback gives: the bits end, a constraint is 0 or no alternative matches, a bound or label is
-- negative or a size isn't filled exactly, an element takes no bits; or the fault that an evaluated expression yields,
-- at its place.
pub data IsYielded (Among : Evaluated → Type 0) : FaultAt → Type 0 where
  bits_end : {place : ℕ} → IsYielded Among (fault.End, place)
  unmet : {place : ℕ} → IsYielded Among (fault.Constraint, place)
  out_of_bounds : {place : ℕ} → IsYielded Among (fault.Bounds, place)
  element_of_no_bits : {place : ℕ} → IsYielded Among (fault.NoBits, place)
  of_expression : {kind : MapFaultKind} {steps : ℕ} (a : Evaluated) → Among a →
      Yields a.levels a.expression (Err kind) steps → IsYielded Among (kind, a.place)

-- a fault that ends a run isn't a fault of the type
abbrev pub IsToldFault : (Evaluated → Type 0) → MapFaultKind → (place : ℕ) → Type 0
IsToldFault Among fault.Limit place = Unit {0}
IsToldFault Among fault.Device place = Unit {0}
IsToldFault Among fault.Memory place = Unit {0}
IsToldFault Among kind place = IsYielded Among (kind, place)
