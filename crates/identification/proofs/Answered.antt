-- What a mapping's answer says of the values that a type means.
use Rattle.std.proofs.Common.{◌≡◌, ℕ, ◌⊎◌, inl, inr, List, Some, Result, Ok, Err, IfOk, IfErr, refl, ap}
use Rattle.bit_space.specs.declared.order.Order.{Order}
use Rattle.pickle_types.specs.declared.node.Node.{Node}
use Rattle.pickle_types.specs.Types.{PokeType}
use Rattle.pickle_meaning.specs.declared.faults.MapFaultKind.{MapFaultKind}
use Rattle.pickle_meaning.specs.declared.faults.MapFaultKind.TheVariants as fault
use Rattle.pickle_meaning.specs.Answer.{Answer, in_time, too_long}
use Rattle.pickle_meaning.specs.Clauses.{FaultAt}
use Rattle.pickle_meaning.specs.Means.{Means}
use Rattle.pickle_meaning.specs.Values.{Value, no_values, value_at}
use Rattle.mapping_plans.proofs.Planned.{means_one}
use Rattle.pickle_map.specs.Mapped.{EndsRun, FaultMeans, Gives}
use Rattle.value_store.specs.Slots.{Held, levels}
use Rattle.identification.specs.Attempts.{MapsTo}

-- the value that a store gives, as the value at its root
pub root_given : {nodes : List Node} {store : Held} {P : Value → Type 0} (g : Gives nodes store P) →
    value_at (levels nodes store) 0 0 ≡ Some g.value
root_given g = ap (λ levels. value_at levels 0 0) g.keeps

module _ {bits : List ℕ} {ty : PokeType} {order : Order} {s : ℕ} where
  -- an answer that is a value is what the type means
  pub value_meant : {limit : ℕ} {r : Result Value FaultAt} {k j : ℕ} → Answer bits ty order s limit r k j →
      IfOk r (λ v. Means bits ty order no_values s (Ok v) k j)
  value_meant (in_time {r = Ok v} means le) = means
  value_meant (in_time {r = Err f} means le) = tt
  value_meant (too_long means gt less) = tt

  -- one that is a fault is what the type means, or a limit
  pub fault_meant : {limit : ℕ} {r : Result Value FaultAt} {k j : ℕ} → Answer bits ty order s limit r k j →
      IfErr r (λ f. Means bits ty order no_values s (Err f) k j ⊎ (f.0 ≡ fault.Limit))
  fault_meant (in_time {r = Ok v} means le) = tt
  fault_meant (in_time {r = Err f} means le) = inl means
  fault_meant (too_long means gt less) = inr refl

  meant_alone : {limit : ℕ} {f : FaultAt} {k j : ℕ} → (f.0 ≡ fault.Limit → ⊥) →
      Answer bits ty order s limit (Err f) k j →
      (value : Value) → MapsTo bits ty order s value → ⊥
  meant_alone other answer value maps =
      elim (fault_meant answer) [
        | inl means ↦ (let same = (means_one means maps.means).0 in cc)
        | inr e ↦ other e
      ]

  -- where the type means a fault, it means no value
  pub fault_excludes : (limit : ℕ) (kind : MapFaultKind) (at k j : ℕ) → (EndsRun kind → ⊥) →
      FaultMeans bits ty order s limit kind at k j → (value : Value) → MapsTo bits ty order s value → ⊥
  fault_excludes limit fault.End at k j not means = meant_alone (λ e. cc) means
  fault_excludes limit fault.Constraint at k j not means = meant_alone (λ e. cc) means
  fault_excludes limit fault.Bounds at k j not means = meant_alone (λ e. cc) means
  fault_excludes limit fault.NoBits at k j not means = meant_alone (λ e. cc) means
  fault_excludes limit fault.Zero at k j not means = meant_alone (λ e. cc) means
  fault_excludes limit fault.Overflow at k j not means = meant_alone (λ e. cc) means
  fault_excludes limit fault.Absent at k j not means = meant_alone (λ e. cc) means
  fault_excludes limit fault.Index at k j not means = meant_alone (λ e. cc) means
  fault_excludes limit fault.Limit at k j not means = absurd (not tt)
  fault_excludes limit fault.Device at k j not means = absurd (not tt)
  fault_excludes limit fault.Memory at k j not means = absurd (not tt)
