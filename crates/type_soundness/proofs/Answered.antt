-- The faults that `map` returns for a type that was found in a table are given by no fallback.
use Rattle.std.proofs.Common.{ℕ, List, [], Result, Ok, Err}
use Rattle.bit_space.specs.declared.order.Order.{Order}
use Rattle.pickle_tree.specs.Tree.{Called, FormTree, Plain, DeclarationTree}
use Rattle.pickle_types.specs.declared.table.Table.{Table}
use Rattle.pickle_types.specs.declared.table.TypeId.{TypeId}
use Rattle.pickle_types.specs.Types.{PokeType}
use Rattle.pickle_types.specs.TypeTable.{types_of, type_named}
use Rattle.pickle_meaning.specs.declared.faults.MapFaultKind.{MapFaultKind}
use Rattle.pickle_meaning.specs.declared.faults.MapFaultKind.TheVariants as fault
use Rattle.pickle_meaning.specs.Values.{Value, no_values}
use Rattle.pickle_meaning.specs.Clauses.{FaultAt}
use Rattle.pickle_meaning.specs.Answer.{Answer, in_time, too_long}
use Rattle.pickle_map.specs.Mapped.{FaultMeans}
use Rattle.type_soundness.specs.Evaluated.{Evaluated, Evaluates}
use Rattle.type_soundness.specs.Yielded.{IsYielded, IsToldFault}
use Rattle.type_soundness.specs.MappingLaws.{IsFound, FaultsOfMapAreYielded}
use Rattle.type_soundness.proofs.Levels.{unseen_scope}
use Rattle.type_soundness.proofs.Trees.{IsWell}
use Rattle.type_soundness.proofs.WellTyped.{all_well}
use Rattle.type_soundness.proofs.Faults.{YieldedOr, fault_yields}

told_fault : (Among : Evaluated → Type 0) (kind : MapFaultKind) (place : ℕ) → IsYielded Among (kind, place) →
    IsToldFault Among kind place
told_fault Among fault.Limit place h = tt
told_fault Among fault.Device place h = tt
told_fault Among fault.Memory place h = tt
told_fault Among kind place h = h

abbrev ToldOr : (Evaluated → Type 0) → Result Value FaultAt → Type 0
ToldOr Among (Ok v) = Unit {0}
ToldOr Among (Err f) = IsToldFault Among f.0 f.1

outcome_told : (Among : Evaluated → Type 0) (r : Result Value FaultAt) → YieldedOr Among r → ToldOr Among r
outcome_told Among (Ok v) h = tt
outcome_told Among (Err f) h = told_fault Among f.0 f.1 h

module _ (declarations : List DeclarationTree) (bits : List ℕ) (form : FormTree) (ty : PokeType) (order : Order)
    (s limit : ℕ) (w : IsWell declarations ty form [] 0) where
  answer_told : {r : Result Value FaultAt} {k j : ℕ} → Answer bits ty order s limit r k j →
      ToldOr (Evaluates declarations bits form ty order [] no_values s) r
  answer_told (in_time {r} m le) = outcome_told (Evaluates declarations bits form ty order [] no_values s) r
      (fault_yields declarations m form [] [] 0 w (unseen_scope [] no_values))
  answer_told (too_long m gt le) = tt

  fault_told : (kind : MapFaultKind) (at k j : ℕ) → FaultMeans bits ty order s limit kind at k j →
      IsToldFault (Evaluates declarations bits form ty order [] no_values s) kind at
  fault_told fault.Device at k j h = tt
  fault_told fault.Memory at k j h = tt
  fault_told kind at k j h = answer_told h

found_type : (table : Table) (id : TypeId) (h : IsFound table id) →
    IsWell h.declarations (type_named table id) (Plain (Called h.word)) [] 0
found_type table id h = all_well h.declarations (types_of table) h.declared h.word (type_named table id) h.found

pub faults_of_map : FaultsOfMapAreYielded
faults_of_map table id bits order s limit kind at k j h = fault_told h.declarations bits (Plain (Called h.word))
    (type_named table id) order s limit (found_type table id h) kind at k j
