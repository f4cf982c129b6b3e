-- How a mapping ended, as what its type has.
use Rattle.std.proofs.Common.{◌≡◌, ℕ, List, Some, Result, Ok, Err, sym, subst}
use Rattle.std.specs.Prelude.{IfErr, OnOk}
use Rattle.bit_space.specs.Bits.{bits_of}
use Rattle.bit_space.specs.SpaceView.{SpaceView}
use Rattle.pickle_types.specs.declared.node.Node.{Node}
use Rattle.pickle_types.specs.Types.{PokeType}
use Rattle.pickle_meaning.specs.Answer.{Answer}
use Rattle.value_store.specs.Slots.{Held}
use Rattle.pickle_meaning.specs.declared.faults.MapFault.{MapFault}
use Rattle.pickle_map.specs.Mapped.{Gives, FaultMeans}
use Rattle.command_line.specs.declared.ask.Ask.{Ask}
use Rattle.fault_report.specs.declared.again.Again.{Again}
use Rattle.fault_report.specs.Meant.{HasFault, HasValue}
use Rattle.fault_report.specs.Found.{IsKept, KeepsPart}
use Rattle.fault_report.specs.Why.{Run, FailsRead, TellsWhy}

module _ {A : Type 0} (space : SpaceView) (type : PokeType) (ask : Ask) (limit steps made : ℕ)
    (same : limit ≡ ask.limit) where
  pub fault_meant : (r : Result A MapFault)
      → ((bytes : List ℕ) → space.bytes ≡ Some bytes
      → IfErr r (λ f. FaultMeans (bits_of bytes) type ask.order ask.start limit f.kind f.at steps made))
      → IfErr r (HasFault space type ask)
  fault_meant (Ok x) h = tt
  fault_meant (Err f) h =
      λ bytes known. record {
        steps = steps;
        made = made;
        means = subst (λ l. FaultMeans (bits_of bytes) type ask.order ask.start l f.kind f.at steps made)
            same (h bytes known);
      }

  pub value_meant : (nodes : List Node) (store : Held) (r : Result A MapFault)
      → ((bytes : List ℕ) → space.bytes ≡ Some bytes
      → OnOk r (Gives nodes store (λ v. Answer (bits_of bytes) type ask.order ask.start limit (Ok v) steps made)))
      → OnOk r (HasValue space type ask)
  value_meant nodes store (Ok x) h =
      λ bytes known. let g = h bytes known in (
        g.value,
        record {
          steps = steps;
          made = made;
          means = subst (λ l. Answer (bits_of bytes) type ask.order ask.start l (Ok g.value) steps made) same g.holds;
        },
      )
  value_meant nodes store (Err f) h = tt

-- what is printed about a fault that ended the mapping, for a type that is the one that was mapped
pub told_again : (run : Run) (type found : PokeType) (again : Again) (fault : MapFault) (text : List ℕ) → found ≡ type
    → again.end ≡ Err fault
    → IfErr again.end (HasFault run.space type run.ask) → KeepsPart run.space run.after type run.ask again
    → IfErr again.end (FailsRead run)
    → (HasFault run.space found run.ask fault → IsKept run.space run.after found run.ask fault again.kept.fault
    → FailsRead run fault → TellsWhy run found text)
    → TellsWhy run type text
told_again run type found again fault text same ended has part fails tells =
    let had = subst (λ (end : Result (Unit {0}) MapFault). IfErr end (HasFault run.space type run.ask)) ended has in
    let there = subst (λ (end : Result (Unit {0}) MapFault).
    IfErr end (λ f. IsKept run.space run.after type run.ask f again.kept.fault)) ended part in
    let failed = subst (λ (end : Result (Unit {0}) MapFault). IfErr end (FailsRead run)) ended fails in
    let back = sym same in
    let has_found = subst (λ (t : PokeType). HasFault run.space t run.ask fault) back had in
    let there_found =
    subst (λ (t : PokeType). IsKept run.space run.after t run.ask fault again.kept.fault) back there in
    subst (λ (t : PokeType). TellsWhy run t text) same (tells has_found there_found failed)
