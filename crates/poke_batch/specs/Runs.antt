-- What a run must print for a pickle.
use Rattle.std.specs.Prelude.{◌≡◌, ◌≢◌, ◌*◌, ◌<◌, ℕ, List, Option, Some, None, Result, Ok, Err, length, codes}
use Rattle.pickle_tree.specs.Tree.{DeclarationTree}
use Rattle.pickle_types.specs.Types.{PokeType}
use Rattle.pickle_types.specs.Names.{Names, find_type}
use Rattle.pickle_types.specs.Bounds.{cost, room, IsBound}
use Rattle.pickle_meaning.specs.Answer.{Answer}
use Rattle.pickle_meaning.specs.Clauses.{FaultAt}
use Rattle.pickle_meaning.specs.Fits.{Fits}
use Rattle.pickle_meaning.specs.Values.{Value, no_values}
use Rattle.pickle_meaning.specs.declared.faults.MapFaultKind.{MapFaultKind}
use Rattle.pickle_meaning.specs.declared.faults.MapFaultKind.TheVariants as fault
use Rattle.bit_space.specs.declared.order.Order.{Order}
use Rattle.bit_space.specs.Bits.{bits_of}
use Rattle.bit_space.specs.SpaceView.{SpaceView, HasRisen}
use Rattle.run_parts.specs.declared.accept.Refusal.{Refusal}
use Rattle.run_parts.specs.declared.outcome.Outcome.{Outcome}
use Rattle.run_parts.specs.declared.outcome.Outcome.TheVariants as outcome
use Rattle.command_line.specs.declared.ask.Ask.{Ask}
use Rattle.run_parts.specs.declared.status.Status.TheVariants.{Fault, Refused, Outside}
use Rattle.run_parts.specs.Accepted.{IsAccepted, Refuses, refusal_saying}
use Rattle.run_parts.specs.BoundText.{bound_line, bound_text}
use Rattle.pickle_meaning.specs.FaultNames.{fault_kind}
use Rattle.pickle_map.specs.Mapped.{RunsToFault}
use Rattle.run_parts.specs.Lines.{refused_line, fault_line, fault_at_line}
use Rattle.run_parts.specs.Told.{Saying, Text, Line}
use Rattle.value_text.specs.Printed.{printed}

-- how many types are declared
abbrev pub types_text : ℕ → List ℕ
types_text n = bound_line (codes "types ") (Some n)

-- what a check prints: how many types an accepted pickle declares, or why it is refused
pub data ChecksAs (pickle : List ℕ) : Saying → Type 0 where
  accepted : {declarations : List DeclarationTree} {types : Names} → IsAccepted pickle declarations types →
      ChecksAs pickle (Text (types_text (length declarations)))
  refused : {refusal : Refusal} → Refuses pickle refusal → ChecksAs pickle (refusal_saying refusal)

-- what is printed for the bounds of a type of a pickle, over so many bits
pub data BoundsAs (pickle name : List ℕ) (bits : ℕ) : Saying → Type 0 where
  bounds : {declarations : List DeclarationTree} {types : Names} {type : PokeType} (steps slots : Option ℕ)
      → IsAccepted pickle declarations types → find_type name types ≡ Some type
      → IsBound steps (cost type bits) → IsBound slots (room type bits)
      → BoundsAs pickle name bits (Text (bound_text steps slots))
  no_such_type : {declarations : List DeclarationTree} {types : Names} → IsAccepted pickle declarations types
      → find_type name types ≡ None
      → BoundsAs pickle name bits (Line Refused (refused_line (codes "NoSuchType")))
  refused_bounds : {refusal : Refusal} → Refuses pickle refusal → BoundsAs pickle name bits (refusal_saying refusal)

-- the pickle is accepted, and the type of a name in it is this one
pub record IsAsked (pickle name : List ℕ) (type : PokeType) : Type 0 where
  pub declarations : List DeclarationTree
  pub types : Names
  pub accepted : IsAccepted pickle declarations types
  pub found : find_type name types ≡ Some type

-- why a pickle has no type of a name: it is refused, or declares none
pub data HasNoType (pickle name : List ℕ) : Outcome → Type 0 where
  refused_pickle : {refusal : Refusal} → Refuses pickle refusal → HasNoType pickle name (outcome.Refused refusal)
  no_type : {declarations : List DeclarationTree} {types : Names} → IsAccepted pickle declarations types
      → find_type name types ≡ None → HasNoType pickle name outcome.NoSuchType

-- the answer of a type from the bit `start` of a file's bytes on, under a limit of steps, in some steps and with some
-- values made
pub record HasAnswer (bytes : List ℕ) (type : PokeType) (order : Order) (start limit : ℕ)
    (answer : Result Value FaultAt) : Type 0 where
  pub steps : ℕ
  pub made : ℕ
  pub means : Answer (bits_of bytes) type order start limit answer steps made

-- what a mapping over a space prints, from the space's view before to its view after
pub data MapsAs (pickle : List ℕ) (ask : Ask) (before after : SpaceView) : Saying → Type 0 where
  -- the value that the type means on the file's bits, if they are known; over any space a value that fits the type
  value : {type : PokeType} {mapped : Value} → IsAsked pickle ask.name.now type
      → ((bytes : List ℕ) → before.bytes ≡ Some bytes → HasAnswer bytes type ask.order ask.start ask.limit (Ok mapped))
      → Fits (8 * before.len) type no_values ask.start mapped
      → MapsAs pickle ask before after (Text (printed ask.mode mapped))
  -- the fault that the type means there; over any space the fault of a run on the numbers that were read, and Limit
  -- only if the type can take more steps than the limit
  stops : {type : PokeType} {kind : MapFaultKind} {at : ℕ} → IsAsked pickle ask.name.now type → kind ≢ fault.Device
      → kind ≢ fault.Memory
      → ((bytes : List ℕ) → before.bytes ≡ Some bytes
      → HasAnswer bytes type ask.order ask.start ask.limit (Err (kind, at)))
      → RunsToFault before type ask.order ask.start ask.limit kind at
      → (kind ≡ fault.Limit → (at ≡ ask.start) × (ask.limit < cost type (8 * before.len)))
      → MapsAs pickle ask before after (Line Fault (fault_at_line (fault_kind kind) at))
  device : {type : PokeType} → IsAsked pickle ask.name.now type → HasRisen before.failures after.failures
      → MapsAs pickle ask before after (Line Outside (fault_line (codes "Device")))
  -- the pickle has no type of that name
  unknown : {declarations : List DeclarationTree} {types : Names} → IsAccepted pickle declarations types
      → find_type ask.name.now types ≡ None
      → MapsAs pickle ask before after (Line Refused (refused_line (codes "NoSuchType")))
  refused_map : {refusal : Refusal} → Refuses pickle refusal → MapsAs pickle ask before after (refusal_saying refusal)
  no_memory : MapsAs pickle ask before after (Line Outside (fault_line (codes "Memory")))
