-- What a run must print for the bounds of a type, that on memory included.
use Rattle.std.specs.Prelude.{◌≡◌, ℕ, ◌++◌, List, Option, Some, None, true, codes}
use Rattle.pickle_tree.specs.Tree.{DeclarationTree}
use Rattle.pickle_types.specs.Types.{PokeType}
use Rattle.pickle_types.specs.Bounds.{IsBound, cost, room}
use Rattle.pickle_types.specs.Names.{Names, find_type}
use Rattle.run_parts.specs.declared.accept.Refusal.{Refusal}
use Rattle.run_parts.specs.declared.status.Status.TheVariants.{Refused}
use Rattle.run_parts.specs.Accepted.{IsAccepted, Refuses, refusal_saying}
use Rattle.run_parts.specs.BoundText.{bound_line, bound_text}
use Rattle.run_parts.specs.Lines.{refused_line}
use Rattle.run_parts.specs.Told.{Saying, Text, Line}
use Rattle.type_soundness.specs.CapacityLaws.{bound_lengths}
use Rattle.value_store.specs.Weights.{weight}

-- the most steps, the most slots, and then the most bytes that values take
abbrev pub memory_text : (steps slots memory : Option ℕ) → List ℕ
memory_text steps slots memory = bound_text steps slots ++ bound_line (codes "memory ") memory

-- the bounds of a type over so many bits
pub record AreMemoryBounds (steps slots memory : Option ℕ) (type : PokeType) (bits : ℕ) : Type 0 where
  pub most_steps : IsBound steps (cost type bits)
  pub most_slots : IsBound slots (room type bits)
  pub most_bytes : IsBound memory (weight (bound_lengths true type bits))

-- what is printed for the bounds of a type of a pickle, over so many bits
pub data MemoryBoundAs (pickle name : List ℕ) (bits : ℕ) : Saying → Type 0 where
  memory_bounds : {declarations : List DeclarationTree} {types : Names} {type : PokeType}
      {steps slots memory : Option ℕ} → IsAccepted pickle declarations types → find_type name types ≡ Some type
      → AreMemoryBounds steps slots memory type bits
      → MemoryBoundAs pickle name bits (Text (memory_text steps slots memory))
  no_type_to_bound : {declarations : List DeclarationTree} {types : Names} → IsAccepted pickle declarations types
      → find_type name types ≡ None
      → MemoryBoundAs pickle name bits (Line Refused (refused_line (codes "NoSuchType")))
  refused_memory_bounds : {refusal : Refusal} → Refuses pickle refusal →
      MemoryBoundAs pickle name bits (refusal_saying refusal)
