-- What a run must print for the bounds of a type, the tighter ones included.
use Rattle.std.specs.Prelude.{◌≡◌, ℕ, ◌++◌, List, Some, None, codes}
use Rattle.pickle_tree.specs.Tree.{DeclarationTree}
use Rattle.pickle_types.specs.Types.{PokeType}
use Rattle.pickle_types.specs.Names.{Names, find_type}
use Rattle.run_parts.specs.declared.accept.Refusal.{Refusal}
use Rattle.run_parts.specs.declared.status.Status.TheVariants.{Refused}
use Rattle.run_parts.specs.Accepted.{IsAccepted, Refuses, refusal_saying}
use Rattle.run_parts.specs.BoundText.{bound_line, bound_text}
use Rattle.run_parts.specs.Lines.{refused_line}
use Rattle.run_parts.specs.Told.{Saying, Text, Line}
use Rattle.tight_bounds.specs.declared.bound.BothBounds.{BothBounds}
use Rattle.tight_bounds.specs.Held.{AreBothBounds}

-- the most steps, the most slots, and then the tighter bounds on both
abbrev pub tight_text : BothBounds → List ℕ
tight_text both = bound_text both.steps both.slots
    ++ (bound_line (codes "tight steps ") both.tight_steps ++ bound_line (codes "tight slots ") both.tight_slots)

-- what is printed for the bounds of a type of a pickle, over so many bits
pub data TightBoundsAs (pickle name : List ℕ) (bits : ℕ) : Saying → Type 0 where
  tight_bounds : {declarations : List DeclarationTree} {types : Names} {type : PokeType} (both : BothBounds)
      → IsAccepted pickle declarations types → find_type name types ≡ Some type → AreBothBounds both type bits
      → TightBoundsAs pickle name bits (Text (tight_text both))
  no_type_to_bound : {declarations : List DeclarationTree} {types : Names} → IsAccepted pickle declarations types
      → find_type name types ≡ None
      → TightBoundsAs pickle name bits (Line Refused (refused_line (codes "NoSuchType")))
  refused_tight_bounds : {refusal : Refusal} → Refuses pickle refusal →
      TightBoundsAs pickle name bits (refusal_saying refusal)
