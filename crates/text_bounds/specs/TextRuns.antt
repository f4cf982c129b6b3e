-- What a run must print for the bounds of a type, the bound on printed values included.
use Rattle.std.specs.Prelude.{◌≡◌, ℕ, List, Option, Some, None, codes}
use Rattle.pickle_tree.specs.Tree.{DeclarationTree}
use Rattle.pickle_types.specs.Types.{PokeType}
use Rattle.pickle_types.specs.Names.{Names, find_type}
use Rattle.pickle_types.specs.Bounds.{cost, room, IsBound}
use Rattle.run_parts.specs.declared.accept.Refusal.{Refusal}
use Rattle.text_output.specs.declared.mode.Mode.{Mode}
use Rattle.text_output.specs.declared.style.Style.{Style}
use Rattle.run_parts.specs.declared.status.Status.TheVariants.{Refused}
use Rattle.run_parts.specs.Accepted.{IsAccepted, Refuses, refusal_saying}
use Rattle.run_parts.specs.BoundText.{bound_text_and}
use Rattle.run_parts.specs.Lines.{refused_line}
use Rattle.text_bounds.specs.TextRoom.{most_text_for}
use Rattle.text_bounds.specs.declared.run.AllBounds.{AllBounds}
use Rattle.text_bounds.specs.declared.texts.Texts.{Texts}
use Rattle.run_parts.specs.Told.{Saying, Text, Line}

-- what is printed for the bounds of a type of a pickle, over so many bits, in a style, and in a mode if one is given
pub data TextBoundsAs (pickle name : List ℕ) (bits : ℕ) (style : Style) (mode : Option Mode) : Saying → Type 0 where
  text_bounds : {declarations : List DeclarationTree} {types : Names} {type : PokeType} (steps slots text : Option ℕ)
      → IsAccepted pickle declarations types → find_type name types ≡ Some type
      → IsBound steps (cost type bits) → IsBound slots (room type bits)
      → IsBound text (most_text_for style mode type bits)
      → TextBoundsAs pickle name bits style mode (Text (bound_text_and steps slots text))
  no_type_to_bound : {declarations : List DeclarationTree} {types : Names} → IsAccepted pickle declarations types
      → find_type name types ≡ None
      → TextBoundsAs pickle name bits style mode (Line Refused (refused_line (codes "NoSuchType")))
  refused_text_bounds : {refusal : Refusal} → Refuses pickle refusal →
      TextBoundsAs pickle name bits style mode (refusal_saying refusal)

-- these are the bounds of a type for its texts
pub record AreAllBounds (all : AllBounds) (type : PokeType) (texts : Texts) : Type 0 where
  pub steps : IsBound all.steps (cost type texts.bits)
  pub slots : IsBound all.slots (room type texts.bits)
  pub text : IsBound all.text (most_text_for texts.style texts.mode type texts.bits)
