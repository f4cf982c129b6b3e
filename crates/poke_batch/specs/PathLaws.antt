-- The laws of the paths that the mode `lines` prints.
use Rattle.std.specs.Prelude.{◌≡◌, ◌^◌, ◌<◌, ℕ, List, Some}
use Rattle.pickle_types.specs.Types.{PokeType}
use Rattle.pickle_meaning.specs.Fits.{Fits}
use Rattle.pickle_meaning.specs.Values.{Label, Value, Mapped, Members, NoMembers, MemberThen, AbsentThen, Levels}
use Rattle.value_store.specs.Labels.{member_name}
use Rattle.value_text.specs.LineParts.{Line, IsLineOf}
use Rattle.value_text.specs.PathText.{path_text}
use Rattle.value_text.specs.SmallParts.{HasFewMembers}
use Rattle.command_line.specs.declared.path.Step.{Step}
use Rattle.command_line.specs.Paths.{PathStep, steps_of, IsName, IsPath}
use Rattle.poke_batch.specs.PathParts.{part_of}
use Rattle.poke_batch.specs.Runs.{IsAsked}

-- no two members of a value have the same name, and each name is one that a path may have
pub record HasClearNames (label : Label) : Type 0 where
  pub apart : (i j : ℕ) (name : List ℕ) → member_name label i ≡ Some name → member_name label j ≡ Some name → i ≡ j
  pub words : (i : ℕ) (name : List ℕ) → member_name label i ≡ Some name → IsName name

abbrev mutual
  -- so it is for a value, and for each value in it
  pub HasClearPaths : Value → Type 0
  HasClearPaths (Mapped label start end members) = HasClearNames label × HaveClearPaths members

  pub HaveClearPaths : Members → Type 0
  HaveClearPaths NoMembers = Unit {0}
  HaveClearPaths (MemberThen value rest) = HasClearPaths value × HaveClearPaths rest
  HaveClearPaths (AbsentThen rest) = HaveClearPaths rest

-- a text is a path, and whatever steps are read from it lead to this part
pub record IsPathTo (value : Value) (text : List ℕ) (part : Value) : Type 0 where
  pub steps : List PathStep
  pub is : IsPath text steps
  pub leads : (read : List Step) → IsPath text (steps_of read) → part_of read value ≡ Some part

-- the path on a line leads to just the part whose line it is
abbrev pub PathsLeadToParts : Type 0
PathsLeadToParts = (value : Value) (line : Line) → HasClearPaths value → HasFewMembers value → IsLineOf value line →
    IsPathTo value (path_text line.steps) line.part

-- a value that fits a type of an accepted pickle has such names
abbrev pub MappedPathsAreClear : Type 0
MappedPathsAreClear = (pickle name : List ℕ) (m : ℕ) (type : PokeType) (levels : Levels) (start : ℕ) (value : Value)
    → IsAsked pickle name type → Fits m type levels start value → HasClearPaths value

-- on fewer than 2^64 bits it has few members
abbrev pub MappedMembersAreFew : Type 0
MappedMembersAreFew = (pickle name : List ℕ) (m : ℕ) (type : PokeType) (levels : Levels) (start : ℕ) (value : Value)
    → m < 2 ^ 64 → IsAsked pickle name type → Fits m type levels start value → HasFewMembers value
