-- The records of a type in a file: its values, each from the end of the one before.
use Rattle.std.specs.Prelude.{◌≡◌, ◌<◌, ◌≤◌, ◌+◌, ◌-◌, ◌*◌, ℕ, Bool, true, false, not, ◌&&◌, nat_le, nat_lt, if◌then◌else◌, List, [], ◌∷◌, Option, Some, None, Ok}
use Rattle.bit_space.specs.Bits.{bits_of}
use Rattle.bit_space.specs.SpaceView.{SpaceView}
use Rattle.command_line.specs.declared.ask.Ask.{Ask}
use Rattle.pickle_meaning.specs.Answer.{Answer}
use Rattle.pickle_meaning.specs.Fits.{Fits}
use Rattle.pickle_meaning.specs.Values.{Value, end_of, no_values}
use Rattle.poke_batch.specs.RunsUnder.{AreLightUnder}
use Rattle.poke_batch.specs.TypeRuns.{run_type}
use Rattle.poke_batch.specs.declared.type_run.TypeRun.{TypeRun}
use Rattle.records.specs.declared.listing.Listing.{Listing}
use Rattle.records.specs.declared.listing.Progress.{Progress}
use Rattle.text_output.specs.declared.mode.Mode.{Mode}
use Rattle.text_output.specs.declared.mode.Mode.TheVariants as mode

-- ---- how far a list is, and what its next record is given

-- nothing of the list was mapped
abbrev pub first_of : Ask → Progress
first_of ask = record { place = ask.start; count = 0; left = ask.limit }

-- the list takes a step for each record itself
abbrev pub ask_at : Progress → Ask → Ask
ask_at at ask = record ask { start = at.place; limit = at.left - 1 }

-- after a value that took so many steps
abbrev pub after : Progress → Value → (steps : ℕ) → Progress
after at value steps = record { place = end_of value; count = at.count + 1; left = at.left - 1 - steps }

-- ---- which records are mapped, and which are written

abbrev pub counted_out : (most : Option ℕ) → (omit count : ℕ) → Bool
counted_out None omit count = false
counted_out (Some most) omit count = nat_le (omit + most) count

-- enough records were written, of so many that were mapped
abbrev pub is_counted : Listing → (count : ℕ) → Bool
is_counted listing count = counted_out listing.count listing.omit count

-- one more record is due in a file of so many bits
abbrev pub goes_on : Listing → Progress → (bits : ℕ) → Bool
goes_on listing at bits = not (is_counted listing at.count) && nat_lt at.place bits

-- a record is written that has so many before it
abbrev pub is_written : Listing → (before : ℕ) → Bool
is_written listing before = nat_le listing.omit before

-- modes in which a value has many lines
abbrev pub has_lines : Mode → Bool
has_lines mode.Flat = false
has_lines mode.Tree = true
has_lines mode.Json = false
has_lines mode.Lines = true

-- a blank line is written before it: between two values of many lines
abbrev pub starts_apart : Listing → Mode → (before : ℕ) → Bool
starts_apart listing mode before = nat_lt listing.omit before && has_lines mode

abbrev pub separator : Listing → Mode → (before : ℕ) → List ℕ
separator listing mode before = if starts_apart listing mode before then 10 ∷ [] else []

-- ---- the records

-- From here on the type means a value, in so many steps within those that are left, and what its mapping stores never
-- weighs more than the terms allow. Where the file's bytes aren't known, the value fits the type.
pub record IsRecord (run : TypeRun) (space : SpaceView) (at : Progress) (value : Value) (steps : ℕ) : Type 0 where
  pub due : at.place < 8 * space.len
  pub paid : 0 < at.left
  pub few : steps ≤ at.left - 1
  pub made : ℕ
  pub means : (bytes : List ℕ) → space.bytes ≡ Some bytes →
      Answer (bits_of bytes) (run_type run) run.ask.now.order at.place (at.left - 1) (Ok value) steps made
  pub fits : Fits (8 * space.len) (run_type run) no_values at.place value
  pub light : AreLightUnder run.terms.now (run_type run) (ask_at at run.ask.now) space
