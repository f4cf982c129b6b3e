-- The pickles that are installed, and their formats.
use Rattle.std.specs.Prelude.{◌≡◌, ◌⊎◌, ℕ, List, [], ◌∷◌, ◌++◌, Option, Some, None, Result, Ok, Err, option_map, string_bytes}
use Rattle.command_line.specs.declared.identification.Identification.{Identification}
use Rattle.identification.specs.Prepared.{AreFormats, TellsUnprepared}
use Rattle.identification.specs.declared.format.Formats.{Formats}
use Rattle.identification.specs.declared.prepare.Source.{Source}
use Rattle.identification.specs.declared.prepare.Unprepared.{Unprepared as Unfit}
use Rattle.jobs.specs.Due.{End}
use Rattle.jobs.specs.Gives.{Gives, InstalledPickle}
use Rattle.jobs.specs.declared.ending.Ending.TheVariants.{Run, Silent}
use Rattle.jobs.specs.declared.fault.FileFault.{FileFault}
use Rattle.jobs.specs.declared.fault.FileFault.TheVariants as fault
use Rattle.run_parts.specs.declared.outcome.Failure.TheVariants as failure
use Rattle.run_parts.specs.declared.outcome.Outcome.TheVariants as outcome
use Rattle.run_parts.specs.declared.status.Status.TheVariants.{Refused}
use Rattle.jobs.specs.declared.installed.Formatless.{Formatless}
use Rattle.jobs.specs.declared.installed.Formatless.TheVariants.{Memory, Unprepared, Unread}
use Rattle.jobs.specs.declared.installed.Installed.{Installed}
use Rattle.jobs.specs.declared.opener.NamedPickle.{NamedPickle}

abbrev pub read_bytes : Result NamedPickle FileFault → Result (List ℕ) FileFault
read_bytes (Ok pickle) = Ok pickle.bytes.items
read_bytes (Err fault) = Err fault

abbrev pub installed_pickle : Installed → InstalledPickle
installed_pickle installed = record { name = installed.name.items; pickle = read_bytes installed.pickle }

-- why the first pickle that isn't read isn't
abbrev pub unread_or : Result (List ℕ) FileFault → Option FileFault → Option FileFault
unread_or (Ok bytes) later = later
unread_or (Err fault) later = Some fault

abbrev pub first_unread : List InstalledPickle → Option FileFault
first_unread [] = None
first_unread (pickle ∷ pickles) = unread_or pickle.pickle (first_unread pickles)

-- the pickles that are read
pub record ReadPickle : Type 0 where
  pub name : List ℕ
  pub bytes : List ℕ

abbrev pub read_before : (name : List ℕ) → Result (List ℕ) FileFault → List ReadPickle → List ReadPickle
read_before name (Ok bytes) pickles = record { name = name; bytes = bytes } ∷ pickles
read_before name (Err fault) pickles = pickles

abbrev pub read_among : List InstalledPickle → List ReadPickle
read_among [] = []
read_among (pickle ∷ pickles) = read_before pickle.name pickle.pickle (read_among pickles)

-- the same names and the same bytes, in the same order
abbrev pub AreSources : List ReadPickle → List Source → Type 0
AreSources [] [] = Unit {0}
AreSources [] (source ∷ sources) = ⊥
AreSources (pickle ∷ pickles) [] = ⊥
AreSources (pickle ∷ pickles) (source ∷ sources) =
    (source.name.now ≡ pickle.name) × (source.pickle.now ≡ pickle.bytes) × AreSources pickles sources

-- one more source, if a pickle is read
abbrev pub AddsRead : (name : List ℕ) → Result (List ℕ) FileFault → (before after : List Source) → Type 0
AddsRead name (Ok bytes) before after = (source : Source) × (source.name.now ≡ name) × (source.pickle.now ≡ bytes)
    × (after ≡ before ++ source ∷ [])
AddsRead name (Err fault) before after = after ≡ before

-- the formats of installed pickles, all of which are read
pub record HasFormats (pickles : List InstalledPickle) (formats : Formats) : Type 0 where
  pub all_read : first_unread pickles ≡ None
  pub sources : List Source
  pub are : AreSources (read_among pickles) sources
  pub prepared : AreFormats sources formats

-- why they have none
abbrev pub IsFormatless : List InstalledPickle → Formatless → Type 0
IsFormatless pickles Memory = Unit {0}
IsFormatless pickles (Unread fault) = first_unread pickles ≡ Some fault
IsFormatless pickles (Unprepared unfit) =
    (sources : List Source) × AreSources (read_among pickles) sources × TellsUnprepared sources unfit

-- how a job ends that has none
abbrev pub EndsFormatless : Formatless → End → Type 0
EndsFormatless Memory end = end ≡ Err fault.Memory
EndsFormatless (Unread why) end = end ≡ Err why
EndsFormatless (Unprepared unfit) end = (end ≡ Ok (Silent Refused)) ⊎ (end ≡ Ok (Run (outcome.Failed failure.Memory)))

-- what is due among the formats of the pickles in a folder: nothing if one of them isn't read or memory lacks; nothing
-- but a usage error if one of them is no format
pub data DueAmong (gives : Gives) (folder : Option (List ℕ))
    (Due : List InstalledPickle → Formats → (lines : List (List ℕ)) → Option End → Type 0) :
    (lines : List (List ℕ)) → Option End → Type 0 where
  not_installed : {fault : FileFault} → gives.is_uninstalled folder fault →
      DueAmong gives folder Due [] (Some (Err fault))
  unreadable : {pickles : List InstalledPickle} {fault : FileFault} → gives.is_installed folder pickles
      → IsFormatless pickles (Unread fault) → DueAmong gives folder Due [] (Some (Err fault))
  no_room : DueAmong gives folder Due [] (Some (Err fault.Memory))
  formatless : {pickles : List InstalledPickle} {unfit : Unfit} → gives.is_installed folder pickles
      → IsFormatless pickles (Unprepared unfit) → DueAmong gives folder Due [] (Some (Ok (Silent Refused)))
  unwritten : DueAmong gives folder Due [] (Some (Ok (Run (outcome.Failed failure.Memory))))
  among : {pickles : List InstalledPickle} {formats : Formats} {lines : List (List ℕ)} {end : Option End}
      → gives.is_installed folder pickles → HasFormats pickles formats → Due pickles formats lines end
      → DueAmong gives folder Due lines end

-- the folder of the pickles, if one is named
abbrev pub folder_of : Identification → Option (List ℕ)
folder_of asked = option_map (λ folder. string_bytes folder) asked.folder
