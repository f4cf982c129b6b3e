-- What is due of a file that is shown as the format that it has among the installed ones.
use Rattle.std.specs.Prelude.{◌≡◌, ◌≢◌, ◌≤◌, ◌⊎◌, ℕ, Bool, List, [], ◌∷◌, Option, Some, None, Result, Ok, Err, slice_get, string_bytes, String}
use Rattle.std.specs.declared.alloc.Global.{Global}
use Rattle.bit_space.specs.Bits.{bits_of}
use Rattle.bit_space.specs.SpaceView.{HasRisen, Keeps, SpaceView}
use Rattle.bit_space.specs.declared.order.Order.{Order}
use Rattle.command_line.specs.Starts.{start_bit}
use Rattle.command_line.specs.declared.ask.Ask.{Ask}
use Rattle.command_line.specs.declared.request.Over.TheVariants.{File}
use Rattle.command_line.specs.declared.request.Request.{Request}
use Rattle.identification.specs.Fits.{IsIdentified, StopsTrying}
use Rattle.identification.specs.declared.fit.Ranked.{Ranked}
use Rattle.identification.specs.declared.format.Documented.{Documented}
use Rattle.identification.specs.declared.format.Format.{Format}
use Rattle.identification.specs.declared.format.Formats.{Formats}
use Rattle.jobs.specs.Aims.{IsAskAt, Requested, of_chosen}
use Rattle.jobs.specs.Due.{End, Holds}
use Rattle.jobs.specs.Gives.{Gives, InstalledPickle}
use Rattle.jobs.specs.Installed.{DueAmong}
use Rattle.jobs.specs.Spaces.{DueSpace}
use Rattle.jobs.specs.declared.ending.Ending.TheVariants.{Run, Silent}
use Rattle.jobs.specs.declared.fault.FileFault.{FileFault}
use Rattle.jobs.specs.declared.fault.FileFault.TheVariants as fault
use Rattle.pickle_meaning.specs.declared.faults.MapFault.{MapFault}
use Rattle.run_parts.specs.declared.outcome.Failure.TheVariants as failure
use Rattle.run_parts.specs.declared.outcome.Outcome.{Outcome}
use Rattle.run_parts.specs.declared.outcome.Outcome.TheVariants as outcome
use Rattle.run_parts.specs.declared.status.Status.TheVariants.{Refused}
use Rattle.spool.specs.Window.{seen}

-- the documented type of a format, and the bytes of a pickle that is read
abbrev pub documented_in : Option Format → Option Documented
documented_in None = None
documented_in (Some format) = format.documented

abbrev pub read_ok : Result (List ℕ) FileFault → Option (List ℕ)
read_ok (Ok bytes) = Some bytes
read_ok (Err fault) = None

abbrev pub bytes_in : Option InstalledPickle → Option (List ℕ)
bytes_in None = None
bytes_in (Some pickle) = read_ok pickle.pickle

-- the format at a place has this documented type, and this pickle
pub record IsTaken (pickles : List InstalledPickle) (formats : Formats) (place : ℕ) (pickle : List ℕ)
    (documented : Documented) : Type 0 where
  pub type : documented_in (slice_get formats.list.items place) ≡ Some documented
  pub bytes : bytes_in (slice_get pickles place) ≡ Some pickle

-- one of them isn't there
abbrev pub IsUntaken : List InstalledPickle → Formats → (place : ℕ) → Type 0
IsUntaken pickles formats place =
    (documented_in (slice_get formats.list.items place) ≡ None) ⊎ (bytes_in (slice_get pickles place) ≡ None)

-- what a request maps by the documented type of a format that fits in a byte order
abbrev pub of_documented : Request → Documented → Order → Requested
of_documented request documented order =
    of_chosen request (record { name = documented.name.items; order = Some order; whole = documented.whole })

-- of what is seen of a file, mapped by that type from a bit on
pub data DueAs (why : Bool) (request : Request) (pickle : List ℕ) (documented : Documented) (order : Order) (start : ℕ)
    (file after : SpaceView) : (lines : List (List ℕ)) → Option End → Type 0 where
  as_due : {ask : Ask} {lines : List (List ℕ)} {end : Option End}
      → IsAskAt (of_documented request documented order).aim start file.len ask
      → DueSpace pickle ask (of_documented request documented order).terms file after why lines end
      → DueAs why request pickle documented order start file after lines end

-- of what is seen of a file, from its view before to its view after: it is mapped by the documented type of the first
-- format that fits
pub data DueSeen (why : Bool) (request : Request) (pickles : List InstalledPickle) (formats : Formats) (start : ℕ)
    (file after : SpaceView) : (lines : List (List ℕ)) → Option End → Type 0 where
  stopped : {stop : MapFault} → StopsTrying formats.list.items file after stop →
      DueSeen why request pickles formats start file after [] (Some (Ok (Run (outcome.Fault stop))))
  unidentified : ((bytes : List ℕ) → file.bytes ≡ Some bytes → IsIdentified formats start (bits_of bytes) []) →
      DueSeen why request pickles formats start file after [] (Some (Ok (Run outcome.Unidentified)))
  untaken : {first : Ranked} {rest : List Ranked}
      → ((bytes : List ℕ) → file.bytes ≡ Some bytes → IsIdentified formats start (bits_of bytes) (first ∷ rest))
      → IsUntaken pickles formats first.fit.place
      → DueSeen why request pickles formats start file after [] (Some (Ok (Run outcome.Unidentified)))
  taken : {first : Ranked} {rest : List Ranked} {pickle : List ℕ} {documented : Documented} {mid : SpaceView}
      {lines : List (List ℕ)} {end : Option End}
      → ((bytes : List ℕ) → file.bytes ≡ Some bytes → IsIdentified formats start (bits_of bytes) (first ∷ rest))
      → Keeps file mid → IsTaken pickles formats first.fit.place pickle documented
      → DueAs why request pickle documented first.fit.order start mid after lines end
      → DueSeen why request pickles formats start file after lines end

-- those of a run over a space; the view at the run's end has no more failures
pub record ShowsAs (why : Bool) (request : Request) (pickle : List ℕ) (documented : Documented) (order : Order)
    (start : ℕ) (space space' : SpaceView) (out out' : Option (List ℕ)) (ended : Outcome) : Type 0 where
  pub after : SpaceView
  pub failures : after.failures ≤ space'.failures
  pub holds : Holds (DueAs why request pickle documented order start space after) out out' (Ok (Run ended))

pub record ShowsSpace (why : Bool) (request : Request) (pickles : List InstalledPickle) (formats : Formats) (start : ℕ)
    (space space' : SpaceView) (out out' : Option (List ℕ)) (ended : Outcome) : Type 0 where
  pub after : SpaceView
  pub failures : after.failures ≤ space'.failures
  pub holds : Holds (DueSeen why request pickles formats start space after) out out' (Ok (Run ended))

module _ (gives : Gives) (why : Bool) where
  -- of the file of a request among formats: as of a file whose type is known, but by the format that it has. A request
  -- of many files, or of a list, has none
  pub data DueSeenFile (request : Request) (pickles : List InstalledPickle) (formats : Formats) :
      (lines : List (List ℕ)) → Option End → Type 0 where
    many_files : ((path : String Global) → request.over ≢ File path) →
        DueSeenFile request pickles formats [] (Some (Ok (Silent Refused)))
    many_unwritten : ((path : String Global) → request.over ≢ File path) →
        DueSeenFile request pickles formats [] (Some (Ok (Run (outcome.Failed failure.Memory))))
    unopened : {path : String Global} {fault : FileFault} → request.over ≡ File path
        → gives.is_unopened (string_bytes path) request.spool fault
        → DueSeenFile request pickles formats [] (Some (Err fault))
    starts_nowhere : {path : String Global} {file : SpaceView} → request.over ≡ File path
        → gives.is_file (string_bytes path) request.spool file → start_bit request.start file.len ≡ None
        → DueSeenFile request pickles formats [] (Some (Ok (Run outcome.Offset)))
    no_pages : DueSeenFile request pickles formats [] (Some (Err fault.Memory))
    seen_due : {path : String Global} {file after : SpaceView} {start : ℕ} {lines : List (List ℕ)} {end : Option End}
        → request.over ≡ File path → gives.is_file (string_bytes path) request.spool file
        → start_bit request.start file.len ≡ Some start
        → (HasRisen file.failures after.failures → gives.is_failing (string_bytes path))
        → DueSeen why request pickles formats start (seen request.window start file) after lines end
        → DueSeenFile request pickles formats lines end

  -- of the file of a request among the installed formats
  abbrev pub DueIdentifiedFile : Request → (lines : List (List ℕ)) → Option End → Type 0
  DueIdentifiedFile request = DueAmong gives None (DueSeenFile request)
