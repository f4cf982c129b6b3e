-- What is due of a file that is searched for the installed formats.
use Rattle.std.specs.Prelude.{◌≡◌, ◌≤◌, ◌*◌, ◌-◌, ◌^◌, ◌++◌, ◌&&◌, ℕ, Bool, true, false, if◌then◌else◌, List, [], ◌∷◌, map, max, min, length, Option, Some, None, Ok, Err}
use Rattle.std.specs.List.{flat_map}
use Rattle.bit_space.specs.SpaceView.{HasRisen, SpaceView}
use Rattle.bit_space.specs.declared.order.Order.{Order}
use Rattle.bit_space.specs.declared.order.Order.TheVariants.{Big, Little}
use Rattle.command_line.specs.Starts.{start_bit}
use Rattle.command_line.specs.declared.ask.Ask.{Ask}
use Rattle.command_line.specs.declared.request.Request.{Request}
use Rattle.command_line.specs.declared.request.ValueSearch.{ValueSearch}
use Rattle.identification.specs.declared.format.Format.{Format}
use Rattle.identification.specs.declared.format.Formats.{Formats}
use Rattle.jobs.specs.Aims.{IsAskAt, of_type}
use Rattle.jobs.specs.Due.{DueAfter, End, Holds}
use Rattle.jobs.specs.Gives.{Gives, InstalledPickle}
use Rattle.jobs.specs.Growth.{grow_limit, places_in}
use Rattle.jobs.specs.Installed.{DueAmong}
use Rattle.jobs.specs.PlaceNames.{place_names_due}
use Rattle.jobs.specs.Tasks.{search_of}
use Rattle.jobs.specs.declared.ending.Ending.TheVariants.{Run}
use Rattle.jobs.specs.declared.fault.FileFault.{FileFault}
use Rattle.jobs.specs.declared.fault.FileFault.TheVariants as fault
use Rattle.pickle_types.specs.declared.table.Table.{Table}
use Rattle.pickle_types.specs.declared.table.TypeId.{TypeId}
use Rattle.run_parts.specs.declared.outcome.Failure.TheVariants as failure
use Rattle.run_parts.specs.declared.outcome.Outcome.{Outcome}
use Rattle.run_parts.specs.declared.outcome.Outcome.TheVariants as outcome
use Rattle.searches.specs.Rounds.{EndsRounds, Rounds}
use Rattle.searches.specs.declared.hunt.Hunt.{Hunt}
use Rattle.searches.specs.declared.search.Reach.{Reach}
use Rattle.searches.specs.declared.sought.Sought.{Sought}
use Rattle.spool.specs.Window.{seen}

-- ---- the types that are looked for

-- what is looked for in a byte order: the type of a format inside other bytes, where its identifying type has a value
pub record Quarry : Type 0 where
  pub name : List ℕ
  pub table : Table
  pub signature : TypeId
  pub id : TypeId
  pub order : Order

abbrev pub quarry_of : Sought → Quarry
quarry_of sought = record {
  name = sought.name.now;
  table = sought.table.now;
  signature = sought.signature;
  id = sought.id;
  order = sought.order;
}

abbrev pub quarries_of : Option Sought → List Quarry
quarries_of None = []
quarries_of (Some sought) = quarry_of sought ∷ []

abbrev pub same_order : Order → Order → Bool
same_order Big Big = true
same_order Big Little = false
same_order Little Big = false
same_order Little Little = true

-- a format is tried in a byte order: in its own, of which one may be given
abbrev pub is_tried : (tried : Bool) → (given : Option Order) → Order → Bool
is_tried tried None order = tried
is_tried tried (Some given) order = tried && same_order given order

abbrev pub orders_in : (tried : Bool) → (given : Option Order) → Order → List Order
orders_in tried given order = if is_tried tried given order then order ∷ [] else []

-- a format without a signature, or without a type inside other bytes, isn't looked for
abbrev pub quarries_by : Format → (signature id : Option TypeId) → List Order → List Quarry
quarries_by format (Some signature) (Some id) orders = map
    (λ order. record {
      name = format.name.items;
      table = format.table;
      signature = signature;
      id = id;
      order = order;
    })
    orders
quarries_by format (Some signature) None orders = []
quarries_by format None id orders = []

abbrev pub quarries : Format → List Order → List Quarry
quarries format orders = quarries_by format format.identifying format.inside orders

abbrev pub quarries_in : (given : Option Order) → Format → List Quarry
quarries_in given format = quarries format (orders_in format.orders.little given Little)
    ++ quarries format (orders_in format.orders.big given Big)

-- ---- the search

-- what it is given: its limit may grow with the starts and the types
pub record IsHuntAsk (request : Request) (search : ValueSearch) (count start length : ℕ) (ask : Ask) : Type 0 where
  pub base : Ask
  pub is_base : IsAskAt (of_type request [] Big request.terms).aim start length base
  pub is : ask ≡ grow_limit search.grows
      (min (2 ^ 64 - 1) (places_in (8 * length - start) (max 1 search.step) * count)) base

pub record IsHuntOf (request : Request) (search : ValueSearch) (formats : Formats) (start len : ℕ) (hunt : Hunt) :
    Type 0 where
  pub types : map quarry_of hunt.list.now ≡ flat_map (quarries_in request.order) formats.list.items
  pub asks : IsHuntAsk request search (length hunt.list.now) start len hunt.ask.now
  pub terms : hunt.terms.now ≡ request.terms
  pub searches : hunt.search ≡ search_of search

-- of the places in what is seen of a file, from its view before to its view after
pub data DueFound (request : Request) (search : ValueSearch) (formats : Formats) (start : ℕ) (file after : SpaceView) :
    (lines : List (List ℕ)) → Option End → Type 0 where
  all_found : {hunt : Hunt} {at : Reach} {places text : List ℕ} {ended : Outcome}
      → IsHuntOf request search formats start file.len hunt → Rounds hunt file at places text
      → EndsRounds hunt file after at places ended
      → DueFound request search formats start file after (text ∷ []) (Some (Ok (Run ended)))
  first_found : {hunt : Hunt} {at : Reach} {places text : List ℕ}
      → IsHuntOf request search formats start file.len hunt → Rounds hunt file at places text
      → DueFound request search formats start file after (text ∷ []) None
  only_names : DueFound request search formats start file after [] None

-- the same after the names of the columns; nothing if memory doesn't suffice for the types
pub data DueHunt (request : Request) (search : ValueSearch) (formats : Formats) (start : ℕ) (file after : SpaceView) :
    (lines : List (List ℕ)) → Option End → Type 0 where
  found_due : {lines : List (List ℕ)} {end : Option End}
      → DueAfter (place_names_due search true request.terms)
      (DueFound request search formats start file after) lines end
      → DueHunt request search formats start file after lines end
  no_list : DueHunt request search formats start file after [] (Some (Ok (Run (outcome.Failed failure.Memory))))

-- that of a run over a space; the view at the run's end has no more failures
pub record HuntsSpace (request : Request) (search : ValueSearch) (formats : Formats) (start : ℕ)
    (space space' : SpaceView) (out out' : Option (List ℕ)) (ended : Outcome) : Type 0 where
  pub after : SpaceView
  pub failures : after.failures ≤ space'.failures
  pub holds : Holds (DueHunt request search formats start space after) out out' (Ok (Run ended))

module _ (gives : Gives) where
  -- of the file at a path, among formats
  pub data DueHunted (request : Request) (search : ValueSearch) (path : List ℕ) (formats : Formats) :
      (lines : List (List ℕ)) → Option End → Type 0 where
    unopened : {fault : FileFault} → gives.is_unopened path request.spool fault →
        DueHunted request search path formats [] (Some (Err fault))
    starts_nowhere : {file : SpaceView} → gives.is_file path request.spool file
        → start_bit request.start file.len ≡ None
        → DueHunted request search path formats [] (Some (Ok (Run outcome.Offset)))
    no_pages : DueHunted request search path formats [] (Some (Err fault.Memory))
    seen_due : {file after : SpaceView} {start : ℕ} {lines : List (List ℕ)} {end : Option End}
        → gives.is_file path request.spool file → start_bit request.start file.len ≡ Some start
        → (HasRisen file.failures after.failures → gives.is_failing path)
        → DueHunt request search formats start (seen request.window start file) after lines end
        → DueHunted request search path formats lines end

  -- among the installed formats
  abbrev pub DueHuntedFile : Request → ValueSearch → (path : List ℕ) → (lines : List (List ℕ)) → Option End → Type 0
  DueHuntedFile request search path =
      DueAmong gives None (λ (pickles : List InstalledPickle). DueHunted request search path)
