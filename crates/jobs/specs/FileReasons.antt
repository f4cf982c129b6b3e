-- What explains how the mapping of a file ended.
use Rattle.std.specs.Prelude.{◌≡◌, ◌==◌, not, Bool, true, false, ℕ, List, [], ◌++◌, Option, Some, None, Ok, Err, codes, option_map, string_bytes}
use Rattle.std.specs.List.{ends_with}
use Rattle.bit_space.specs.SpaceView.{HasRisen, Keeps, SpaceView}
use Rattle.bit_space.specs.declared.order.Order.{Order}
use Rattle.bit_space.specs.declared.order.Order.TheVariants.{Big, Little}
use Rattle.command_line.specs.Found.{no_terms}
use Rattle.command_line.specs.Starts.{start_bit}
use Rattle.command_line.specs.Subjects.{pickle_of}
use Rattle.command_line.specs.declared.ask.Ask.{Ask}
use Rattle.command_line.specs.declared.request.Over.{Over}
use Rattle.command_line.specs.declared.request.Over.TheVariants.{File}
use Rattle.command_line.specs.declared.request.Request.{Request}
use Rattle.command_line.specs.declared.terms.Terms.{Terms}
use Rattle.command_line.specs.declared.words.Job.{Job}
use Rattle.command_line.specs.declared.words.Job.TheVariants as job
use Rattle.fault_report.specs.Impossible.{TellsImpossible}
use Rattle.fault_report.specs.Why.{TellsWhy, run_of}
use Rattle.jobs.specs.Aims.{IsAskAt, Requested, of_request, of_type, plain_request}
use Rattle.jobs.specs.Chosen.{chosen, first_order}
use Rattle.jobs.specs.Due.{End}
use Rattle.jobs.specs.Endings.{is_mapped}
use Rattle.jobs.specs.Gives.{Gives}
use Rattle.jobs.specs.Reasons.{Says}
use Rattle.jobs.specs.Spaces.{is_within}
use Rattle.jobs.specs.declared.ending.Ending.TheVariants.{Run}
use Rattle.jobs.specs.declared.fault.FileFault.{FileFault}
use Rattle.jobs.specs.declared.hint.Hint.{Hint}
use Rattle.jobs.specs.declared.hint.Hint.TheVariants.{TooLong, Swapped, Turned}
use Rattle.jobs.specs.declared.why.Reasons.{Reasons}
use Rattle.pickle_heads.specs.Heads.{options_of}
use Rattle.pickle_heads.specs.Options.{given_or_none}
use Rattle.pickle_types.specs.Types.{PokeType}
use Rattle.poke_batch.specs.Runs.{IsAsked}
use Rattle.run_parts.specs.Outcomes.{outcome_status}
use Rattle.run_parts.specs.declared.outcome.Outcome.{Outcome}
use Rattle.run_parts.specs.declared.outcome.Outcome.TheVariants as outcome
use Rattle.run_parts.specs.declared.status.Status.TheVariants.{Fault}
use Rattle.spool.specs.Window.{seen}

-- the line of a hint
abbrev pub hint_line : Hint → List ℕ
hint_line TooLong = codes "  what was read before isn't shown: it is longer than --max-output\n"
hint_line Swapped = codes "  FILE ends in .pk: are PICKLE and FILE swapped?\n"
hint_line Turned = codes "  the pickle's head says: --endian little\n"

-- a text stays as it is, or a line is added to it
pub data AddsLine (line text : List ℕ) : (text' : List ℕ) → Type 0 where
  left_out : AddsLine line text text
  added : AddsLine line text (text ++ line)

-- a hint is added to reasons, if there is cause for it; or, if memory for it lacks, nothing
pub data AddsHint (cause : Bool) (hint : Hint) (reasons reasons' : Reasons) : Type 0 where
  no_cause : cause ≡ false → reasons' ≡ reasons → AddsHint cause hint reasons reasons'
  hinted : cause ≡ true → AddsLine (hint_line hint) reasons.text.items reasons'.text.items
      → reasons'.lack_memory ≡ reasons.lack_memory → AddsHint cause hint reasons reasons'

-- whether a file is named as a pickle is
abbrev pub is_swapped : (path : List ℕ) → Bool
is_swapped path = ends_with ◌==◌ path (codes ".pk")

-- whether a file is mapped big-endian by a pickle whose head says little-endian
abbrev pub is_big_not_little : Order → (head : Option Order) → Bool
is_big_not_little Big (Some Little) = true
is_big_not_little order head = false

abbrev pub is_turned : Order → (pickle : List ℕ) → Bool
is_turned order pickle = is_big_not_little order (given_or_none (options_of pickle)).order

-- the hints about the arguments of a mapping
pub record AddsArguments (path : List ℕ) (order : Order) (pickle : List ℕ) (reasons reasons' : Reasons) : Type 0 where
  pub mid : Reasons
  pub swapped : AddsHint (is_swapped path) Swapped reasons mid
  pub turned : AddsHint (is_turned order pickle) Turned mid reasons'

-- Reasons are right, or memory lacks for them. A hint follows if what was met before the fault of a value that is shown
-- to the eye is longer than the output may be.
pub record SaysMet (Right : List ℕ → Type 0) (terms : Terms) (reasons : Reasons) : Type 0 where
  pub own : Reasons
  pub met : List ℕ
  pub says : Says Right own
  pub unshown : terms.look ≡ None → met ≡ []
  pub adds : AddsHint (not (is_within terms.most_output met)) TooLong own reasons

-- the reasons of a run of the type of a name over a file, from its view before to its view after they were found
pub record SaysMapped (pickle : List ℕ) (ask : Ask) (terms : Terms) (file after : SpaceView) (ended : Outcome)
    (reasons : Reasons) : Type 0 where
  pub type : PokeType
  pub mid : SpaceView
  pub asked : IsAsked pickle ask.name.now type
  pub mapped : Keeps file mid
  pub found : Keeps mid after
  pub says : SaysMet (TellsWhy (run_of mid after ask terms ended) type) terms reasons

-- If reasons are requested, a run that mapped the file has these. If no value of its type has a requested part, they
-- are about that part.
pub record ExplainsSpace (pickle : List ℕ) (ask : Ask) (terms : Terms) (file after : SpaceView) (why : Bool)
    (ended : Outcome) (reasons : Reasons) : Type 0 where
  pub mapped : why ≡ true → is_mapped (outcome_status ended) ≡ true
      → SaysMapped pickle ask terms file after ended reasons
  pub impossible : why ≡ true → ended ≡ outcome.ImpossiblePart → Says TellsImpossible reasons

-- hints about the arguments of a mapping follow, if it has a fault
pub data AddsIfFault (path : List ℕ) (order : Order) (pickle : List ℕ) (ended : Outcome) (reasons reasons' : Reasons) :
    Type 0 where
  no_fault : (outcome_status ended ≡ Fault → ⊥) → reasons' ≡ reasons →
      AddsIfFault path order pickle ended reasons reasons'
  with_fault : outcome_status ended ≡ Fault → AddsArguments path order pickle reasons reasons' →
      AddsIfFault path order pickle ended reasons reasons'

module _ (gives : Gives) (requested : Requested) (path pickle : List ℕ) where
  -- the reasons of a requested mapping of the file at a path, as far as its window goes, which ended so
  pub record SaysOpened (ended : Outcome) (reasons : Reasons) : Type 0 where
    pub file : SpaceView
    pub after : SpaceView
    pub start : ℕ
    pub ask : Ask
    pub own : Reasons
    pub is : gives.is_file path requested.spool file
    pub from : start_bit requested.aim.start file.len ≡ Some start
    pub at : IsAskAt requested.aim start (seen requested.window start file).len ask
    pub failing : HasRisen file.failures after.failures → gives.is_failing path
    pub says : SaysMapped pickle ask requested.terms (seen requested.window start file) after ended own
    pub adds : AddsIfFault path requested.aim.order pickle ended own reasons

  -- If reasons are requested, a job over this mapping that ends so has these.
  pub record ExplainsFile (why : Bool) (end : End) (reasons : Reasons) : Type 0 where
    pub mapped : (ended : Outcome) → end ≡ Ok (Run ended) → why ≡ true → is_mapped (outcome_status ended) ≡ true
        → SaysOpened ended reasons
    pub impossible : why ≡ true → end ≡ Ok (Run outcome.ImpossiblePart) → Says TellsImpossible reasons

-- of a mapping over one file or over many. Those of many files are told aside, and those of tasks aren't said here
abbrev pub ExplainsOver : Gives → Requested → Over → (pickle : List ℕ) → (why : Bool) → End → Reasons → Type 0
ExplainsOver gives requested (File path) pickle why end reasons =
    ExplainsFile gives requested (string_bytes path) pickle why end reasons
ExplainsOver gives requested over pickle why end reasons = Unit {0}

-- of what the head of a pickle says, if it does
abbrev pub ExplainsIfAny : {A : Type 0} → (Explains : A → Type 0) → Option A → Type 0
ExplainsIfAny Explains None = Unit {0}
ExplainsIfAny Explains (Some found) = Explains found

-- of the pickle that an argument names, unless it isn't read
pub data ExplainsNamed (gives : Gives) (word : List ℕ) (Explains : (pickle : List ℕ) → Type 0) : End → Type 0 where
  named_pickle : {pickle : List ℕ} {end : End} → gives.is_pickle word pickle → Explains pickle →
      ExplainsNamed gives word Explains end
  unread_pickle : {fault : FileFault} → gives.is_unread word fault → ExplainsNamed gives word Explains (Err fault)

-- of a request whose terms are settled, once its pickle says which type is mapped
abbrev pub ExplainsSettled : Gives → Request → (pickle : List ℕ) → (why : Bool) → End → Reasons → Type 0
ExplainsSettled gives request pickle why end reasons =
    ExplainsIfAny (λ requested. ExplainsOver gives requested request.over pickle why end reasons)
    (option_map (λ found. of_type request found.name (first_order request.order found.order) request.terms)
    (chosen request.subject pickle))

-- of a request that names a pickle
abbrev pub ExplainsSubject : Gives → Request → Option (List ℕ) → (why : Bool) → End → Reasons → Type 0
ExplainsSubject gives request None why end reasons = Unit {0}
ExplainsSubject gives request (Some word) why end reasons = ExplainsNamed gives word (λ pickle.
    ExplainsIfAny (λ requested. ExplainsOver gives requested request.over pickle why end reasons)
    (of_request request pickle)) end

abbrev pub ExplainsRequest : Gives → Request → (why : Bool) → End → Reasons → Type 0
ExplainsRequest gives request why end reasons =
    ExplainsSubject gives request (pickle_of request.subject) why end reasons

-- of a job
abbrev pub ExplainsJob : Gives → Job → (why : Bool) → End → Reasons → Type 0
ExplainsJob gives (job.Map at order limit mode pickle name file) why end reasons =
    ExplainsNamed gives (string_bytes pickle)
    (λ bytes. ExplainsFile gives (plain_request (string_bytes name) at order limit mode no_terms) (string_bytes file)
    bytes why end reasons) end
ExplainsJob gives (job.Request request) why end reasons = ExplainsRequest gives request why end reasons
ExplainsJob gives other why end reasons = Unit {0}
