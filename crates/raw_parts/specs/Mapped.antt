-- The value that a run maps, and how its mapping ends without one.
use Rattle.std.specs.Prelude.{◌≡◌, ◌<◌, ◌*◌, ℕ, List, Option, Some, Ok, codes}
use Rattle.bit_space.specs.SpaceView.{SpaceView}
use Rattle.pickle_meaning.specs.Fits.{Fits}
use Rattle.pickle_meaning.specs.Values.{Value, no_values, value_at}
use Rattle.pickle_meaning.specs.declared.faults.MapFault.{MapFault}
use Rattle.pickle_types.specs.Bounds.{room}
use Rattle.pickle_types.specs.TypeTable.{nodes_of}
use Rattle.poke_batch.specs.Runs.{HasAnswer, IsAsked, MapsAs}
use Rattle.poke_batch.specs.RunsUnder.{AreLightUnder, AreTooFew, AreTooHeavy, end_under_saying}
use Rattle.poke_batch.specs.TypeRuns.{run_type}
use Rattle.poke_batch.specs.declared.type_run.TypeRun.{TypeRun}
use Rattle.run_parts.specs.Lines.{fault_at_line}
use Rattle.run_parts.specs.Told.{Saying, Line}
use Rattle.run_parts.specs.declared.status.Status.{Status}
use Rattle.run_parts.specs.declared.status.Status.TheVariants.{Fault}
use Rattle.value_store.specs.Slots.{Held, levels}

-- A run's type means a value on the bytes of a space, if these are known; over any space, the value fits the type.
-- Under a most of bytes, what its mapping stores weighs no more than these.
pub record IsMapped (run : TypeRun) (space : SpaceView) (value : Value) : Type 0 where
  pub means : (bytes : List ℕ) → space.bytes ≡ Some bytes
      → HasAnswer bytes (run_type run) run.ask.now.order run.ask.now.start run.ask.now.limit (Ok value)
  pub fits : Fits (8 * space.len) (run_type run) no_values run.ask.now.start value
  pub light : AreLightUnder run.terms.now (run_type run) run.ask.now space

-- how a mapping ends that has no value: with what it ends with without terms, with too few slots, or with
-- values of too many bytes
pub data HasNoValue (pickle : List ℕ) (run : TypeRun) (before after : SpaceView) : Saying → Type 0 where
  has_fault : {status : Status} {line : List ℕ} → MapsAs pickle run.ask.now before after (Line status line)
      → HasNoValue pickle run before after (Line status line)
  lacks_slots : {most : ℕ} → run.terms.now.most_slots ≡ Some most → most < room (run_type run) (8 * before.len)
      → AreTooFew most (run_type run) run.ask.now before
      → HasNoValue pickle run before after (Line Fault (fault_at_line (codes "Slots") run.ask.now.start))
  too_heavy : {most : ℕ} → run.terms.now.most_bytes ≡ Some most
      → AreTooHeavy most (run_type run) run.ask.now before
      → HasNoValue pickle run before after (Line Fault (fault_at_line (codes "Storage") run.ask.now.start))

-- ---- what the functions that map do

-- the one value that a store holds
abbrev pub held_value : TypeRun → Held → Option Value
held_value run store = value_at (levels (nodes_of run.table.now) store) 0 0

-- a store holds the value of a run
pub record HoldsMapped (run : TypeRun) (space : SpaceView) (store : Held) : Type 0 where
  pub value : Value
  pub there : held_value run store ≡ Some value
  pub mapped : IsMapped run space value

-- a run has a fault, which is what it must say
pub record HasFault (run : TypeRun) (before after : SpaceView) (why : MapFault) : Type 0 where
  pub says : (pickle : List ℕ) → IsAsked pickle run.ask.now.name.now (run_type run)
      → HasNoValue pickle run before after
      (end_under_saying run.terms.now.most_slots run.terms.now.most_bytes run.ask.now.start why.kind why.at)
