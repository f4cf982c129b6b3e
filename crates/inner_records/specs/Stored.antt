-- What is stored while a list inside a type is mapped.
use Rattle.std.specs.Prelude.{◌≡◌, ◌*◌, ◌≤◌, ℕ, Option, Some, None}
use Rattle.bit_space.specs.SpaceView.{SpaceView}
use Rattle.fault_location.specs.Sites.{MayEnter}
use Rattle.inner_lists.specs.Calls.{listed}
use Rattle.inner_lists.specs.declared.place.ListPlace.{ListPlace}
use Rattle.inner_records.specs.Written.{IsReached}
use Rattle.inner_records.specs.declared.reach.Started.{Started}
use Rattle.inner_records.specs.declared.stored.Stored.{Stored}
use Rattle.list_laws.specs.Meanings.{bytes_in}
use Rattle.list_laws.specs.Paths.{Path}
use Rattle.list_laws.specs.Reaches.{Listed}
use Rattle.pickle_map.specs.Packings.{AreKept}
use Rattle.pickle_meaning.specs.Values.{Levels, outer_of}
use Rattle.pickle_types.specs.TypeTable.{nodes_of}
use Rattle.poke_batch.specs.RunsUnder.{IsStoreOf}
use Rattle.poke_batch.specs.declared.type_run.TypeRun.{TypeRun}
use Rattle.value_store.specs.Slots.{Held, levels, level_count, weighing}

-- what a store was made with for a run under terms: with a most of bytes, that it takes no more
abbrev pub IsMadeUnder : (slots bytes : Option ℕ) → Held → Type 0
IsMadeUnder slots None store = IsStoreOf slots store
IsMadeUnder slots (Some most) store = store.room ≡ weighing most

-- what is stored serves a run: its store is one under its terms, and what is known of the table's types is right
pub record IsReady (run : TypeRun) (stored : Stored) : Type 0 where
  pub store : IsMadeUnder run.terms.now.most_slots run.terms.now.most_bytes stored.store
  pub kept : AreKept (nodes_of run.table.now) stored.packings

-- the frames around the innermost one
abbrev pub around_of : TypeRun → Stored → Levels
around_of run stored = outer_of (levels (nodes_of run.table.now) stored.store)

-- the innermost frame is that of a list, whose elements may be mapped
pub record IsAtList (run : TypeRun) (place : ListPlace) (stored : Stored) : Type 0 where
  pub ready : IsReady run stored
  pub may : MayEnter (nodes_of run.table.now) (level_count stored.store) place.element

abbrev pub listed_of : TypeRun → ListPlace → Stored → Listed
listed_of run place stored = listed (nodes_of run.table.now) (around_of run stored) place

-- a list of a run was reached
pub record IsStarted (run : TypeRun) (path : Path) (space : SpaceView) (stored : Stored) (started : Started) :
    Type 0 where
  pub at_list : IsAtList run started.list stored
  pub reached : IsReached run path (bytes_in space) (listed_of run started.list stored) started.left
  pub inside : started.list.start ≤ 8 * space.len
