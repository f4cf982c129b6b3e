-- What a run of a type of a table prints.
use Rattle.std.specs.Prelude.{◌≡◌, ◌*◌, ℕ, true, false, List, Option, Some, None, option_map}
use Rattle.bit_space.specs.SpaceView.{SpaceView, HasRisen}
use Rattle.pickle_types.specs.Types.{PokeType}
use Rattle.pickle_types.specs.TypeTable.{type_named}
use Rattle.pickle_meaning.specs.Values.{Value}
use Rattle.value_text.specs.declared.typed.Typed.{Typed}
use Rattle.run_parts.specs.declared.outcome.Outcome.{Outcome}
use Rattle.run_parts.specs.declared.outcome.Failure.{Failure}
use Rattle.run_parts.specs.declared.outcome.Failure.TheVariants as failure
use Rattle.run_parts.specs.declared.outcome.Outcome.TheVariants as outcome
use Rattle.run_parts.specs.Outcomes.{EndsAs, outcome_saying}
use Rattle.value_text.specs.declared.print.show.bytes.FileBytes.{FileBytes as LentBytes}
use Rattle.value_text.specs.ShowParts.{bytes_lent}
use Rattle.value_text.specs.ShowWords.{FileBytes}
use Rattle.run_parts.specs.Told.{Saying}
use Rattle.poke_batch.specs.declared.tell_value.TakenBytes.{TakenBytes}
use Rattle.poke_batch.specs.declared.type_run.TypeRun.{TypeRun}
use Rattle.poke_batch.specs.Runs.{IsAsked}
use Rattle.poke_batch.specs.RunsUnder.{MapsUnder, SaysIt, AreBeside, kept_beside, text_saying, saying_beside, shows_bytes}
use Rattle.poke_batch.specs.Selected.{typed_text}

abbrev pub run_type : TypeRun → PokeType
run_type run = type_named run.table.now run.id

-- what is printed of a value of the type that is mapped from a file of so many bits, of one that ends where it must,
-- and of its requested part beside its type
abbrev pub run_saying : TypeRun → Option FileBytes → (bits : ℕ) → Value → Saying
run_saying run file bits value = saying_beside run.table.now run.id run.ask.now run.terms.now file bits value

abbrev pub run_kept_saying : TypeRun → Option FileBytes → Value → Saying
run_kept_saying run file value = kept_beside run.table.now run.id run.ask.now run.terms.now file value

abbrev pub run_text : TypeRun → Option FileBytes → Typed → List ℕ
run_text run file part = typed_text run.terms.now file run.ask.now.mode part

abbrev pub run_text_saying : TypeRun → Option FileBytes → (most : Option ℕ) → Typed → Saying
run_text_saying run file most part = text_saying most run.ask.now.start (run_text run file part)

-- bytes that are lent
abbrev pub lent_bytes : Option LentBytes → Option FileBytes
lent_bytes file = option_map bytes_lent file

-- bytes that were read
abbrev pub taken_bytes : TakenBytes → FileBytes
taken_bytes taken = record { from = taken.from; bytes = taken.bytes.items }

-- why bytes aren't read: a read of the file failed, or memory didn't suffice
abbrev pub IsUnread : (before after : SpaceView) → Failure → Type 0
IsUnread before after failure.Memory = Unit {0}
IsUnread before after failure.Device = HasRisen before.failures after.failures
IsUnread before after failure.Write = ⊥
IsUnread before after failure.Read = ⊥
IsUnread before after failure.Open = ⊥
IsUnread before after failure.TooLong = ⊥

-- what is printed of a value that a run mapped from a space: with the bytes of the requested part, if the look has them
pub data TellsValue (run : TypeRun) (before after : SpaceView) (value : Value) : Saying → Type 0 where
  tells_plain : {saying : Saying} → shows_bytes run.terms.now.look ≡ false
      → SaysIt (run_saying run None (8 * before.len) value) saying → TellsValue run before after value saying
  tells_beside : {saying : Saying} (file : FileBytes) → shows_bytes run.terms.now.look ≡ true
      → AreBeside before run.terms.now value file → SaysIt (run_saying run (Some file) (8 * before.len) value) saying
      → TellsValue run before after value saying
  tells_unread : (failed : Failure) → IsUnread before after failed →
      TellsValue run before after value (outcome_saying (outcome.Failed failed))

-- what holds of all that a run may print over a space, from its view before to its view after, for each pickle that has
-- the type under the requested name
abbrev pub ForPickles : TypeRun → (before after : SpaceView) → (Holds : (Saying → Type 0) → Type 0) → Type 0
ForPickles run before after Holds =
    (pickle : List ℕ) → IsAsked pickle run.ask.now.name.now (run_type run) →
    Holds (MapsUnder pickle run.ask.now run.terms.now before after)

-- so the run ended, and wrote what is right
abbrev pub EndsRun : TypeRun → (before after : SpaceView) → Outcome → (old new : Option (List ℕ)) → Type 0
EndsRun run before after ended old new = ForPickles run before after (λ IsRight. EndsAs IsRight ended old new)
