-- What a run must print for the parts of a type.
use Rattle.std.specs.Prelude.{◌≡◌, ℕ, List, Option}
use Rattle.pickle_types.specs.declared.table.Table.{Table}
use Rattle.pickle_types.specs.declared.table.TypeId.{TypeId}
use Rattle.pickle_types.specs.Types.{PokeType}
use Rattle.pickle_types.specs.TypeTable.{IsInTable, type_named}
use Rattle.command_line.specs.declared.answer_form.AnswerForm.{AnswerForm}
use Rattle.poke_batch.specs.Runs.{HasNoType, IsAsked}
use Rattle.run_parts.specs.Outcomes.{outcome_saying}
use Rattle.run_parts.specs.Told.{Saying, Text}
use Rattle.run_parts.specs.declared.outcome.Outcome.{Outcome}
use Rattle.part_lists.specs.ListText.{list_text}

-- the list of the parts of the type of that name, by a table that has the type; or why the pickle has none
pub data PartsAs (pickle name : List ℕ) (most : Option ℕ) (form : AnswerForm) : Saying → Type 0 where
  listed_parts : (table : Table) (id : TypeId) → IsInTable table id → IsAsked pickle name (type_named table id) →
      PartsAs pickle name most form (Text (list_text form table id most))
  no_parts : {ended : Outcome} → HasNoType pickle name ended → PartsAs pickle name most form (outcome_saying ended)
