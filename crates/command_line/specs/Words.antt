-- What arguments request.
use Rattle.std.specs.Prelude.{◌≡◌, ◌≢◌, ℕ, false, List, Option, Some, None, string_bytes, codes}
use Rattle.text_output.specs.declared.mode.Mode.{Mode}
use Rattle.text_output.specs.declared.mode.Mode.TheVariants.{Flat, Tree, Json, Lines}
use Rattle.command_line.specs.declared.answer_form.AnswerForm.TheVariants as answer
use Rattle.command_line.specs.declared.words.Asked.{Asked}
use Rattle.command_line.specs.declared.words.Job.{Job}
use Rattle.command_line.specs.declared.words.Job.TheVariants.{Check}

-- a check of the pickle with this name
abbrev pub IsCheckOf : List ℕ → Job → Type 0
IsCheckOf name (Check pickle) = string_bytes pickle ≡ name
IsCheckOf name job = ⊥

-- the same, without an explanation of a refusal, in words, and of no dump
abbrev pub IsBareCheckOf : List ℕ → Asked → Type 0
IsBareCheckOf name asked =
    IsCheckOf name asked.job × (asked.why ≡ false) × (asked.default_size ≡ false) × (asked.answer ≡ answer.Text)

-- `tree`, `json` and `lines` name their modes, any other text is the mode `flat`
abbrev pub NamesMode : List ℕ → Mode → Type 0
NamesMode word Flat = (word ≢ codes "tree") × (word ≢ codes "json") × (word ≢ codes "lines")
NamesMode word Tree = word ≡ codes "tree"
NamesMode word Json = word ≡ codes "json"
NamesMode word Lines = word ≡ codes "lines"

-- the mode that an argument names, or none if it wasn't given
abbrev pub NamesModeIfAny : Option (List ℕ) → Option Mode → Type 0
NamesModeIfAny None None = Unit {0}
NamesModeIfAny None (Some mode) = ⊥
NamesModeIfAny (Some word) None = ⊥
NamesModeIfAny (Some word) (Some mode) = NamesMode word mode
