-- The list of the installed pickles.
use Rattle.std.specs.Prelude.{ℕ, Bool, true, false, List, [], ◌∷◌, ◌++◌, Option, Some, None, Result, Ok, Err, codes, unwrap_or}
use Rattle.std.specs.List.{flat_map}
use Rattle.bit_space.specs.declared.order.Order.{Order}
use Rattle.bit_space.specs.declared.order.Order.TheVariants.{Big, Little}
use Rattle.command_line.specs.declared.answer_form.AnswerForm.{AnswerForm}
use Rattle.command_line.specs.declared.answer_form.AnswerForm.TheVariants as answer
use Rattle.jobs.specs.Chosen.{type_among}
use Rattle.jobs.specs.Due.{End}
use Rattle.jobs.specs.Gives.{Gives, InstalledPickle}
use Rattle.jobs.specs.Installed.{first_unread}
use Rattle.jobs.specs.declared.ending.Ending.TheVariants.{Run}
use Rattle.jobs.specs.declared.fault.FileFault.{FileFault}
use Rattle.pickle_heads.specs.Heads.{inside_of, main_of, options_of, sentence_of}
use Rattle.pickle_heads.specs.Options.{given_or_none}
use Rattle.poke_batch.specs.FileLine.{shown_name}
use Rattle.run_parts.specs.declared.outcome.Outcome.TheVariants as outcome
use Rattle.value_text.specs.JsonText.{json_string}

-- name, type, options and sentence, with tabs between
abbrev pub columns : (name main options sentence : List ℕ) → List ℕ
columns name main options sentence =
    shown_name name ++ (codes "\t" ++ (shown_name main ++ (codes "\t"
    ++ (shown_name options ++ (codes "\t" ++ (shown_name sentence ++ codes "\n"))))))

-- the line of a pickle, by its head
abbrev pub format_line : (name pickle : List ℕ) → List ℕ
format_line name pickle =
    columns name (unwrap_or (main_of pickle) []) (options_of pickle) (sentence_of name pickle)

-- the member with the name of a type, if there is one
abbrev pub type_member : (key : List ℕ) → Option (List ℕ) → List ℕ
type_member key None = key ++ codes "null"
type_member key (Some name) = key ++ json_string name

-- the byte order without an option is big-endian
abbrev pub endian_member : Option Order → List ℕ
endian_member (Some Little) = codes ",\"endian\":\"little\""
endian_member (Some Big) = codes ",\"endian\":\"big\""
endian_member None = codes ",\"endian\":\"big\""

abbrev pub whole_member : Bool → List ℕ
whole_member true = codes ",\"whole\":true"
whole_member false = codes ",\"whole\":false"

abbrev pub object_start : (name : List ℕ) → (main : Option (List ℕ)) → Option Order → (whole : Bool) → List ℕ
object_start name main order whole =
    (codes "{\"name\":" ++ json_string name)
    ++ (type_member (codes ",\"type\":") main ++ (endian_member order ++ whole_member whole))

abbrev pub object_end : (inside : Option (List ℕ)) → (sentence : List ℕ) → List ℕ
object_end inside sentence =
    type_member (codes ",\"inside\":") inside
    ++ ((codes ",\"description\":" ++ json_string sentence) ++ codes "}\n")

-- the object of a pickle, by its head
abbrev pub format_object : (name pickle : List ℕ) → List ℕ
format_object name pickle =
    object_start name (main_of pickle) (given_or_none (options_of pickle)).order
    (given_or_none (options_of pickle)).whole
    ++ object_end (type_among (inside_of pickle)) (sentence_of name pickle)

abbrev pub listed_as : AnswerForm → (name pickle : List ℕ) → List ℕ
listed_as answer.Text name pickle = format_line name pickle
listed_as answer.Json name pickle = format_object name pickle

-- nothing of a pickle that wasn't read
abbrev pub listed_if : AnswerForm → (name : List ℕ) → Result (List ℕ) FileFault → List ℕ
listed_if form name (Ok pickle) = listed_as form name pickle
listed_if form name (Err fault) = []

abbrev pub listed : AnswerForm → InstalledPickle → List ℕ
listed form pickle = listed_if form pickle.name pickle.pickle

-- how the list ends
abbrev pub end_unread : Option FileFault → End
end_unread None = Ok (Run outcome.Done)
end_unread (Some fault) = Err fault

abbrev pub formats_end : List InstalledPickle → End
formats_end pickles = end_unread (first_unread pickles)

-- what is due of the list: a line or an object of each pickle that is read, in order, and the fault of one that isn't
pub data DueFormats (gives : Gives) (form : AnswerForm) : (lines : List (List ℕ)) → Option End → Type 0 where
  unlisted : {fault : FileFault} → gives.is_uninstalled None fault → DueFormats gives form [] (Some (Err fault))
  formats_listed : {pickles : List InstalledPickle} → gives.is_installed None pickles →
      DueFormats gives form (flat_map (listed form) pickles ∷ []) (Some (formats_end pickles))
