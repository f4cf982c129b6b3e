-- The text of the formats of a file.
use Rattle.std.specs.Prelude.{ℕ, Bool, true, false, List, [], ◌∷◌, ◌++◌, codes}
use Rattle.std.specs.List.{flat_map}
use Rattle.command_line.specs.declared.answer_form.AnswerForm.{AnswerForm}
use Rattle.command_line.specs.declared.answer_form.AnswerForm.TheVariants.{Text, Json}
use Rattle.identity_text.specs.Columns.{Shown, columns}
use Rattle.identity_text.specs.Objects.{object}

-- the formats that are printed: all, or the first
abbrev pub chosen : (all : Bool) → List Shown → List Shown
chosen true fits = fits
chosen false [] = []
chosen false (fit ∷ fits) = fit ∷ []

-- one of them
abbrev pub fit_text : AnswerForm → Shown → List ℕ
fit_text Text fit = columns fit
fit_text Json fit = object fit

-- one after others, with what is between two
abbrev pub separator : AnswerForm → List ℕ
separator Text = codes "\t"
separator Json = codes ","

abbrev pub next_text : AnswerForm → Shown → List ℕ
next_text form fit = separator form ++ fit_text form fit

abbrev pub fits_text : AnswerForm → List Shown → List ℕ
fits_text form [] = []
fits_text form (fit ∷ fits) = fit_text form fit ++ flat_map (next_text form) fits

-- what is around them: in JSON the brackets of a list, if all are printed
abbrev pub opening : AnswerForm → (all : Bool) → List ℕ
opening Text all = []
opening Json true = codes "["
opening Json false = []

abbrev pub closing : AnswerForm → (all : Bool) → List ℕ
closing Text all = codes "\n"
closing Json true = codes "]\n"
closing Json false = codes "\n"

-- the line of the formats that fit, in their order
abbrev pub answer : (all : Bool) → AnswerForm → List Shown → List ℕ
answer all form fits = opening form all ++ (fits_text form (chosen all fits) ++ closing form all)
