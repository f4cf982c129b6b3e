-- How a printed value looks, as arguments request it.
use Rattle.std.specs.Prelude.{◌≡◌, ◌≢◌, ℕ, List, Option, Some, None, codes}
use Rattle.command_line.specs.Numerals.{IsNumber, IsNoNumber}
use Rattle.command_line.specs.declared.color.Color.{Color}
use Rattle.command_line.specs.declared.color.Color.TheVariants.{Auto, Always, Never}
use Rattle.command_line.specs.declared.answer_form.AnswerForm.{AnswerForm}
use Rattle.command_line.specs.declared.answer_form.AnswerForm.TheVariants as answer
use Rattle.command_line.specs.declared.fault_form.FaultForm.{FaultForm}
use Rattle.command_line.specs.declared.fault_form.FaultForm.TheVariants.{Text, Json}
use Rattle.text_output.specs.declared.style.Numbers.{Numbers}
use Rattle.text_output.specs.declared.style.Numbers.TheVariants.{Decimal, Hexadecimal, Digits}
use Rattle.text_output.specs.declared.style.Chars.{Chars}
use Rattle.text_output.specs.declared.style.Chars.TheVariants as chars

-- `hex` is hexadecimal, `digits` digits alone, any other text decimal
abbrev pub NamesNumbers : List ℕ → Numbers → Type 0
NamesNumbers word Decimal = (word ≢ codes "hex") × (word ≢ codes "digits")
NamesNumbers word Hexadecimal = word ≡ codes "hex"
NamesNumbers word Digits = word ≡ codes "digits"

-- the form that an argument names, or the default if it wasn't given
abbrev pub NamesNumbersOr : Numbers → Option (List ℕ) → Numbers → Type 0
NamesNumbersOr default None numbers = numbers ≡ default
NamesNumbersOr default (Some word) numbers = NamesNumbers word numbers

-- the form that an argument names, if it was given
abbrev pub NamesNumbersIfAny : Option (List ℕ) → Option Numbers → Type 0
NamesNumbersIfAny None None = Unit {0}
NamesNumbersIfAny None (Some numbers) = ⊥
NamesNumbersIfAny (Some word) None = ⊥
NamesNumbersIfAny (Some word) (Some numbers) = NamesNumbers word numbers

-- `text` is a text, any other text numbers
abbrev pub NamesChars : List ℕ → Chars → Type 0
NamesChars word chars.Numbers = word ≢ codes "text"
NamesChars word chars.Text = word ≡ codes "text"

abbrev pub NamesCharsOr : Chars → Option (List ℕ) → Chars → Type 0
NamesCharsOr default None chars = chars ≡ default
NamesCharsOr default (Some word) chars = NamesChars word chars

-- `all` is no limit, a number is the most elements
abbrev pub NamesElements : List ℕ → Option ℕ → Type 0
NamesElements word None = word ≡ codes "all"
NamesElements word (Some most) = IsNumber word most

-- an argument is neither `all` nor a number below 2^64
abbrev pub IsNoElements : List ℕ → Type 0
IsNoElements word = (word ≢ codes "all") × IsNoNumber word

-- the most elements that an argument names, or the default if it wasn't given
abbrev pub NamesElementsOr : Option ℕ → Option (List ℕ) → Option ℕ → Type 0
NamesElementsOr default None most = most ≡ default
NamesElementsOr default (Some word) most = NamesElements word most

-- an argument was given, and is neither
abbrev pub IsNoElementsIfAny : Option (List ℕ) → Type 0
IsNoElementsIfAny None = ⊥
IsNoElementsIfAny (Some word) = IsNoElements word

-- `always` and `never` name themselves, any other text is `auto`
abbrev pub NamesColor : List ℕ → Color → Type 0
NamesColor word Auto = (word ≢ codes "always") × (word ≢ codes "never")
NamesColor word Always = word ≡ codes "always"
NamesColor word Never = word ≡ codes "never"

-- `json` is JSON, any other text is words and columns
abbrev pub NamesAnswer : List ℕ → AnswerForm → Type 0
NamesAnswer word answer.Text = word ≢ codes "json"
NamesAnswer word answer.Json = word ≡ codes "json"

-- `json` names itself, any other text is `text`
abbrev pub NamesFaults : List ℕ → FaultForm → Type 0
NamesFaults word Text = word ≢ codes "json"
NamesFaults word Json = word ≡ codes "json"
