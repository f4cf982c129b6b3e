-- What the JSON text of the formats of a file reads as.
use Rattle.std.specs.Prelude.{ℕ, pos, ◌^◌, ◌<◌, Bool, true, false, List, [], ◌∷◌, codes}
use Rattle.bit_space.specs.declared.order.Order.{Order}
use Rattle.bit_space.specs.declared.order.Order.TheVariants.{Little, Big}
use Rattle.command_line.specs.declared.answer_form.AnswerForm.TheVariants as form
use Rattle.value_text.specs.Json.{Reads}
use Rattle.value_text.specs.JsonValue.{Json, JsonString, JsonList, JsonObject, Elements, NoElements, ElementThen, NoEntries, EntryThen, whole_number}
use Rattle.value_text.specs.SmallParts.{AreBytes}
use Rattle.identity_text.specs.Columns.{Shown}
use Rattle.identity_text.specs.Texts.{answer}

abbrev pub order_word : Order → List ℕ
order_word Little = codes "little"
order_word Big = codes "big"

-- an object with the names, the byte order, the size and the sentence of a format
abbrev pub object_value : Shown → Json
object_value fit =
    JsonObject (EntryThen (codes "format") (JsonString fit.name) (EntryThen (codes "type") (JsonString fit.type_name)
    (EntryThen (codes "endian") (JsonString (order_word fit.order))
    (EntryThen (codes "size") (whole_number (pos fit.size))
    (EntryThen (codes "description") (JsonString fit.sentence) NoEntries)))))

abbrev pub objects_of : List Shown → Elements
objects_of [] = NoElements
objects_of (fit ∷ fits) = ElementThen (object_value fit) (objects_of fits)

-- a list of all, or the object of the first
abbrev pub answer_value : (all : Bool) → Shown → List Shown → Json
answer_value true fit fits = JsonList (objects_of (fit ∷ fits))
answer_value false fit fits = object_value fit

-- the names and the sentence of a format have bytes below 256, and the size is below 2^64
pub record IsSmall (fit : Shown) : Type 0 where
  pub name : AreBytes fit.name
  pub type_name : AreBytes fit.type_name
  pub sentence : AreBytes fit.sentence
  pub size : fit.size < 2 ^ 64

abbrev pub AreSmall : List Shown → Type 0
AreSmall [] = Unit {0}
AreSmall (fit ∷ fits) = IsSmall fit × AreSmall fits

-- the line of formats in JSON reads so
abbrev pub AnswerReads : Type 0
AnswerReads = (all : Bool) (fit : Shown) (fits : List Shown) → AreSmall (fit ∷ fits)
    → Reads (answer all form.Json (fit ∷ fits)) (answer_value all fit fits)
