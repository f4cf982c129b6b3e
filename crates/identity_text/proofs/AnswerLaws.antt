-- The JSON text of the formats of a file reads back.
use Rattle.std.proofs.Common.{◌≡◌, ℕ, ◌^◌, ◌<◌, true, false, List, [], ◌∷◌, ◌++◌, refl, sym, ap, subst, arith}
use Rattle.std.specs.Prelude.{pos, codes, decimal}
use Rattle.std.specs.List.{flat_map}
use Rattle.std.proofs.lemmas.List.{append_assoc, append-nil}
use Rattle.bit_space.specs.declared.order.Order.{Order}
use Rattle.bit_space.specs.declared.order.Order.TheVariants.{Little, Big}
use Rattle.command_line.specs.declared.answer_form.AnswerForm.TheVariants as form
use Rattle.value_text.specs.Json.{no_blank, one_blank, line_feed, ReadsValue, ReadsEntry, ReadsEntries, last_entry, number_value, string_value, object, Reads, json}
use Rattle.value_text.specs.JsonText.{json_string}
use Rattle.value_text.specs.JsonValue.{JsonString, EntryThen, NoEntries, whole_number}
use Rattle.value_text.specs.JsonValue as value
use Rattle.value_text.specs.SmallParts.{AreBytes}
use Rattle.value_text.proofs.JsonWords.{natural_is, string_is}
use Rattle.value_text.proofs.JsonValues.{bare, MoreElements, no_element, more_elements, more_entries, with_elements, element_then, entry_then, list_is, entry_is}
use Rattle.identity_text.specs.Columns.{Shown}
use Rattle.identity_text.specs.Laws.{AnswerReads, AreSmall, IsSmall, object_value, objects_of, order_word}
use Rattle.identity_text.specs.Objects as text
use Rattle.identity_text.specs.Texts.{next_text}

-- ---- keys

format_key : AreBytes (codes "format")
format_key = (omega arith, (omega arith, (omega arith, (omega arith, (omega arith, (omega arith, tt))))))

type_key : AreBytes (codes "type")
type_key = (omega arith, (omega arith, (omega arith, (omega arith, tt))))

endian_key : AreBytes (codes "endian")
endian_key = (omega arith, (omega arith, (omega arith, (omega arith, (omega arith, (omega arith, tt))))))

size_key : AreBytes (codes "size")
size_key = (omega arith, (omega arith, (omega arith, (omega arith, tt))))

description_key : AreBytes (codes "description")
description_key = (
  omega arith,
  (
    omega arith,
    (
      omega arith,
      (
        omega arith,
        (omega arith, (omega arith, (omega arith, (omega arith, (omega arith, (omega arith, (omega arith, tt))))))),
      ),
    ),
  ),
)

order_bytes : (order : Order) → AreBytes (order_word order)
order_bytes Little =
    (omega arith, (omega arith, (omega arith, (omega arith, (omega arith, (omega arith, tt))))))
order_bytes Big = (omega arith, (omega arith, (omega arith, tt)))

-- ---- an object

order_is : (order : Order) → ReadsEntry (codes "\"endian\":" ++ json_string (order_word order)) (codes "endian")
    (JsonString (order_word order))
unfolding json_string
order_is order =
    entry_is (string_is (codes "endian") endian_key) (string_value (string_is (order_word order) (order_bytes order)))

-- the member of a byte order is that entry after a comma
member_is : (order : Order) →
    text.endian_member order ≡ codes "," ++ (codes "\"endian\":" ++ json_string (order_word order))
unfolding json_string
member_is Little = refl
member_is Big = refl

entries_are : (name type sentence : List ℕ) (order : Order) (size : ℕ) → AreBytes name → AreBytes type →
    AreBytes sentence → size < 2 ^ 64
    → ReadsEntries ((codes "\"format\":" ++ json_string name) ++ (codes "," ++ ((codes "\"type\":" ++ json_string type)
    ++ (codes "," ++ ((codes "\"endian\":" ++ json_string (order_word order))
    ++ (codes "," ++ ((codes "\"size\":" ++ decimal size)
    ++ (codes "," ++ (codes "\"description\":" ++ json_string sentence)))))))))
    (EntryThen (codes "format") (JsonString name) (EntryThen (codes "type") (JsonString type)
    (EntryThen (codes "endian") (JsonString (order_word order)) (EntryThen (codes "size") (whole_number (pos size))
    (EntryThen (codes "description") (JsonString sentence) NoEntries)))))
unfolding json_string
entries_are name type sentence order size n t s small =
    let first : ReadsEntry (codes "\"format\":" ++ json_string name) (codes "format") (JsonString name) =
    entry_is (string_is (codes "format") format_key) (string_value (string_is name n)) in
    let second : ReadsEntry (codes "\"type\":" ++ json_string type) (codes "type") (JsonString type) =
    entry_is (string_is (codes "type") type_key) (string_value (string_is type t)) in
    let fourth : ReadsEntry (codes "\"size\":" ++ decimal size) (codes "size") (whole_number (pos size)) =
    entry_is (string_is (codes "size") size_key) (number_value (natural_is size small)) in
    let fifth : ReadsEntry (codes "\"description\":" ++ json_string sentence) (codes "description")
    (JsonString sentence) =
    entry_is (string_is (codes "description") description_key) (string_value (string_is sentence s)) in
    entry_then first (more_entries (entry_then second (more_entries (entry_then (order_is order)
    (more_entries (entry_then fourth (more_entries (last_entry fifth))))))))

join : (n a t e b d c s z : List ℕ) → (n ++ (a ++ (t ++ (e ++ (b ++ (d ++ (c ++ s))))))) ++ z
    ≡ (n ++ (a ++ (t ++ e))) ++ (b ++ (d ++ (c ++ (s ++ z))))
join n a t e b d c s z = simp append_assoc

-- the entries of a format, with those of its names, its size and its sentence
entries : (n t e d s : List ℕ) → List ℕ
entries n t e d s =
    codes "\"format\":" ++ (n ++ (codes ",\"type\":" ++ (t ++ (e ++ (codes ",\"size\":" ++ (d
    ++ (codes ",\"description\":" ++ s)))))))

-- its object, as braces around them
whole_is : (n t e d s : List ℕ) → codes "{" ++ (entries n t e d s ++ codes "}")
    ≡ (codes "{\"format\":" ++ (n ++ (codes ",\"type\":" ++ (t ++ e))))
    ++ (codes ",\"size\":" ++ (d ++ (codes ",\"description\":" ++ (s ++ codes "}"))))
unfolding entries
whole_is n t e d s = ap (λ r. codes "{\"format\":" ++ r)
    (join n (codes ",\"type\":") t e (codes ",\"size\":") d (codes ",\"description\":") s (codes "}"))

object_is : (fit : Shown) → IsSmall fit → ReadsValue (text.object fit) (object_value fit)
unfolding entries
object_is fit h =
    let n : List ℕ = json_string fit.name in
    let t : List ℕ = json_string fit.type_name in
    let s : List ℕ = json_string fit.sentence in
    let read =
    entries_are fit.name fit.type_name fit.sentence fit.order fit.size h.name h.type_name h.sentence h.size in
    subst (λ r. ReadsValue r (object_value fit)) (whole_is n t (text.endian_member fit.order) (decimal fit.size) s)
    (subst (λ e. ReadsValue (codes "{" ++ (entries n t e (decimal fit.size) s ++ codes "}")) (object_value fit))
    (sym (member_is fit.order)) (object read))

-- ---- all objects

more_are : (fits : List Shown) → AreSmall fits → MoreElements (flat_map (next_text form.Json) fits) (objects_of fits)
more_are [] h = no_element
more_are (fit ∷ fits) h = more_elements (element_then (bare (object_is fit h.0)) (more_are fits h.1))

pub answer_is : AnswerReads
answer_is true fit fits h =
    let inside : List ℕ = text.object fit ++ flat_map (next_text form.Json) fits in
    subst (λ r. Reads r (value.JsonList (objects_of (fit ∷ fits))))
    (ap (λ r. codes "[" ++ r) (append_assoc inside (codes "]") (codes "\n")))
    (json no_blank (list_is (with_elements (element_then (bare (object_is fit h.0)) (more_are fits h.1))))
    (one_blank line_feed no_blank))
answer_is false fit fits h =
    subst (λ r. Reads (r ++ codes "\n") (object_value fit)) (sym (append-nil (text.object fit)))
    (json no_blank (object_is fit h.0) (one_blank line_feed no_blank))
