-- The objects of files read back.
use Rattle.std.proofs.Common.{◌≡◌, ℕ, pos, ◌-◌, ◌*◌, ◌/◌, ◌%◌, ◌^◌, ◌<◌, Bool, true, false, List, [], ◌∷◌, ◌++◌, Some, None, Ok, take, length, length-append, refl, sym, ◌∙◌, ap, subst, inl, inr, arith}
use Rattle.std.specs.Prelude.{◌==◌, nat_lt, if◌then◌else◌, codes}
use Rattle.std.specs.Fmt.{digits}
use Rattle.std.specs.Io.KnownBytes.{Appends}
use Rattle.std.proofs.KnownBytes.{Keeps-refl}
use Rattle.std.proofs.Math.Seq.{take-append_seam}
use Rattle.std.proofs.lemmas.Bool.{cases_Bool}
use Rattle.std.proofs.lemmas.List.{append_assoc}
use Rattle.bit_space.specs.SpaceView.{SpaceView}
use Rattle.pickle_types.specs.Types.{PokeType}
use Rattle.pickle_types.specs.declared.table.Table.{Table}
use Rattle.pickle_types.specs.declared.table.TypeId.{TypeId}
use Rattle.pickle_types.specs.NodeParts.{char_node_of}
use Rattle.pickle_types.specs.TypeTable.{nodes_of, type_named}
use Rattle.pickle_meaning.specs.Fits.{Fits}
use Rattle.pickle_meaning.specs.Values.{Value, no_values}
use Rattle.command_line.specs.declared.ask.Ask.{Ask}
use Rattle.command_line.specs.declared.terms.Terms.{Terms}
use Rattle.run_parts.specs.declared.outcome.Failure.TheVariants as failure
use Rattle.run_parts.specs.declared.outcome.Outcome.{Outcome}
use Rattle.run_parts.specs.declared.outcome.Outcome.TheVariants as outcome
use Rattle.run_parts.specs.declared.status.Status.TheVariants.{Done}
use Rattle.run_parts.specs.Outcomes.{EndsAs}
use Rattle.run_parts.specs.Told.{Saying, Says}
use Rattle.run_parts.proofs.Sayings.{ends_says}
use Rattle.text_output.specs.HexDigits.{hex_digit}
use Rattle.text_output.specs.declared.mode.Mode.TheVariants.{Json}
use Rattle.value_text.specs.Json.{no_blank, one_blank, line_feed, ReadsValue, ReadsEntry, ReadsEntries, last_entry, number_value, string_value, object, Reads, json}
use Rattle.value_text.specs.JsonText.{json_string}
use Rattle.value_text.specs.JsonValue as value
use Rattle.value_text.specs.JsonValue.{EntryThen, whole_number}
use Rattle.value_text.specs.SmallParts.{AreBytes, HasSmallParts, HasFewMembers}
use Rattle.value_text.specs.ValueText.{is_plain, escape_text}
use Rattle.value_text.specs.Styled.{with_chars}
use Rattle.value_text.specs.StyledJson.{styled_json}
use Rattle.value_text.proofs.JsonWords.{natural_is, string_is}
use Rattle.value_text.proofs.JsonValues.{bare, MoreElements, no_element, more_elements, MoreEntries, no_entry, more_entries, InList, without_elements, with_elements, element_then, entry_then, list_is, entry_is}
use Rattle.value_text.proofs.StyledJsonValues.{json_text_reads, if_cut}
use Rattle.poke_batch.specs.FileLine.{name_byte, shown_name, in_memory}
use Rattle.poke_batch.specs.FileObject.{HoldsRun, file_object, name_json, before_lines, text_lines, without_end, without_indent, lines_json, why_member}
use Rattle.poke_batch.specs.declared.each.Kept.{Kept}
use Rattle.poke_batch.specs.ObjectLaws.{strings_of, why_entries, done_object, DoneObjectReads, ReadsAsObject, StoredObjectReadsBack}
use Rattle.poke_batch.specs.PathParts.{part_at}
use Rattle.poke_batch.specs.RunLaws.{part_json}
use Rattle.poke_batch.specs.Runs.{IsAsked, HasAnswer}
use Rattle.poke_batch.specs.RunsUnder.{MapsUnder, part_text}
use Rattle.poke_batch.proofs.RunLaws.{parts_small, type_small, part_small, part_few, under_said}
use Rattle.poke_batch.proofs.PartTexts.{part_node, json_part}
use Rattle.poke_batch.proofs.FewMembers.{value_few}

-- ---- bytes

bytes_join : (xs ys : List ℕ) → AreBytes xs → AreBytes ys → AreBytes (xs ++ ys)
bytes_join [] ys h g = g
bytes_join (x ∷ xs) ys h g = (h.0, bytes_join xs ys h.1 g)

digit_byte : (n : ℕ) → n < 16 → hex_digit n < 2 ^ 8
digit_byte n small = elim (cases_Bool (nat_lt n 10)) [
  | inl hit ↦ rw hit (omega (arith, small))
  | inr miss ↦ rw miss (omega (arith, small))
]

escape_bytes : (byte : ℕ) → byte < 2 ^ 8 → AreBytes (escape_text byte)
escape_bytes byte small = elim (cases_Bool (byte == 92)) [
  | inl a ↦ rw a (omega arith, (omega arith, tt))
  | inr a ↦ rw a (elim (cases_Bool (byte == 34)) [
    | inl b ↦ rw b (omega arith, (omega arith, tt))
    | inr b ↦ rw b (elim (cases_Bool (byte == 10)) [
      | inl c ↦ rw c (omega arith, (omega arith, tt))
      | inr c ↦ rw c (elim (cases_Bool (byte == 9)) [
        | inl d ↦ rw d (omega arith, (omega arith, tt))
        | inr d ↦ rw d (
          omega arith,
          (omega arith, (digit_byte (byte / 16) (omega (arith, small)), (digit_byte (byte % 16) (omega arith), tt))),
        )
      ])
    ])
  ])
]

choice_bytes : (quote plain : Bool) (byte : ℕ) → byte < 2 ^ 8 →
    AreBytes (if quote then 34 ∷ [] else if plain then byte ∷ [] else escape_text byte)
choice_bytes true plain byte small = (omega arith, tt)
choice_bytes false true byte small = (small, tt)
choice_bytes false false byte small = escape_bytes byte small

name_byte_bytes : (byte : ℕ) → byte < 2 ^ 8 → AreBytes (name_byte byte)
name_byte_bytes byte small = choice_bytes (byte == 34) (is_plain byte) byte small

name_bytes_are : (name : List ℕ) → AreBytes name → AreBytes (shown_name name)
name_bytes_are [] h = tt
name_bytes_are (byte ∷ bytes) h =
    bytes_join (name_byte byte) (shown_name bytes) (name_byte_bytes byte h.0) (name_bytes_are bytes h.1)

-- ---- lines

abbrev AreLines : List (List ℕ) → Type 0
AreLines [] = Unit {0}
AreLines (line ∷ lines) = AreBytes line × AreLines lines

before_bytes : (byte : ℕ) (lines : List (List ℕ)) → byte < 2 ^ 8 → AreLines lines → AreLines (before_lines byte lines)
before_bytes byte [] small h = ((small, tt), tt)
before_bytes byte (line ∷ lines) small h = ((small, h.0), h.1)

lines_bytes : (text : List ℕ) → AreBytes text → AreLines (text_lines text)
lines_bytes [] h = tt
lines_bytes (byte ∷ bytes) h = elim (cases_Bool (byte == 10)) [
  | inl end ↦ rw end (tt, lines_bytes bytes h.1)
  | inr other ↦ rw other (before_bytes byte (text_lines bytes) h.0 (lines_bytes bytes h.1))
]

indent_bytes : (line : List ℕ) → AreBytes line → AreBytes (without_indent line)
indent_bytes [] h = h
indent_bytes (a ∷ []) h = h
indent_bytes (a ∷ b ∷ line) h = elim (cases_Bool (a == 32)) [
  | inl first ↦ rw first (elim (cases_Bool (b == 32)) [
    | inl second ↦ rw second h.1.1
    | inr other ↦ rw other h
  ])
  | inr other ↦ rw other h
]

strings_follow : (lines : List (List ℕ)) → AreLines lines → MoreElements (lines_json false lines) (strings_of lines)
strings_follow [] h = no_element
strings_follow (line ∷ lines) h =
    more_elements (element_then (bare (string_value (string_is (without_indent line) (indent_bytes line h.0))))
    (strings_follow lines h.1))

strings_are : (lines : List (List ℕ)) → AreLines lines → InList (lines_json true lines) (strings_of lines)
strings_are [] h = without_elements
strings_are (line ∷ lines) h =
    with_elements (element_then (bare (string_value (string_is (without_indent line) (indent_bytes line h.0))))
    (strings_follow lines h.1))

-- ---- members

name_key : AreBytes (codes "name")
name_key = (omega arith, (omega arith, (omega arith, (omega arith, tt))))

status_key : AreBytes (codes "status")
status_key = (omega arith, (omega arith, (omega arith, (omega arith, (omega arith, (omega arith, tt))))))

value_key : AreBytes (codes "value")
value_key = (omega arith, (omega arith, (omega arith, (omega arith, (omega arith, tt)))))

why_key : AreBytes (codes "why")
why_key = (omega arith, (omega arith, (omega arith, tt)))

why_is : (reasons : List ℕ) → AreBytes reasons → MoreEntries (why_member reasons) (why_entries reasons)
unfolding json_string
why_is [] h = no_entry
why_is (byte ∷ reasons) h =
    let lines = text_lines (byte ∷ reasons) in
    more_entries (last_entry
    (entry_is (string_is (codes "why") why_key) (list_is (strings_are lines (lines_bytes (byte ∷ reasons) h)))))

-- the entries of an object
entries_are : (name text reasons : List ℕ) (v : value.Json) → AreBytes name → AreBytes reasons → ReadsValue text v
    → ReadsEntries ((codes "\"name\":" ++ name_json name)
    ++ (codes ",\"status\":0," ++ ((codes "\"value\":" ++ text) ++ why_member reasons)))
    (EntryThen (codes "name") (value.JsonString (shown_name name))
    (EntryThen (codes "status") (whole_number (pos 0)) (EntryThen (codes "value") v (why_entries reasons))))
unfolding json_string digits
entries_are name text reasons v n r h =
    let first : ReadsEntry (codes "\"name\":" ++ name_json name) (codes "name") (value.JsonString (shown_name name)) =
    entry_is (string_is (codes "name") name_key) (string_value (string_is (shown_name name) (name_bytes_are name n))) in
    let second : ReadsEntry (codes "\"status\":0") (codes "status") (whole_number (pos 0)) =
    entry_is (string_is (codes "status") status_key) (number_value (natural_is 0 (omega arith))) in
    let third : ReadsEntry (codes "\"value\":" ++ text) (codes "value") v =
    entry_is (string_is (codes "value") value_key) h in
    entry_then first (more_entries (entry_then second (more_entries (entry_then third (why_is reasons r)))))

cut_end : (text : List ℕ) → without_end (text ++ codes "\n") ≡ text
cut_end text =
    let n : length (text ++ codes "\n") - 1 ≡ length text = omega (arith, length-append text (codes "\n")) in
    ap (λ k. take k (text ++ codes "\n")) n ∙ take-append_seam text (codes "\n")

join : (n s v w a b : List ℕ) → ((n ++ (s ++ (v ++ w))) ++ a) ++ b ≡ n ++ (s ++ (v ++ (w ++ (a ++ b))))
join n s v w a b = simp append_assoc

-- the text of an object, as braces around the entries
whole_is : (n text w : List ℕ)
    → (codes "{"
    ++ (((codes "\"name\":" ++ n) ++ (codes ",\"status\":0," ++ ((codes "\"value\":" ++ text) ++ w))) ++ codes "}"))
    ++ codes "\n"
    ≡ codes "{\"name\":" ++ (n ++ (codes ",\"status\":0," ++ ((codes "\"value\":" ++ text) ++ (w ++ codes "}\n"))))
whole_is n text w = ap (λ r. codes "{\"name\":" ++ r)
    (join n (codes ",\"status\":0,") (codes "\"value\":" ++ text) w (codes "}") (codes "\n"))

pub object_reads : DoneObjectReads
object_reads name text reasons v n r h =
    subst (λ s. Reads s (done_object name v reasons))
    (whole_is (name_json name) text (why_member reasons)
    ∙ ap (λ t. codes "{\"name\":" ++ (name_json name
    ++ (codes ",\"status\":0," ++ ((codes "\"value\":" ++ t) ++ (why_member reasons ++ codes "}\n")))))
    (sym (cut_end text)))
    (json no_blank (object (entries_are name text reasons v n r h)) (one_blank line_feed no_blank))

-- ---- stored runs

done_before : (ended : Outcome) → in_memory ended ≡ outcome.Done → ended ≡ outcome.Done
done_before outcome.Done e = refl
done_before (outcome.Refused why) e = cc
done_before outcome.NoSuchType e = cc
done_before outcome.ImpossiblePart e = cc
done_before outcome.Offset e = cc
done_before (outcome.Fault why) e = cc
done_before (outcome.Slots at) e = cc
done_before (outcome.Storage at) e = cc
done_before (outcome.Left at) e = cc
done_before outcome.NoSuchPart e = cc
done_before (outcome.Output at) e = cc
done_before outcome.Unidentified e = cc
done_before outcome.NotFound e = cc
done_before (outcome.Attempts first count) e = cc
done_before (outcome.Unaligned at) e = cc
done_before (outcome.Failed failure.Memory) e = cc
done_before (outcome.Failed failure.Device) e = cc
done_before (outcome.Failed failure.Write) e = cc
done_before (outcome.Failed failure.Read) e = cc
done_before (outcome.Failed failure.Open) e = cc
done_before (outcome.Failed failure.TooLong) e = cc

-- a run that wrote into memory says its text
stored_says : (IsRight : Saying → Type 0) (kept : Kept) → kept.outcome ≡ outcome.Done → HoldsRun IsRight kept →
    Says IsRight Done (Some []) (Some kept.text.items) (Some []) (Some [])
stored_says IsRight kept done holds =
    let ended = done_before holds.ended (sym holds.outcome_is ∙ done) in
    ends_says IsRight outcome.Done Done (Some []) (Some kept.text.items) (Some []) (Some [])
    (subst (λ (o : Outcome). EndsAs IsRight o (Some []) (Some kept.text.items)) ended holds.ends)
    (λ out. (Keeps-refl out, inl (refl, refl)))

module _ (pickle : List ℕ) (ask : Ask) (terms : Terms) (before : SpaceView) (kept : Kept) (name reasons : List ℕ)
    (json_mode : ask.mode ≡ Json) (none : terms.look ≡ None) (all : terms.selection ≡ None)
    (short : before.len < 2 ^ 60)
    (n : AreBytes name) (r : AreBytes reasons) (done : kept.outcome ≡ outcome.Done) where
  reads_here : (table : Table) (id : TypeId) (type : PokeType) (mapped : Value) → type_named table id ≡ type
      → IsAsked pickle ask.name.now type
      → ((bytes : List ℕ) → before.bytes ≡ Some bytes → HasAnswer bytes type ask.order ask.start ask.limit (Ok mapped))
      → Fits (8 * before.len) type no_values ask.start mapped → (part : Value) → part_at terms.part mapped ≡ Some part
      → Appends (Some []) (Some kept.text.items) (part_text table id ask terms mapped part)
      → ReadsAsObject pickle ask terms before kept name reasons
  reads_here table id type mapped named asked means fits part found h = record {
    type = type;
    asked = asked;
    table = table;
    id = id;
    named = named;
    mapped = mapped;
    means = means;
    fits = fits;
    part = part;
    found = found;
    reads = subst (λ t. Reads (file_object name kept.outcome t reasons) object_is)
        (sym (h ∙ json_part table id ask terms mapped part json_mode none all))
        (subst (λ o. Reads (file_object name o (text ++ codes "\n") reasons) object_is) (sym done)
        (object_reads name text reasons (part_json table id terms mapped part) n r
        (json_text_reads (nodes_of table) (char_node_of table) (part_node table id terms mapped) terms.style part
        (part_small terms.part mapped part small found)
        (if_cut terms.style.elements (part_few terms.part mapped part few found)))));
  }
    where
      object_is : value.Json
      object_is = done_object name (part_json table id terms mapped part) reasons

      text : List ℕ
      text = styled_json terms.style
          (with_chars terms.style.chars (nodes_of table) (char_node_of table) (part_node table id terms mapped) part)

      small : HasSmallParts mapped
      small = parts_small pickle ask.name.now (8 * before.len) type no_values ask.start mapped asked fits

      few : HasFewMembers mapped
      few = value_few (8 * before.len) (omega (arith, short)) type no_values ask.start mapped
          (type_small pickle ask.name.now type asked) fits

pub stored_object : StoredObjectReadsBack
stored_object pickle ask terms before after kept name reasons json_mode none all short n r done holds =
    let says = stored_says (MapsUnder pickle ask terms before after) kept done holds in
    under_said pickle ask before Done (Some []) (Some kept.text.items) (Some []) (Some []) refl terms after says.saying
    none says.right says.said
    (reads_here pickle ask terms before kept name reasons json_mode none all short n r done)
