-- The laws of what runs write.
use Rattle.std.proofs.Common.{◌≡◌, ◌*◌, ◌^◌, ◌<◌, ℕ, Bool, true, false, List, [], Option, Some, None, Ok, length, codes, inl, inr, refl, sym, ap, ◌∙◌, subst, arith}
use Rattle.std.specs.Prelude.{nat_le, if◌then◌else◌}
use Rattle.std.specs.Io.KnownBytes.{Appends}
use Rattle.bit_space.specs.SpaceView.{SpaceView}
use Rattle.pickle_types.specs.Types.{PokeType}
use Rattle.pickle_meaning.specs.Fits.{Fits}
use Rattle.pickle_meaning.specs.Values.{Value, end_of, no_values}
use Rattle.run_parts.specs.declared.accept.Refusal.{Refusal}
use Rattle.run_parts.specs.declared.accept.Refusal.TheVariants as refusal
use Rattle.run_parts.specs.declared.outcome.Outcome.{Outcome}
use Rattle.run_parts.specs.declared.outcome.Outcome.TheVariants as outcome
use Rattle.run_parts.specs.Accepted.{refusal_saying}
use Rattle.run_parts.specs.Outcomes.{outcome_line, outcome_status, status_said}
use Rattle.run_parts.proofs.Sayings.{outcome_lines}
use Rattle.command_line.specs.declared.ask.Ask.{Ask}
use Rattle.text_output.specs.declared.mode.Mode.TheVariants.{Json}
use Rattle.command_line.specs.declared.path.Path.{Path}
use Rattle.run_parts.specs.declared.status.Status.{Status}
use Rattle.run_parts.specs.declared.status.Status.TheVariants.{Done, Fault, Refused, Outside}
use Rattle.command_line.specs.declared.terms.Terms.{Terms}
use Rattle.value_text.specs.Json.{Reads}
use Rattle.value_text.specs.StyledJsonValue.{json_of}
use Rattle.run_parts.specs.Lines.{fault_line, fault_at_line}
use Rattle.poke_batch.specs.PathParts.{part_at}
use Rattle.value_text.specs.Printed.{printed}
use Rattle.poke_batch.specs.RunLaws.{MappedPartsAreSmall, part_json, WritesJson, WritesStyledJson, MappedJsonReadsBack, PartJsonReadsBack, StyledPartJsonReadsBack}
use Rattle.poke_batch.specs.Runs.{IsAsked, HasAnswer, MapsAs, no_type, refused_pickle, value, stops, device, unknown, refused_map, no_memory}
use Rattle.poke_batch.specs.RunsUnder.{text_saying, is_left, part_saying, part_text, part_has, kept_saying, value_saying, shows_bytes, MapsUnder, mapped_under, shown_under, ended_under, slots_under, storage_under, HasNoRun, MapsRequested, is_run, lacks_part, lacks_type, no_part, not_run, undecided}
use Rattle.value_text.specs.SmallParts.{HasSmallParts, HasFewMembers}
use Rattle.run_parts.specs.Told.{Saying, Text, Line, IsSaid, IsTold, IsWritten}
use Rattle.value_text.proofs.StyledJsonValues.{json_reads_back, if_cut}
use Rattle.text_output.specs.Styles.{plain}
use Rattle.pickle_types.specs.declared.table.Table.{Table}
use Rattle.pickle_types.specs.declared.table.TypeId.{TypeId}
use Rattle.pickle_types.specs.NodeParts.{char_node_of}
use Rattle.pickle_types.specs.TypeTable.{nodes_of, type_named}
use Rattle.poke_batch.proofs.AllMembers.{few_each, small_each, member_has}
use Rattle.poke_batch.proofs.PartsKept.{part_keeps}
use Rattle.poke_batch.proofs.PartTexts.{part_node, plain_part, json_part}
use Rattle.poke_batch.proofs.SmallTypes.{IsSmallType, accepted_small}
use Rattle.poke_batch.proofs.SmallValues.{value_small}
use Rattle.poke_batch.proofs.FewMembers.{value_few}

pub type_small : (pickle name : List ℕ) (type : PokeType) → IsAsked pickle name type → IsSmallType type
type_small pickle name type asked =
    accepted_small pickle asked.declarations asked.types name type asked.accepted asked.found

pub parts_small : MappedPartsAreSmall
parts_small pickle name m type levels start mapped asked fits =
    value_small m type levels start mapped (type_small pickle name type asked) fits

not_outside : {status : Status} → status ≡ Done → status ≡ Outside → ⊥
not_outside done outside = cc

-- if a run is done, its text was written whole, and no line was printed
whole_written : (text : List ℕ) (status : Status) (out out' err err' : Option (List ℕ)) → status ≡ Done →
    IsWritten text status out out' err err' → Appends out out' text
whole_written text status out out' err err' done (inl h) = h.1
whole_written text status out out' err err' done (inr h) = absurd (not_outside done h.0)

nothing_told : (line_status : Status) (line : List ℕ) (status : Status) (err err' : Option (List ℕ)) → status ≡ Done →
    IsTold line_status line status err err' → line_status ≡ Done
nothing_told line_status line status err err' done (inl h) = cc
nothing_told line_status line status err err' done (inr h) = absurd (not_outside done h.0)

pub part_small : (path : Option Path) (whole part : Value) → HasSmallParts whole →
    part_at path whole ≡ Some part → HasSmallParts part
part_small = part_keeps HasSmallParts (member_has small_each)

pub part_few : (path : Option Path) (whole part : Value) → HasFewMembers whole →
    part_at path whole ≡ Some part → HasFewMembers part
part_few = part_keeps HasFewMembers (member_has few_each)

-- no refusal has the exit status of a run that is done
refusal_ends : (why : Refusal) → status_said (refusal_saying why) ≡ Done → ⊥
refusal_ends (refusal.Tokens kind at) e = cc
refusal_ends (refusal.Syntax at) e = cc
refusal_ends refusal.TooDeep e = cc
refusal_ends refusal.TooMany e = cc
refusal_ends (refusal.Types kind declaration) e = cc
refusal_ends refusal.Memory e = cc

module _ (pickle : List ℕ) (ask : Ask) (before : SpaceView) (status : Status) (out out' err err' : Option (List ℕ))
    (done : status ≡ Done) where
  abbrev pub IsSaidHere : Saying → Type 0
  IsSaidHere saying = IsSaid saying status out out' err err'

  -- the value is what the type means on the file's bits, where these are known
  abbrev pub IsMeant : PokeType → Value → Type 0
  IsMeant type mapped =
      (bytes : List ℕ) → before.bytes ≡ Some bytes → HasAnswer bytes type ask.order ask.start ask.limit (Ok mapped)

  -- no line is printed
  no_line : {A : Type 0} (line_status : Status) (line : List ℕ) → (line_status ≡ Done → ⊥) →
      IsSaidHere (Line line_status line) → A
  no_line line_status line other h = absurd (other (nothing_told line_status line status err err' done h.1))

  -- what follows from a part's text that was written follows from what is said of the part
  module _ {A : Type 0} (path : Option Path) (mapped : Value) (text : Value → List ℕ)
      (follows : (part : Value) → part_at path mapped ≡ Some part → Appends out out' (text part) → A) where
    text_said : (part : Value) → part_at path mapped ≡ Some part → IsSaidHere (Text (text part)) → A
    text_said part found h = follows part found (whole_written (text part) status out out' err err' done h)

    kept_said : (most : Option ℕ) (part : Value) → part_at path mapped ≡ Some part →
        IsSaidHere (text_saying most ask.start (text part)) → A
    kept_said None part found h = text_said part found h
    kept_said (Some most) part found h = chosen (nat_le (length (text part)) most) h
      where
        chosen : (short : Bool) →
            IsSaidHere (if short then Text (text part) else Line Fault (fault_at_line (codes "Output") ask.start)) → A
        chosen true h = text_said part found h
        chosen false h = no_line Fault _ (λ e. cc) h

    part_said : (most : Option ℕ) (has : Value → Bool) (found : Option Value) → part_at path mapped ≡ found →
        IsSaidHere (part_saying ask most has text found) → A
    part_said most has None is h = no_line Fault _ (λ e. cc) h
    part_said most has (Some part) is h = chosen (has part) h
      where
        chosen : (selected : Bool) →
            IsSaidHere (if selected then text_saying most ask.start (text part)
            else Line Fault (fault_line (codes "NoSuchPart"))) → A
        chosen true h = kept_said most part is h
        chosen false h = no_line Fault _ (λ e. cc) h

  value_said : {A : Type 0} (table : Table) (id : TypeId) (terms : Terms) (mapped : Value)
      → ((part : Value) → part_at terms.part mapped ≡ Some part
      → Appends out out' (part_text table id ask terms mapped part) → A)
      → IsSaidHere (value_saying table id ask terms (8 * before.len) mapped) → A
  value_said {A} table id terms mapped follows h = chosen (is_left terms.whole (end_of mapped) (8 * before.len)) h
    where
      chosen : (left : Bool) →
          IsSaidHere (if left then Line Fault (fault_at_line (codes "Left") (end_of mapped))
          else kept_saying table id ask terms mapped) → A
      chosen true h = no_line Fault _ (λ e. cc) h
      chosen false h = part_said terms.part mapped (part_text table id ask terms mapped) follows terms.most_output
          (part_has table id terms mapped) (part_at terms.part mapped) refl h

  -- no line of a mapping is printed with the exit status of one that is done
  line_is : (after : SpaceView) (saying : Saying) → MapsAs pickle ask before after saying →
      (line_status : Status) (line : List ℕ) → saying ≡ Line line_status line → line_status ≡ Done → ⊥
  line_is after _ (value asked means fits) line_status line is e = cc
  line_is after _ (stops asked a b c run d) line_status line is e = cc
  line_is after _ (device asked a) line_status line is e = cc
  line_is after _ (unknown a b) line_status line is e = cc
  line_is after _ (refused_map {refusal = why} a) line_status line is e = refusal_ends why (ap status_said is ∙ e)
  line_is after _ no_memory line_status line is e = cc

  -- what follows from each text of a part that is written under terms follows from what is said
  pub under_said : {A : Type 0} (terms : Terms) (after : SpaceView) (saying : Saying) → terms.look ≡ None
      → MapsUnder pickle ask terms before after saying → IsSaidHere saying
      → ((table : Table) (id : TypeId) (type : PokeType) (mapped : Value) → type_named table id ≡ type
      → IsAsked pickle ask.name.now type → IsMeant type mapped → Fits (8 * before.len) type no_values ask.start mapped
      → (part : Value) → part_at terms.part mapped ≡ Some part
      → Appends out out' (part_text table id ask terms mapped part) → A)
      → A
  under_said terms after saying none
      (mapped_under {type = type} {mapped = mapped} table id named unshown asked means fits light) h follows =
      value_said table id terms mapped (follows table id type mapped named asked means fits) h
  under_said terms after saying none (shown_under table id file named shown beside asked means fits light) h follows =
      let never : false ≡ true = sym (ap shows_bytes none) ∙ shown in absurd cc
  under_said terms after saying none (ended_under {status = line_status} {line = line} right) h follows =
      no_line line_status line (line_is after (Line line_status line) right line_status line refl) h
  under_said terms after saying none (slots_under asked most less few) h follows = no_line Fault _ (λ e. cc) h
  under_said terms after saying none (storage_under asked most heavy) h follows = no_line Fault _ (λ e. cc) h

  -- a run that maps nothing isn't done
  not_done : (name : List ℕ) (terms : Terms) (ended : Outcome) → HasNoRun pickle name terms ended →
      outcome_status ended ≡ Done → ⊥
  not_done name terms _ (lacks_type (refused_pickle {refusal = why} refuses)) e = refusal_ends why e
  not_done name terms _ (lacks_type (no_type accepted none)) e = cc
  not_done name terms _ (lacks_part asked (no_part lacks)) e = cc
  not_done name terms _ (lacks_part asked undecided) e = cc

  -- the same of a requested mapping
  pub requested_said : {A : Type 0} (terms : Terms) (after : SpaceView) (saying : Saying) → terms.look ≡ None
      → MapsRequested pickle ask terms before after saying → IsSaidHere saying
      → ((table : Table) (id : TypeId) (type : PokeType) (mapped : Value) → type_named table id ≡ type
      → IsAsked pickle ask.name.now type → IsMeant type mapped → Fits (8 * before.len) type no_values ask.start mapped
      → (part : Value) → part_at terms.part mapped ≡ Some part
      → Appends out out' (part_text table id ask terms mapped part) → A)
      → A
  requested_said terms after _ look (not_run {ended = ended} none) h follows =
      no_line (outcome_status ended) (outcome_line ended) (not_done ask.name.now terms ended none)
      (subst IsSaidHere (outcome_lines ended) h)
  requested_said terms after saying look (is_run asked can under) h follows =
      under_said terms after saying look under h follows

  module _ (mode : ask.mode ≡ Json) where
    json_reads : (path : Option Path) (type : PokeType) (mapped : Value) → IsAsked pickle ask.name.now type
        → IsMeant type mapped → Fits (8 * before.len) type no_values ask.start mapped
        → (part : Value) → part_at path mapped ≡ Some part → Appends out out' (printed ask.mode part)
        → WritesJson pickle ask path before out out'
    json_reads path type mapped asked means fits part found h = record {
      type = type;
      asked = asked;
      mapped = mapped;
      means = means;
      fits = fits;
      part = part;
      found = found;
      text = printed ask.mode part;
      written = h;
      reads = subst (λ m. Reads (printed m part) (json_of part)) (sym mode)
          (json_reads_back [] None None plain part (part_small path mapped part small found) tt);
    }
      where
        small : HasSmallParts mapped
        small = parts_small pickle ask.name.now (8 * before.len) type no_values ask.start mapped asked fits

    json_written : (after : SpaceView) (saying : Saying) → MapsAs pickle ask before after saying → IsSaidHere saying →
        WritesJson pickle ask None before out out'
    json_written after saying (value {type = type} {mapped = mapped} asked means fits) h =
        text_said None mapped (printed ask.mode) (json_reads None type mapped asked means fits) mapped refl h
    json_written after saying (stops asked a b c run d) h = no_line Fault _ (λ e. cc) h
    json_written after saying (device asked a) h = no_line Outside _ (λ e. cc) h
    json_written after saying (unknown a b) h = no_line Refused _ (λ e. cc) h
    json_written after saying (refused_map {refusal = why} a) h = no_line (status_said (refusal_saying why)) _
        (refusal_ends why) (subst IsSaidHere (outcome_lines (outcome.Refused why)) h)
    json_written after saying no_memory h = no_line Outside _ (λ e. cc) h

    plain_written : (terms : Terms) → terms.style ≡ plain → terms.look ≡ None → terms.selection ≡ None
        → (table : Table) (id : TypeId) (type : PokeType) (mapped : Value) → type_named table id ≡ type
        → IsAsked pickle ask.name.now type → IsMeant type mapped
        → Fits (8 * before.len) type no_values ask.start mapped
        → (part : Value) → part_at terms.part mapped ≡ Some part
        → Appends out out' (part_text table id ask terms mapped part) → WritesJson pickle ask terms.part before out out'
    plain_written terms is none all table id type mapped named asked means fits part found h =
        json_reads terms.part type mapped asked means fits part found
        (subst (Appends out out') (plain_part table id ask terms mapped part is none all) h)

    styled_written : (terms : Terms) → terms.look ≡ None → terms.selection ≡ None → before.len < 2 ^ 60
        → (table : Table) (id : TypeId) (type : PokeType) (mapped : Value) → type_named table id ≡ type
        → IsAsked pickle ask.name.now type → IsMeant type mapped
        → Fits (8 * before.len) type no_values ask.start mapped
        → (part : Value) → part_at terms.part mapped ≡ Some part
        → Appends out out' (part_text table id ask terms mapped part)
        → WritesStyledJson pickle ask terms before out out'
    styled_written terms none all short table id type mapped named asked means fits part found h = record {
      type = type;
      asked = asked;
      table = table;
      id = id;
      named = named;
      mapped = mapped;
      means = means;
      fits = fits;
      part = part;
      found = found;
      text = part_text table id ask terms mapped part;
      written = h;
      reads = subst (λ text. Reads text (part_json table id terms mapped part))
          (sym (json_part table id ask terms mapped part mode none all))
          (json_reads_back (nodes_of table) (char_node_of table) (part_node table id terms mapped) terms.style
          part (part_small terms.part mapped part small found)
          (if_cut terms.style.elements (part_few terms.part mapped part few found)));
    }
      where
        small : HasSmallParts mapped
        small = parts_small pickle ask.name.now (8 * before.len) type no_values ask.start mapped asked fits

        few : HasFewMembers mapped
        few = value_few (8 * before.len) (omega (arith, short)) type no_values ask.start mapped
            (type_small pickle ask.name.now type asked) fits

pub mapped_json : MappedJsonReadsBack
mapped_json pickle ask before after status out out' err err' mode done h =
    json_written pickle ask before status out out' err err' done mode after h.saying h.right h.said

pub part_json_back : PartJsonReadsBack
part_json_back pickle ask terms before after status out out' err err' mode is none all done h =
    requested_said pickle ask before status out out' err err' done terms after h.saying none h.right h.said
    (plain_written pickle ask before status out out' err err' done mode terms is none all)

pub styled_part_json : StyledPartJsonReadsBack
styled_part_json pickle ask terms before after status out out' err err' mode none all short done h =
    requested_said pickle ask before status out out' err err' done terms after h.saying none h.right h.said
    (styled_written pickle ask before status out out' err err' done mode terms none all short)
