-- The bounds on what mappings write under terms.
use Rattle.std.proofs.Common.{◌≡◌, ◌*◌, ◌≤◌, ◌⊎◌, ℕ, Bool, true, false, List, Option, Some, None, length, codes, inl, inr, refl, sym, ◌∙◌, ap, subst, arith}
use Rattle.std.specs.Prelude.{nat_le, if◌then◌else◌}
use Rattle.std.specs.Io.KnownBytes.{Keeps}
use Rattle.bit_space.specs.SpaceView.{SpaceView}
use Rattle.pickle_types.specs.Types.{PokeType}
use Rattle.pickle_meaning.specs.Fits.{Fits}
use Rattle.pickle_meaning.specs.Values.{Value, end_of, no_values}
use Rattle.command_line.specs.declared.ask.Ask.{Ask}
use Rattle.run_parts.specs.declared.status.Status.{Status}
use Rattle.run_parts.specs.declared.status.Status.TheVariants.{Fault}
use Rattle.command_line.specs.declared.terms.Terms.{Terms}
use Rattle.run_parts.specs.Lines.{fault_line, fault_at_line}
use Rattle.pickle_types.specs.declared.table.Table.{Table}
use Rattle.pickle_types.specs.declared.table.TypeId.{TypeId}
use Rattle.text_output.specs.declared.style.Style.{Style}
use Rattle.pickle_types.specs.NodeParts.{char_node_of}
use Rattle.pickle_types.specs.TypeTable.{nodes_of}
use Rattle.poke_batch.specs.PathParts.{part_at, node_at}
use Rattle.poke_batch.specs.Runs.{IsAsked}
use Rattle.poke_batch.proofs.PartTexts.{styled_part}
use Rattle.poke_batch.specs.RunsUnder.{text_saying, is_left, part_saying, part_text, part_has, kept_saying, value_saying, shows_bytes, MapsUnder, mapped_under, shown_under, ended_under, slots_under, storage_under, MapsRequested, not_run, is_run}
use Rattle.run_parts.specs.Told.{Saying, Text, Line, IsSaid}
use Rattle.run_parts.proofs.Sayings.{outcome_lines}
use Rattle.text_bounds.specs.OutputRoom.{GrowsWithin, OutputIsBounded}
use Rattle.text_bounds.specs.TextLaws.{OutputsUnderTermsAreBounded}
use Rattle.text_bounds.specs.TextRoom.{most_text}
use Rattle.text_bounds.proofs.BoundedParts.{styled_bounded}
use Rattle.text_bounds.proofs.BoundedTexts.{written_within}

module _ (ask : Ask) (terms : Terms) (m : ℕ) (type : PokeType) (mapped : Value)
    (fits : Fits m type no_values ask.start mapped) (status : Status) (out out' err err' : Option (List ℕ)) where
  abbrev most : ℕ
  most = most_text terms.style ask.mode type m

  abbrev Says : Saying → Type 0
  Says saying = IsSaid saying status out out' err err'

  abbrev IsWithin : Type 0
  IsWithin = Keeps out out' ⊎ GrowsWithin out out' most

  text_said : (limit : Option ℕ) (text : List ℕ) → length text ≤ most →
      Says (text_saying limit ask.start text) → IsWithin
  text_said None text few h = inr (written_within text status out out' err err' _ few h)
  text_said (Some limit) text few h = chosen (nat_le (length text) limit) h
    where
      chosen : (short : Bool) →
          Says (if short then Text text else Line Fault (fault_at_line (codes "Output") ask.start)) → IsWithin
      chosen true h = inr (written_within text status out out' err err' _ few h)
      chosen false h = inl h.0

  part_said : (table : Table) (id : TypeId) → terms.look ≡ None → terms.selection ≡ None → (found : Option Value)
      → part_at terms.part mapped ≡ found
      → Says
      (part_saying ask terms.most_output (part_has table id terms mapped) (part_text table id ask terms mapped) found)
      → IsWithin
  part_said table id look all None is h = inl h.0
  part_said table id look all (Some part) is h = chosen (part_has table id terms mapped part) h
    where
      few : length (part_text table id ask terms mapped part) ≤ most
      few =
          let of = node_at (nodes_of table) terms.part (Some id.node) mapped in
          let styled = styled_bounded (nodes_of table) (char_node_of table) of terms.style ask.mode m type no_values
          ask.start mapped terms.part part fits is in
          let same = ap length (styled_part table id ask terms mapped part look all) in
          omega (arith, same, styled)

      chosen : (has : Bool) →
          Says (if has then text_saying terms.most_output ask.start (part_text table id ask terms mapped part)
          else Line Fault (fault_line (codes "NoSuchPart"))) → IsWithin
      chosen true h = text_said terms.most_output (part_text table id ask terms mapped part) few h
      chosen false h = inl h.0

  value_said : (table : Table) (id : TypeId) → terms.look ≡ None → terms.selection ≡ None →
      Says (value_saying table id ask terms m mapped) → IsWithin
  value_said table id look all h = chosen (is_left terms.whole (end_of mapped) m) h
    where
      chosen : (left : Bool) →
          Says (if left then Line Fault (fault_at_line (codes "Left") (end_of mapped))
          else kept_saying table id ask terms mapped) → IsWithin
      chosen true h = inl h.0
      chosen false h = part_said table id look all (part_at terms.part mapped) refl h

of_type : (pickle : List ℕ) (ask : Ask) (style : Style) (len : ℕ) (out out' : Option (List ℕ)) (type : PokeType)
    → IsAsked pickle ask.name.now type
    → Keeps out out' ⊎ GrowsWithin out out' (most_text style ask.mode type (8 * len))
    → OutputIsBounded pickle ask style len out out'
of_type pickle ask style len out out' type asked (inl h) = inl h
of_type pickle ask style len out out' type asked (inr h) = inr (type, asked, h)

saying_bounded : (pickle : List ℕ) (ask : Ask) (terms : Terms) (before after : SpaceView) (saying : Saying)
    (status : Status) (out out' err err' : Option (List ℕ))
    → terms.look ≡ None → terms.selection ≡ None → MapsUnder pickle ask terms before after saying
    → IsSaid saying status out out' err err' → OutputIsBounded pickle ask terms.style before.len out out'
saying_bounded pickle ask terms before after saying status out out' err err' look all
    (mapped_under {type = type} {mapped = mapped} table id named unshown asked means fits light) h =
    of_type pickle ask terms.style before.len out out' type asked
    (value_said ask terms (8 * before.len) type mapped fits status out out' err err' table id look all h)
saying_bounded pickle ask terms before after saying status out out' err err' look all
    (shown_under table id file named shown beside asked means fits light) h =
    let never : false ≡ true = sym (ap shows_bytes look) ∙ shown in absurd cc
saying_bounded pickle ask terms before after saying status out out' err err' look all (ended_under right) h = inl h.0
saying_bounded pickle ask terms before after saying status out out' err err' look all
    (slots_under asked most less few) h = inl h.0
saying_bounded pickle ask terms before after saying status out out' err err' look all
    (storage_under asked most heavy) h = inl h.0

requested_bounded : (pickle : List ℕ) (ask : Ask) (terms : Terms) (before after : SpaceView) (saying : Saying)
    (status : Status) (out out' err err' : Option (List ℕ))
    → terms.look ≡ None → terms.selection ≡ None → MapsRequested pickle ask terms before after saying
    → IsSaid saying status out out' err err' → OutputIsBounded pickle ask terms.style before.len out out'
requested_bounded pickle ask terms before after saying status out out' err err' look all
    (not_run {ended = ended} none) h =
    inl (subst (λ s. IsSaid s status out out' err err') (outcome_lines ended) h).0
requested_bounded pickle ask terms before after saying status out out' err err' look all (is_run asked can right) h =
    saying_bounded pickle ask terms before after saying status out out' err err' look all right h

pub output_under_terms_bounded : OutputsUnderTermsAreBounded
output_under_terms_bounded pickle ask terms before after status out out' err err' look all h =
    requested_bounded pickle ask terms before after h.saying status out out' err err' look all h.right h.said
