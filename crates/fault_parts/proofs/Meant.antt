-- A fault that arises in a part of a type, or in itself, is the one that the type means.
use Rattle.std.proofs.Common.{ℕ, ◌+◌, max, Bool, List, Option, Err}
use Rattle.bit_space.specs.declared.order.Order.{Order}
use Rattle.pickle_types.specs.Types.{Term, PokeType, Fields, Parts}
use Rattle.pickle_meaning.specs.Values.{end_of, Levels}
use Rattle.pickle_meaning.specs.Clauses.{FaultAt}
use Rattle.pickle_meaning.specs.Means.{Means, past_end, number_read, number_end, string_end, array, bound_fault, struct_fault, union_fault, NumberMeans, integral_fault, no_number, DigitsMean, next_digits, digits_refused, digits_fault, beyond_size, no_bits, element_fault, PartMeans, part_refused, part_fault, FieldsMean, absent, field, condition_fault, label_fault, field_fault, AlternativesMean, none_left, misses_it, other_fault}
use Rattle.fault_parts.specs.Arises.{Path, DigitsBefore, no_digits_before, digits_before, NumberArises, is_no_number, in_digits, DigitsArise, digits_constraint, digits_inside, FieldsBefore, no_field_before, absent_before, value_before, MissesBefore, no_miss_before, miss_before, Arises, starts_past_end, number_past_end, string_past_end, bound_of_array, in_array, past_size, of_no_bits, in_element, in_struct, in_number, in_union, PartArises, constraint_of_part, in_part, FieldsArise, condition_of_field, label_of_field, in_field, AlternativesArise, none_fits, in_alternative}
use Rattle.fault_parts.specs.Somehow.{Somehow}
use Rattle.fault_parts.specs.Laws.{ArisingIsMeant}

somehow : {P : (steps made : ℕ) → Type 0} (k j : ℕ) → P k j → Somehow P
somehow k j h = record { steps = k; made = j; holds = h }

-- ---- the fields of an integral struct

abbrev DigitsFault : Parts → (n left : ℕ) → Levels → (s : ℕ) → FaultAt → Type 0
DigitsFault fields n left levels s f = Somehow (DigitsMean fields n left levels s (Err f))

digits_from : {n s : ℕ} {fields : Parts} {width : ℕ} {levels : Levels} {i : ℕ} {rest : Parts} {left : ℕ}
    {inside : Levels} {f : FaultAt} → DigitsBefore n s fields width levels i rest left inside →
    DigitsFault rest n left inside s f → DigitsFault fields n width levels s f
digits_from no_digits_before h = h
digits_from (digits_before before m e) h = digits_from before (somehow _ _ (next_digits m e h.holds))

mutual
  pub number_meant : {ty : PokeType} {n : ℕ} {levels : Levels} {s : ℕ} {f : FaultAt} {path : Path} →
      NumberArises ty n levels s f path → Somehow (NumberMeans ty n levels s (Err f))
  number_meant (is_no_number e) = somehow _ _ (no_number e)
  number_meant (in_digits h) = let d = digits_meant h in somehow _ _ (integral_fault d.holds)

  digits_meant : {fields : Parts} {n width : ℕ} {levels : Levels} {s : ℕ} {f : FaultAt} {path : Path} →
      DigitsArise fields n width levels s f path → DigitsFault fields n width levels s f
  digits_meant (digits_constraint before m e) = digits_from before (somehow _ _ (digits_refused m e))
  digits_meant (digits_inside before h) =
      let m = number_meant h in digits_from before (somehow _ _ (digits_fault m.holds))

-- ---- fields and alternatives

-- a fault of fields, whatever the greatest end before them is
abbrev FieldsFault : List ℕ → Bool → (s : ℕ) → Fields → Order → Levels → (behind : ℕ) → FaultAt → Type 0
FieldsFault bits pinned s fields order levels behind f =
    (top : ℕ) → Somehow (FieldsMean bits pinned s fields order levels behind top (Err f))

fields_from : {bits : List ℕ} {pinned : Bool} {s : ℕ} {order : Order} {fields : Fields} {levels : Levels} {i : ℕ}
    {rest : Fields} {inside : Levels} {behind : ℕ} {f : FaultAt} →
    FieldsBefore bits pinned s order fields levels i rest inside behind →
    FieldsFault bits pinned s rest order inside behind f → FieldsFault bits pinned s fields order levels s f
fields_from no_field_before h = h
fields_from (absent_before before c) h = fields_from before (λ top. somehow _ _ (absent c (h top).holds))
fields_from (value_before {v} before c st m) h =
    fields_from before (λ top. somehow _ _ (field c st m (h (max top (end_of v))).holds))

-- a fault of alternatives, whatever the number of the first one is
abbrev AlternativesFault : List ℕ → Parts → Order → Levels → (s : ℕ) → FaultAt → Type 0
AlternativesFault bits alternatives order levels s f =
    (index : ℕ) → Somehow (AlternativesMean bits alternatives index order levels s (Err f))

alternatives_from : {bits : List ℕ} {order : Order} {alternatives : Parts} {levels : Levels} {s i : ℕ} {rest : Parts}
    {f : FaultAt} → MissesBefore bits order alternatives levels s i rest →
    AlternativesFault bits rest order levels s f → AlternativesFault bits alternatives order levels s f
alternatives_from no_miss_before h = h
alternatives_from (miss_before before m e) h =
    alternatives_from before (λ index. somehow _ _ (misses_it m e (h (index + 1)).holds))

-- ---- types

mutual
  pub means_fault : {bits : List ℕ} {ty : PokeType} {order : Order} {levels : Levels} {s : ℕ} {f : FaultAt}
      {path : Path} → Arises bits ty order levels s f path → Somehow (Means bits ty order levels s (Err f))
  means_fault (starts_past_end lt) = somehow _ _ (past_end lt)
  means_fault (number_past_end le e lt) = somehow _ _ (number_end le e lt)
  means_fault (string_past_end le run lt) = somehow _ _ (string_end le run lt)
  means_fault (bound_of_array le b) = somehow _ _ (bound_fault le b)
  means_fault (in_array le b (past_size es over met)) = somehow _ _ (array le b es (beyond_size over met))
  means_fault (in_array le b (of_no_bits es due m e)) = somehow _ _ (array le b es (no_bits due m e))
  means_fault (in_array le b (in_element es due e h)) =
      let m = means_fault h in somehow _ _ (array le b es (element_fault due m.holds e))
  means_fault (in_struct {s} le h) = let m = fields_fault h s in somehow _ _ (struct_fault le m.holds)
  means_fault (in_number le e inside h) = let m = number_meant h in somehow _ _ (number_read le e inside m.holds)
  means_fault (in_union le h) = let m = alternatives_fault h 0 in somehow _ _ (union_fault le m.holds)

  part_fault_of : {bits : List ℕ} {ty : PokeType} {c : Option Term} {order : Order} {levels : Levels} {s : ℕ}
      {f : FaultAt} {path : Path} →
      PartArises bits ty c order levels s f path → Somehow (PartMeans bits ty c order levels s (Err f))
  part_fault_of (constraint_of_part m e) = somehow _ _ (part_refused m e)
  part_fault_of (in_part h) = let m = means_fault h in somehow _ _ (part_fault m.holds)

  fields_fault : {bits : List ℕ} {pinned : Bool} {s : ℕ} {order : Order} {fields : Fields} {levels : Levels}
      {f : FaultAt} {path : Path} →
      FieldsArise bits pinned s order fields levels f path → FieldsFault bits pinned s fields order levels s f
  fields_fault (condition_of_field before c) = fields_from before (λ top. somehow _ _ (condition_fault c))
  fields_fault (label_of_field before c st) = fields_from before (λ top. somehow _ _ (label_fault c st))
  fields_fault (in_field before c st h) =
      let m = part_fault_of h in fields_from before (λ top. somehow _ _ (field_fault c st m.holds))

  alternatives_fault : {bits : List ℕ} {order : Order} {alternatives : Parts} {levels : Levels} {s : ℕ} {f : FaultAt}
      {path : Path} →
      AlternativesArise bits order alternatives levels s f path → AlternativesFault bits alternatives order levels s f
  alternatives_fault (none_fits before) = alternatives_from before (λ index. somehow _ _ none_left)
  alternatives_fault (in_alternative before e h) =
      let p = part_fault_of h in alternatives_from before (λ index. somehow _ _ (other_fault p.holds e))

pub arising_meant : ArisingIsMeant
arising_meant bits ty order levels s f path h = means_fault h
