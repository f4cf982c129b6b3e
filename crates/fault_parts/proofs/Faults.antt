-- Each fault that a type means arises in a part of it, or in itself.
use Rattle.std.proofs.Common.{ℕ, Bool, List, [], ◌∷◌, Option, Result, Ok, Err}
use Rattle.bit_space.specs.declared.order.Order.{Order}
use Rattle.pickle_types.specs.Types.{Term, PokeType, Fields, Parts}
use Rattle.pickle_meaning.specs.declared.extent.Extent.{Extent}
use Rattle.pickle_meaning.specs.Values.{Value, Levels}
use Rattle.pickle_meaning.specs.Clauses.{FaultAt}
use Rattle.pickle_meaning.specs.Means.{Means, past_end, number_read, number_end, string, string_end, array, bound_fault, struct, struct_fault, union, union_fault, NumberMeans, integer, offset, integral, integral_fault, no_number, DigitsMean, no_digits, next_digits, digits_refused, digits_fault, Elements, Closing, none_due, beyond_size, no_bits, ends_without, element_fault, PartMeans, part, part_refused, part_fault, FieldsMean, all_fields, absent, field, condition_fault, label_fault, field_fault, AlternativesMean, none_left, fits, misses_it, other_fault, Opened, Taken}
use Rattle.fault_parts.specs.Arises.{Path, DigitsBefore, no_digits_before, digits_before, NumberArises, is_no_number, in_digits, DigitsArise, digits_constraint, digits_inside, FieldsBefore, no_field_before, absent_before, value_before, MissesBefore, no_miss_before, miss_before, Arises, starts_past_end, number_past_end, string_past_end, bound_of_array, in_array, ElementsArise, past_size, of_no_bits, in_element, in_struct, in_number, in_union, PartArises, constraint_of_part, in_part, FieldsArise, condition_of_field, label_of_field, in_field, AlternativesArise, none_fits, in_alternative}
use Rattle.fault_parts.specs.Laws.{FaultsArise}

-- a fault has a part in which it arises; nothing is said of a value
abbrev OfFault : {A : Type 0} → (FaultAt → Path → Type 0) → Result A FaultAt → Type 0
OfFault P (Ok a) = Unit {0}
OfFault P (Err f) = (path : Path) × P f path

-- a fact about a fault and its part, carried over to another fact
onward : {A : Type 0} {P Q : FaultAt → Path → Type 0} (r : Result A FaultAt) →
    ((f : FaultAt) (path : Path) → P f path → Q f path) → OfFault P r → OfFault Q r
onward (Ok a) g h = tt
onward (Err f) g h = (h.0, g f h.0 h.1)

mutual
  number_arises : {ty : PokeType} {n : ℕ} {levels : Levels} {s : ℕ} {r : Result Value FaultAt} {k j : ℕ} →
      NumberMeans ty n levels s r k j → OfFault (NumberArises ty n levels s) r
  number_arises integer = tt
  number_arises offset = tt
  number_arises (integral fs) = tt
  number_arises (integral_fault fs) = let h = digits_arise no_digits_before fs in (h.0, in_digits h.1)
  number_arises (no_number e) = ([], is_no_number e)

  digits_arise : {fields rest : Parts} {n width left i : ℕ} {levels inside : Levels} {s : ℕ} {r : Result Levels FaultAt}
      {k j : ℕ} → DigitsBefore n s fields width levels i rest left inside → DigitsMean rest n left inside s r k j →
      OfFault (DigitsArise fields n width levels s) r
  digits_arise before no_digits = tt
  digits_arise before (next_digits m e fs) = digits_arise (digits_before before m e) fs
  digits_arise {i} before (digits_refused m e) = (i ∷ [], digits_constraint before m e)
  digits_arise {i} before (digits_fault m) = let h = number_arises m in (i ∷ h.0, digits_inside before h.1)

mutual
  means_arises : {bits : List ℕ} {ty : PokeType} {order : Order} {levels : Levels} {s : ℕ} {r : Result Value FaultAt}
      {k j : ℕ} → Means bits ty order levels s r k j → OfFault (Arises bits ty order levels s) r
  means_arises (past_end lt) = ([], starts_past_end lt)
  means_arises {r} (number_read le e inside m) = onward r (λ f path. in_number le e inside) (number_arises m)
  means_arises (number_end le e lt) = ([], number_past_end le e lt)
  means_arises (string le run inside e) = tt
  means_arises (string_end le run lt) = ([], string_past_end le run lt)
  means_arises {r} (array le b es c) = onward r (λ f path. in_array le b) (closing_arises es c)
  means_arises (bound_fault le b) = ([], bound_of_array le b)
  means_arises (struct le fs) = tt
  means_arises (struct_fault le fs) = let h = fields_arise no_field_before fs in (h.0, in_struct le h.1)
  means_arises (union le fs) = tt
  means_arises (union_fault le fs) = let h = alternatives_arise no_miss_before fs in (h.0, in_union le h.1)

  closing_arises : {bits : List ℕ} {ty : PokeType} {order : Order} {extent : Extent} {levels inside : Levels}
      {s n pn k j k' j' : ℕ} {r : Result Value FaultAt} → Elements bits ty order s extent 0 levels s n inside pn k j →
      Closing bits ty order s extent n inside pn r k' j' → OfFault (ElementsArise bits ty order s extent levels) r
  closing_arises es (none_due over met) = tt
  closing_arises es (beyond_size over met) = ([], past_size es over met)
  closing_arises {n} es (no_bits due m e) = (n ∷ [], of_no_bits es due m e)
  closing_arises es (ends_without due m e) = tt
  closing_arises {n} es (element_fault due m e) = let h = means_arises m in (n ∷ h.0, in_element es due e h.1)

  part_arises : {bits : List ℕ} {ty : PokeType} {c : Option Term} {order : Order} {levels : Levels} {s : ℕ}
      {r : Result Value FaultAt} {k j : ℕ} →
      PartMeans bits ty c order levels s r k j → OfFault (PartArises bits ty c order levels s) r
  part_arises (part m e) = tt
  part_arises (part_refused m e) = ([], constraint_of_part m e)
  part_arises (part_fault m) = let h = means_arises m in (h.0, in_part h.1)

  fields_arise : {bits : List ℕ} {pinned : Bool} {s : ℕ} {fields rest : Fields} {order : Order} {levels inside : Levels}
      {i behind top k j : ℕ} {r : Result Opened FaultAt} →
      FieldsBefore bits pinned s order fields levels i rest inside behind →
      FieldsMean bits pinned s rest order inside behind top r k j →
      OfFault (FieldsArise bits pinned s order fields levels) r
  fields_arise before all_fields = tt
  fields_arise before (absent c fs) = fields_arise (absent_before before c) fs
  fields_arise before (field c st m fs) = fields_arise (value_before before c st m) fs
  fields_arise {i} before (condition_fault c) = (i ∷ [], condition_of_field before c)
  fields_arise {i} before (label_fault c st) = (i ∷ [], label_of_field before c st)
  fields_arise {i} before (field_fault c st m) = let h = part_arises m in (i ∷ h.0, in_field before c st h.1)

  alternatives_arise : {bits : List ℕ} {alternatives rest : Parts} {order : Order} {levels : Levels} {s i index k j : ℕ}
      {r : Result Taken FaultAt} →
      MissesBefore bits order alternatives levels s i rest → AlternativesMean bits rest index order levels s r k j →
      OfFault (AlternativesArise bits order alternatives levels s) r
  alternatives_arise before none_left = ([], none_fits before)
  alternatives_arise before (fits m) = tt
  alternatives_arise before (misses_it m e fs) = alternatives_arise (miss_before before m e) fs
  alternatives_arise {i} before (other_fault m e) = let h = part_arises m in (i ∷ h.0, in_alternative before e h.1)

pub faults_arise : FaultsArise
faults_arise bits ty order levels s f k j m = let h = means_arises m in record { path = h.0; arises = h.1 }
