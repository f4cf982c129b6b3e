-- A part in which a fault arises is a part to which places lead, so its lines are shown.
use Rattle.std.proofs.Common.{◌≡◌, ℕ, suc, ◌+◌, Bool, List, [], ◌∷◌, Option, Some, refl, ap, arith}
use Rattle.bit_space.specs.declared.order.Order.{Order}
use Rattle.pickle_types.specs.declared.integer.IntegerType.{IntegerType}
use Rattle.pickle_types.specs.Types.{PokeType, ArrayOf, StructOf, IntegralOf, UnionOf, Bound, Term, Fields, Parts}
use Rattle.pickle_meaning.specs.declared.extent.Extent.{Extent}
use Rattle.pickle_meaning.specs.declared.faults.MapFault.{MapFault}
use Rattle.pickle_meaning.specs.Values.{Naming, Levels}
use Rattle.pickle_meaning.specs.Clauses.{FaultAt}
use Rattle.fault_parts.specs.Arises.{Path, DigitsBefore, no_digits_before, digits_before, NumberArises, is_no_number, in_digits, DigitsArise, digits_constraint, digits_inside, FieldsBefore, no_field_before, absent_before, value_before, MissesBefore, no_miss_before, miss_before, Arises, starts_past_end, number_past_end, string_past_end, bound_of_array, in_array, ElementsArise, past_size, of_no_bits, in_element, in_struct, in_number, in_union, PartArises, constraint_of_part, in_part, FieldsArise, condition_of_field, label_of_field, in_field, AlternativesArise, none_fits, in_alternative}
use Rattle.fault_report.specs.Meant.{IsFaultAt, arises_there, ended_there, ended_run, cut}
use Rattle.fault_report.specs.Ways.{TypePart, field_at, alternative_at, part_at, here, further, HasPart}
use Rattle.fault_report.specs.Why.{Run, ShowsPart, shows_part, shows_none, TellsFault, tells_fault, tells_unfound}

-- the type itself
whole : {type : PokeType} → HasPart type []
whole {type} = record { steps = []; part = type; leads = here }

-- one more step before the others
onward : {type : PokeType} {places : List ℕ} (part : TypePart) (place : ℕ) → part_at type place ≡ Some part →
    HasPart part.type places → HasPart type (place ∷ places)
onward part place there h = record { steps = _; part = h.part; leads = further place there h.leads }

-- ---- the parts after others are parts

digits_after : {n s : ℕ} {fields : Parts} {width : ℕ} {levels : Levels} {i : ℕ} {rest : Parts} {left : ℕ}
    {inside : Levels} → DigitsBefore n s fields width levels i rest left inside → (place k : ℕ) → place ≡ k + i →
    alternative_at fields place ≡ alternative_at rest k
digits_after no_digits_before place k same = let at : place ≡ k = omega (arith, same) in ap (alternative_at _) at
digits_after (digits_before before m e) place k same = digits_after before place (suc k) (omega (arith, same))

fields_after : {bits : List ℕ} {pinned : Bool} {s : ℕ} {order : Order} {fields : Fields} {levels : Levels} {i : ℕ}
    {rest : Fields} {inside : Levels} {behind : ℕ} →
    FieldsBefore bits pinned s order fields levels i rest inside behind → (place k : ℕ) → place ≡ k + i →
    field_at fields place ≡ field_at rest k
fields_after no_field_before place k same = let at : place ≡ k = omega (arith, same) in ap (field_at _) at
fields_after (absent_before before e) place k same = fields_after before place (suc k) (omega (arith, same))
fields_after (value_before before e st m) place k same = fields_after before place (suc k) (omega (arith, same))

misses_after : {bits : List ℕ} {order : Order} {alternatives : Parts} {levels : Levels} {s i : ℕ} {rest : Parts} →
    MissesBefore bits order alternatives levels s i rest → (place k : ℕ) → place ≡ k + i →
    alternative_at alternatives place ≡ alternative_at rest k
misses_after no_miss_before place k same = let at : place ≡ k = omega (arith, same) in ap (alternative_at _) at
misses_after (miss_before before m e) place k same = misses_after before place (suc k) (omega (arith, same))

-- ---- a path to where a fault arises leads to a part

mutual
  number_has : {ty : PokeType} {n : ℕ} {levels : Levels} {s : ℕ} {f : FaultAt} {path : Path} →
      NumberArises ty n levels s f path → HasPart ty path
  number_has (is_no_number e) = whole
  number_has (in_digits {name} {type} h) = digits_have name type h

  digits_have : (name : Naming) (type : IntegerType) {fields : Parts} {n width : ℕ} {levels : Levels} {s : ℕ}
      {f : FaultAt} {path : Path} →
      DigitsArise fields n width levels s f path → HasPart (IntegralOf name type fields) path
  digits_have name type (digits_constraint {i = i} before m e) =
      onward _ i (digits_after before i 0 (omega arith)) whole
  digits_have name type (digits_inside {i = i} before h) =
      onward _ i (digits_after before i 0 (omega arith)) (number_has h)

mutual
  pub arises_has : {bits : List ℕ} {ty : PokeType} {order : Order} {levels : Levels} {s : ℕ} {f : FaultAt}
      {path : Path} → Arises bits ty order levels s f path → HasPart ty path
  arises_has (starts_past_end lt) = whole
  arises_has (number_past_end le e lt) = whole
  arises_has (string_past_end le run lt) = whole
  arises_has (bound_of_array le e) = whole
  arises_has (in_array {bound = bound} le e h) = elements_have bound h
  arises_has (in_struct {name} {pinned} le h) = fields_have name h
  arises_has (in_number le e inside h) = number_has h
  arises_has (in_union {name} le h) = alternatives_have name h

  elements_have : (bound : Bound) {bits : List ℕ} {ty : PokeType} {order : Order} {s : ℕ} {extent : Extent}
      {levels : Levels} {f : FaultAt} {path : Path} →
      ElementsArise bits ty order s extent levels f path → HasPart (ArrayOf ty bound) path
  elements_have bound (past_size es over met) = whole
  elements_have bound (of_no_bits {n = n} es due m e) = onward _ n refl whole
  elements_have bound (in_element {n = n} es due e h) = onward _ n refl (arises_has h)

  part_has : {bits : List ℕ} {ty : PokeType} {c : Option Term} {order : Order} {levels : Levels} {s : ℕ} {f : FaultAt}
      {path : Path} → PartArises bits ty c order levels s f path → HasPart ty path
  part_has (constraint_of_part m e) = whole
  part_has (in_part h) = arises_has h

  fields_have : (name : Naming) {bits : List ℕ} {pinned : Bool} {s : ℕ} {order : Order} {fields : Fields}
      {levels : Levels} {f : FaultAt} {path : Path} →
      FieldsArise bits pinned s order fields levels f path → HasPart (StructOf name pinned fields) path
  fields_have name (condition_of_field {i = i} before e) = onward _ i (fields_after before i 0 (omega arith)) whole
  fields_have name (label_of_field {i = i} before c e) = onward _ i (fields_after before i 0 (omega arith)) whole
  fields_have name (in_field {i = i} before c st h) = onward _ i (fields_after before i 0 (omega arith)) (part_has h)

  alternatives_have : (name : Naming) {bits : List ℕ} {order : Order} {alternatives : Parts} {levels : Levels} {s : ℕ}
      {f : FaultAt} {path : Path} →
      AlternativesArise bits order alternatives levels s f path → HasPart (UnionOf name alternatives) path
  alternatives_have name (none_fits before) = whole
  alternatives_have name (in_alternative {i = i} before e h) =
      onward _ i (misses_after before i 0 (omega arith)) (part_has h)

-- ---- what is shown of a part with a fault

pub shown_fault : (run : Run) (type : PokeType) (fault : MapFault) (places text : List ℕ) →
    IsFaultAt run.space type run.ask fault places → ShowsPart type places text → TellsFault run type fault text
shown_fault run type fault places text there (shows_part tells) = tells_fault there tells
shown_fault run type fault places text (arises_there on) (shows_none lacks) =
    tells_unfound (cut (λ bytes known. absurd (lacks (arises_has (on bytes known)))))
shown_fault run type fault places text (ended_there ends) (shows_none lacks) = tells_unfound (ended_run ends)
