-- A value that a type means is of the type.
use Rattle.std.proofs.Common.{◌≡◌, ℕ, ◌+◌, List, [], ◌∷◌, ◌++◌, Option, Some, None, Bool, Result, Ok, Err, refl, sym, ◌∙◌, subst, inl, inr, append-nil}
use Rattle.bit_space.specs.declared.order.Order.{Order}
use Rattle.pickle_tree.specs.declared.tree.ByteOrder.{ByteOrder}
use Rattle.pickle_types.specs.Types.{Term, Bound, PokeType, ArrayOf, Fields, NoFields, FieldThen, Parts, NoParts, PartThen}
use Rattle.pickle_meaning.specs.declared.extent.Extent.{Extent}
use Rattle.pickle_meaning.specs.Values.{Naming, Value, NoMembers, MemberThen, Levels, pushed, opened, top_of, gathered}
use Rattle.pickle_meaning.specs.Clauses.{FaultAt}
use Rattle.pickle_meaning.specs.Means.{Means, past_end, number_read, number_end, string, string_end, array, bound_fault, struct, struct_fault, union, union_fault, NumberMeans, integer, offset, integral, integral_fault, no_number, DigitsMean, no_digits, next_digits, digits_refused, digits_fault, Elements, no_more, next_element, Closing, none_due, beyond_size, no_bits, ends_without, element_fault, PartMeans, part, part_refused, part_fault, FieldsMean, all_fields, absent, field, condition_fault, label_fault, field_fault, AlternativesMean, none_left, fits, misses_it, other_fault, Opened, Taken}
use Rattle.type_soundness.specs.Sorts.{AllThere, IsOfType, AreFields, AreParts, IsAlternative}
use Rattle.type_soundness.proofs.Levels.{top_pushed}

-- a value is of its type
abbrev pub ValueIs : PokeType → Result Value FaultAt → Type 0
ValueIs ty (Ok v) = IsOfType ty v
ValueIs ty (Err f) = Unit {0}

-- after the members that it had, the innermost frame has the members of these fields
abbrev pub PartsAre : Levels → Parts → Result Levels FaultAt → Type 0
PartsAre levels ps (Ok inside) =
    (ms : List (Option Value)) × (top_of inside ≡ top_of levels ++ ms) × AreParts ps (gathered ms)
PartsAre levels ps (Err f) = Unit {0}

abbrev pub FieldsAre : Levels → Fields → Result Opened FaultAt → Type 0
FieldsAre levels fs (Ok o) =
    (ms : List (Option Value)) × (top_of o.0 ≡ top_of levels ++ ms) × AreFields fs (gathered ms)
FieldsAre levels fs (Err f) = Unit {0}

abbrev pub AlternativeIs : Parts → ℕ → Result Taken FaultAt → Type 0
AlternativeIs alternatives index (Ok t) = IsAlternative alternatives index t.index t.name (MemberThen t.value NoMembers)
AlternativeIs alternatives index (Err f) = Unit {0}

-- ---- integral structs

pub part_then : (name : Naming) (order : Option ByteOrder) (ty : PokeType) (c : Option Term) (rest : Parts)
    (levels : Levels) (v : Value) (r : Result Levels FaultAt) →
    IsOfType ty v → PartsAre (pushed levels (Some v)) rest r → PartsAre levels (PartThen name order ty c rest) r
unfolding IsOfType
part_then name order ty c rest levels v (Ok inside) h g = (Some v ∷ g.0, g.1 ∙ top_pushed levels (Some v) g.0, (h, g.2))
part_then name order ty c rest levels v (Err f) h g = tt

pub parts_gathered : (fields : Parts) (levels inside : Levels) → PartsAre (opened levels) fields (Ok inside) →
    AreParts fields (gathered (top_of inside))
parts_gathered fields levels inside h = subst (λ ms. AreParts fields (gathered ms)) (sym h.1) h.2

pub no_parts : (levels : Levels) → PartsAre levels NoParts (Ok levels)
unfolding IsOfType
no_parts levels = ([], sym (append-nil (top_of levels)), tt)

mutual
  unfolding IsOfType

  pub number_is : {ty : PokeType} {n : ℕ} {levels : Levels} {s k j : ℕ} {r : Result Value FaultAt} →
      NumberMeans ty n levels s r k j → ValueIs ty r
  number_is integer = (_, refl)
  number_is offset = (_, refl)
  number_is (integral {fields} {levels} {inside} ds) =
      (refl, parts_gathered fields levels inside (digits_are ds))
  number_is (integral_fault ds) = tt
  number_is (no_number e) = tt

  digits_are : {fields : Parts} {n left : ℕ} {levels : Levels} {s k j : ℕ} {r : Result Levels FaultAt} →
      DigitsMean fields n left levels s r k j → PartsAre levels fields r
  digits_are (no_digits {levels}) = no_parts levels
  digits_are (next_digits {name} {order} {ty} {c} {rest} {levels} {v} {r} m h ds) =
      part_then name order ty c rest levels v r (number_is m) (digits_are ds)
  digits_are (digits_refused m h) = tt
  digits_are (digits_fault m) = tt

-- ---- arrays

all_pushed : (P : Value → Type 0) (top : List (Option Value)) (v : Value) → AllThere P (gathered top) → P v →
    AllThere P (gathered (top ++ Some v ∷ []))
all_pushed P [] v h g = (g, tt)
all_pushed P (Some u ∷ top) v h g = (h.0, all_pushed P top v h.1 g)
all_pushed P (None ∷ top) v h g = absurd h

pub one_more_there : (P : Value → Type 0) (levels : Levels) (v : Value) → AllThere P (gathered (top_of levels)) → P v →
    AllThere P (gathered (top_of (pushed levels (Some v))))
one_more_there P [] v h g = (g, tt)
one_more_there P (top ∷ outer) v h g = all_pushed P top v h g

closing_is : {bits : List ℕ} {ty : PokeType} {order : Order} {s : ℕ} {extent : Extent} {n : ℕ} {inside : Levels}
    {pn k j : ℕ} {r : Result Value FaultAt} → (bound : Bound) →
    Closing bits ty order s extent n inside pn r k j → AllThere (IsOfType ty) (gathered (top_of inside)) →
    ValueIs (ArrayOf ty bound) r
unfolding IsOfType
closing_is bound (none_due over met) all = (refl, all)
closing_is bound (beyond_size over met) all = tt
closing_is bound (no_bits due m e) all = tt
closing_is bound (ends_without due m e) all = (refl, all)
closing_is bound (element_fault due m e) all = tt

-- ---- structs and unions

pub field_then : (name : Naming) (order : Option ByteOrder) (ty : PokeType) (c l d : Option Term) (rest : Fields)
    (levels : Levels) (v : Value) (r : Result Opened FaultAt) →
    IsOfType ty v → FieldsAre (pushed levels (Some v)) rest r → FieldsAre levels (FieldThen name order ty c l d rest) r
unfolding IsOfType
field_then name order ty c l d rest levels v (Ok o) h g = (Some v ∷ g.0, g.1 ∙ top_pushed levels (Some v) g.0, (h, g.2))
field_then name order ty c l d rest levels v (Err f) h g = tt

pub absent_then : (name : Naming) (order : Option ByteOrder) (ty : PokeType) (c l d : Option Term) (rest : Fields)
    (levels : Levels) (r : Result Opened FaultAt) →
    FieldsAre (pushed levels None) rest r → FieldsAre levels (FieldThen name order ty c l d rest) r
unfolding IsOfType
absent_then name order ty c l d rest levels (Ok o) g = (None ∷ g.0, g.1 ∙ top_pushed levels None g.0, g.2)
absent_then name order ty c l d rest levels (Err f) g = tt

pub fields_gathered : (fields : Fields) (levels : Levels) (o : Opened) → FieldsAre (opened levels) fields (Ok o) →
    AreFields fields (gathered (top_of o.0))
fields_gathered fields levels o h = subst (λ ms. AreFields fields (gathered ms)) (sym h.1) h.2

pub no_fields : (levels : Levels) (top : ℕ) → FieldsAre levels NoFields (Ok (levels, top))
unfolding IsOfType
no_fields levels top = ([], sym (append-nil (top_of levels)), tt)

pub next_alternative : (name : Naming) (order : Option ByteOrder) (ty : PokeType) (c : Option Term) (rest : Parts)
    (index : ℕ) (r : Result Taken FaultAt) →
    AlternativeIs rest (index + 1) r → AlternativeIs (PartThen name order ty c rest) index r
unfolding IsOfType
next_alternative name order ty c rest index (Ok t) h = inr h
next_alternative name order ty c rest index (Err f) h = tt

mutual
  unfolding IsOfType

  pub value_is : {bits : List ℕ} {ty : PokeType} {order : Order} {levels : Levels} {s k j : ℕ}
      {r : Result Value FaultAt} → Means bits ty order levels s r k j → ValueIs ty r
  value_is (past_end lt) = tt
  value_is (number_read le e inside m) = number_is m
  value_is (number_end le e lt) = tt
  value_is (string {bytes} le run inside z) = (bytes, refl)
  value_is (string_end le run lt) = tt
  value_is (array {bound} le b es c) = closing_is bound c (elements_are es tt)
  value_is (bound_fault le b) = tt
  value_is (struct {fields} {levels} {inside} {end} le fs) =
      (refl, fields_gathered fields levels (inside, end) (fields_are fs))
  value_is (struct_fault le fs) = tt
  value_is (union {t} le os) = (t.index, t.name, refl, alternatives_are os)
  value_is (union_fault le os) = tt

  elements_are : {bits : List ℕ} {ty : PokeType} {order : Order} {s : ℕ} {extent : Extent} {i n : ℕ}
      {levels inside : Levels} {p pn k j : ℕ} → Elements bits ty order s extent i levels p n inside pn k j →
      AllThere (IsOfType ty) (gathered (top_of levels)) → AllThere (IsOfType ty) (gathered (top_of inside))
  elements_are no_more all = all
  elements_are (next_element {ty} {levels} {v} due m lt es) all =
      elements_are es (one_more_there (IsOfType ty) levels v all (value_is m))

  pub part_is : {bits : List ℕ} {ty : PokeType} {c : Option Term} {order : Order} {levels : Levels} {s k j : ℕ}
      {r : Result Value FaultAt} → PartMeans bits ty c order levels s r k j → ValueIs ty r
  part_is (part m h) = value_is m
  part_is (part_refused m h) = tt
  part_is (part_fault m) = tt

  fields_are : {bits : List ℕ} {pinned : Bool} {s : ℕ} {fields : Fields} {order : Order} {levels : Levels}
      {behind top k j : ℕ} {r : Result Opened FaultAt} →
      FieldsMean bits pinned s fields order levels behind top r k j → FieldsAre levels fields r
  fields_are (all_fields {levels} {top}) = no_fields levels top
  fields_are (absent {name} {set} {ty} {c} {label} {when} {rest} {levels} {r} h fs) =
      absent_then name set ty c label when rest levels r (fields_are fs)
  fields_are (field {name} {set} {ty} {c} {label} {when} {rest} {levels} {v} {r} h st m fs) =
      field_then name set ty c label when rest levels v r (part_is m) (fields_are fs)
  fields_are (condition_fault h) = tt
  fields_are (label_fault h st) = tt
  fields_are (field_fault h st m) = tt

  alternatives_are : {bits : List ℕ} {parts : Parts} {index : ℕ} {order : Order} {levels : Levels} {s k j : ℕ}
      {r : Result Taken FaultAt} → AlternativesMean bits parts index order levels s r k j → AlternativeIs parts index r
  alternatives_are none_left = tt
  alternatives_are (fits {v} m) = inl (refl, refl, v, refl, part_is m)
  alternatives_are (misses_it {name} {set} {ty} {c} {rest} {index} {r} m e os) =
      next_alternative name set ty c rest index r (alternatives_are os)
  alternatives_are (other_fault m e) = tt
