-- Types of fixed layout: what their fields are, and how many bits and bytes their values take.
use Rattle.std.proofs.Common.{◌≡◌, ℕ, ◌+◌, ◌*◌, ◌/◌, ◌≤◌, Bool, true, false, List, Option, Some, None, refl, sym, ap, ◌∙◌, subst, arith}
use Rattle.std.specs.Prelude.{if◌then◌else◌, nat_eq, nat_le}
use Rattle.std.proofs.Math.Nat.{mul_assoc, mul-le-mul_right}
use Rattle.std.proofs.lemmas.Bool.{leb-true, eqb-true}
use Rattle.pickle_types.specs.Types.{Term, PokeType, IntegerOf, OffsetOf, StringOf, ArrayOf, StructOf, IntegralOf, UnionOf, Bound, Fields, NoFields, FieldThen, Parts, NoParts, PartThen}
use Rattle.mapping_plans.specs.Avoids.{ClauseAvoids}
use Rattle.mapping_plans.specs.Rows.{Row, Apart, Numbers, Records, Values, Layout, number_layout, numbers_layout, no_layout, sum_of, few_bytes, layout_then, field_layout, scalar_width, literal_count, array_layout, some_bytes, whole_number, clause_avoids, column_widths, stride_of, records_of, struct_row, layout_of, fields_layout, parts_layout, or_values, row_of, element_layout, weight_of}
use Rattle.mapping_plans.proofs.StructRows.{clause_are}

kept_where : (p : Bool) (given l : Layout) → (if p then Some given else None) ≡ Some l → (p ≡ true) × (given ≡ l)
kept_where true given l h = (refl, cc)
kept_where false given l h = absurd cc

-- ---- a field, and those after it

-- the layout of one, and that of those after it
pub record AreBoth (own others : Option Layout) (l : Layout) : Type 0 where
  pub one : Layout
  pub more : Layout
  pub first : own ≡ Some one
  pub rest : others ≡ Some more
  pub sum : l ≡ sum_of one more
  pub few : l.bytes ≤ 512

both_are : (own others : Option Layout) (l : Layout) → layout_then own others ≡ Some l → AreBoth own others l
both_are None others l h = absurd cc
both_are (Some one) None l h = absurd cc
both_are (Some one) (Some more) l h =
    let k = kept_where (nat_le (sum_of one more).bytes 512) (sum_of one more) l h in record {
      one = one;
      more = more;
      first = refl;
      rest = refl;
      sum = sym k.1;
      few = subst (λ (x : Layout). x.bytes ≤ 512) k.1 (leb-true (sum_of one more).bytes 512 k.0);
    }

field_is : (avoids : Bool) (own : Option Layout) (l : Layout) → field_layout avoids None None own ≡ Some l →
    (avoids ≡ true) × (own ≡ Some l)
field_is true own l h = (refl, h)
field_is false own l h = absurd cc

-- a field of fixed layout, that is always there and right after the one before it
pub record IsLaidField (level : ℕ) (type : PokeType) (c : Option Term) (others : Option Layout) (l : Layout) :
    Type 0 where
  pub one : Layout
  pub more : Layout
  pub laid : layout_of level type ≡ Some one
  pub avoids : ClauseAvoids level c
  pub rest : others ≡ Some more
  pub sum : l ≡ sum_of one more
  pub few : l.bytes ≤ 512

pub part_laid : (level : ℕ) (type : PokeType) (c : Option Term) (others : Option Layout) (l : Layout) →
    layout_then (field_layout (clause_avoids level c) None None (layout_of level type)) others ≡ Some l →
    IsLaidField level type c others l
part_laid level type c others l h =
    let own = field_layout (clause_avoids level c) None None (layout_of level type) in
    let b = both_are own others l h in
    let f = field_is (clause_avoids level c) (layout_of level type) b.one b.first in
    record {
      one = b.one;
      more = b.more;
      laid = f.1;
      avoids = clause_are level c f.0;
      rest = b.rest;
      sum = b.sum;
      few = b.few;
    }

-- a field has no label and no condition
pub plain_field : (avoids : Bool) (label when : Option Term) (own others : Option Layout) (l : Layout) →
    layout_then (field_layout avoids label when own) others ≡ Some l → (label ≡ None) × (when ≡ None)
plain_field true None None own others l h = (refl, refl)
plain_field false None None own others l h = (refl, refl)
plain_field true (Some label) when own others l h = absurd cc
plain_field false (Some label) when own others l h = absurd cc
plain_field true None (Some when) own others l h = absurd cc
plain_field false None (Some when) own others l h = absurd cc

pub no_clause : {e : Term} → Some e ≡ None → ⊥
no_clause h = cc

-- a field of a struct, with the clauses that it may have
pub field_laid : (level : ℕ) (type : PokeType) (c label when : Option Term) (others : Option Layout) (l : Layout) →
    layout_then (field_layout (clause_avoids level c) label when (layout_of level type)) others ≡ Some l →
    IsLaidField level type c others l
field_laid level type c None None others l h = part_laid level type c others l h
field_laid level type c (Some label) when others l h = absurd (no_clause
    (plain_field (clause_avoids level c) (Some label) when (layout_of level type) others l h).0)
field_laid level type c None (Some when) others l h = absurd (no_clause
    (plain_field (clause_avoids level c) None (Some when) (layout_of level type) others l h).1)

-- ---- the layout of a struct

none_few : (l : Layout) → Some no_layout ≡ Some l → l.bytes ≤ 512
none_few l h = let same : no_layout ≡ l = cc in subst (λ (x : Layout). x.bytes ≤ 512) same (omega arith)

fields_few : (level : ℕ) (fields : Fields) (l : Layout) → fields_layout level fields ≡ Some l → l.bytes ≤ 512
fields_few level NoFields l h = none_few l h
fields_few level (FieldThen name order type c label when rest) l h =
    (field_laid level type c label when (fields_layout level rest) l h).few

parts_few : (level : ℕ) (parts : Parts) (l : Layout) → parts_layout level parts ≡ Some l → l.bytes ≤ 512
parts_few level NoParts l h = none_few l h
parts_few level (PartThen name order type c rest) l h = (part_laid level type c (parts_layout level rest) l h).few

-- the layout of some bytes
some_are : (own : Option Layout) (l : Layout) → some_bytes own ≡ Some l → (own ≡ Some l) × (1 ≤ l.bytes)
some_are None l h = absurd cc
some_are (Some given) l h =
    let k = kept_where (nat_le 1 given.bytes) given l h in
    (ap Some k.1, subst (λ (x : Layout). 1 ≤ x.bytes) k.1 (leb-true 1 given.bytes k.0))

-- a struct of fixed layout
pub record IsLaidStruct (level : ℕ) (pinned : Bool) (fields : Fields) (l : Layout) : Type 0 where
  pub plain : pinned ≡ false
  pub laid : fields_layout (level + 1) fields ≡ Some l
  pub some : 1 ≤ l.bytes
  pub few : l.bytes ≤ 512

pub struct_laid : (level : ℕ) (name : Option (List ℕ)) (pinned : Bool) (fields : Fields) (l : Layout) →
    layout_of level (StructOf name pinned fields) ≡ Some l → IsLaidStruct level pinned fields l
struct_laid level name true _ l h = absurd cc
struct_laid level name false fields l h =
    let a = some_are (fields_layout (level + 1) fields) l h in
    record { plain = refl; laid = a.0; some = a.1; few = fields_few (level + 1) fields l a.0 }

-- an integral struct of fixed layout
pub record IsLaidIntegral (level width : ℕ) (fields : Parts) (l : Layout) : Type 0 where
  pub laid : parts_layout (level + 1) fields ≡ Some l
  pub whole : l.bits ≡ width
  pub some : 1 ≤ l.bytes
  pub few : l.bytes ≤ 512

whole_are : (width : ℕ) (own : Option Layout) (l : Layout) → whole_number width own ≡ Some l →
    (own ≡ Some l) × (l.bits ≡ width)
whole_are width None l h = absurd cc
whole_are width (Some given) l h =
    let k = kept_where (nat_eq given.bits width) given l h in
    (ap Some k.1, ap (λ (x : Layout). x.bits) (sym k.1) ∙ eqb-true given.bits width k.0)

pub integral_laid : (level width : ℕ) (fields : Parts) (l : Layout) →
    whole_number width (some_bytes (parts_layout (level + 1) fields)) ≡ Some l → IsLaidIntegral level width fields l
integral_laid level width fields l h =
    let w = whole_are width (some_bytes (parts_layout (level + 1) fields)) l h in
    let a = some_are (parts_layout (level + 1) fields) l w.0 in
    record { laid = a.0; whole = w.1; some = a.1; few = parts_few (level + 1) fields l a.0 }

-- an array of fixed layout: so many numbers of a width
pub record IsLaidArray (element : PokeType) (bound : Bound) (l : Layout) : Type 0 where
  pub width : ℕ
  pub count : ℕ
  pub scalar : scalar_width element ≡ Some width
  pub literal : literal_count bound ≡ Some count
  pub narrow : width ≤ 32
  pub is : l ≡ numbers_layout width count
  pub few : l.bytes ≤ 512

numbers_laid : (width count : Option ℕ) (l : Layout) → array_layout width count ≡ Some l →
    (w : ℕ) × (n : ℕ) × (width ≡ Some w) × (count ≡ Some n) × (w ≤ 32) × (l ≡ numbers_layout w n) × (l.bytes ≤ 512)
numbers_laid None count l h = absurd cc
numbers_laid (Some width) None l h = absurd cc
numbers_laid (Some width) (Some count) l h =
    let all = numbers_layout width count in
    let k = kept_where_some (nat_le width 32) (some_bytes (few_bytes all)) l h in
    let s = some_are (few_bytes all) l k.1 in
    let f = kept_where (nat_le all.bytes 512) all l s.0 in (
      width,
      count,
      refl,
      refl,
      leb-true width 32 k.0,
      sym f.1,
      subst (λ (x : Layout). x.bytes ≤ 512) f.1 (leb-true all.bytes 512 f.0),
    )
  where
    kept_where_some : (p : Bool) (given : Option Layout) (l : Layout) → (if p then given else None) ≡ Some l →
        (p ≡ true) × (given ≡ Some l)
    kept_where_some true given l h = (refl, h)
    kept_where_some false given l h = absurd cc

pub array_laid : (element : PokeType) (bound : Bound) (l : Layout) →
    array_layout (scalar_width element) (literal_count bound) ≡ Some l → IsLaidArray element bound l
array_laid element bound l h =
    let a = numbers_laid (scalar_width element) (literal_count bound) l h in
    record { width = a.0; count = a.1; scalar = a.2; literal = a.3; narrow = a.4; is = a.5; few = a.6 }

-- ---- the elements of an array

-- the elements of a type are kept as values of fixed layout
pub record IsLaidElement (type : PokeType) (stride : ℕ) : Type 0 where
  pub layout : Layout
  pub laid : layout_of 0 type ≡ Some layout
  pub bytes : layout.bytes ≡ stride
  pub some : 1 ≤ layout.bytes
  pub few : layout.bytes ≤ 512

-- a type that isn't looked at has no layout
if_light : (light : Bool) (own : Option Layout) (l : Layout) → (if light then own else None) ≡ Some l → own ≡ Some l
if_light true own l e = e
if_light false own l e = absurd cc

values_laid : (type : PokeType) (row : Row) (stride : ℕ) →
    ((l : Layout) → layout_of 0 type ≡ Some l → (1 ≤ l.bytes) × (l.bytes ≤ 512)) →
    ((given : ℕ) → row ≡ Values given → ⊥) →
    or_values row (element_layout type) ≡ Values stride → IsLaidElement type stride
values_laid type row stride within other h =
    told row (element_layout type) (if_light (nat_le (weight_of type) 4096) (layout_of 0 type)) other h
  where
    told : (row : Row) (own : Option Layout) → ((l : Layout) → own ≡ Some l → layout_of 0 type ≡ Some l) →
        ((given : ℕ) → row ≡ Values given → ⊥) →
        or_values row own ≡ Values stride → IsLaidElement type stride
    told Apart None e other h = absurd cc
    told Apart (Some l) e other h =
        let laid = e l refl in
        record { layout = l; laid = laid; bytes = cc; some = (within l laid).0; few = (within l laid).1 }
    told (Numbers width) own e other h = absurd cc
    told (Records widths) own e other h = absurd cc
    told (Values given) own e other h = absurd (other given refl)

-- a struct of numbers isn't kept so
kept_as : (p q : Bool) (widths : List ℕ) (stride : ℕ) →
    (if p then (if q then Records widths else Apart) else Apart) ≡ Values stride → ⊥
kept_as true true widths stride h = cc
kept_as true false widths stride h = cc
kept_as false q widths stride h = cc

records_values : (o : Option (List ℕ)) (stride : ℕ) → records_of o ≡ Values stride → ⊥
records_values None stride h = cc
records_values (Some widths) stride h =
    kept_as (nat_le 1 (stride_of widths)) (nat_le (stride_of widths) 512) widths stride h

struct_values : (pinned : Bool) (fields : Fields) (given : ℕ) → struct_row pinned fields ≡ Values given → ⊥
struct_values true _ given h = cc
struct_values false fields given h = records_values (column_widths fields) given h

pub element_laid : (type : PokeType) (stride : ℕ) → row_of type ≡ Values stride → IsLaidElement type stride
element_laid (IntegerOf type) stride h = absurd cc
element_laid (OffsetOf type unit) stride h = absurd cc
element_laid StringOf stride h = absurd cc
element_laid (ArrayOf element bound) stride h = absurd cc
element_laid (StructOf name pinned fields) stride h =
    values_laid (StructOf name pinned fields) (struct_row pinned fields) stride
    (λ l e. let i = struct_laid 0 name pinned fields l e in (i.some, i.few)) (struct_values pinned fields) h
element_laid (IntegralOf name type fields) stride h =
    values_laid (IntegralOf name type fields) Apart stride
    (λ l e. let i = integral_laid 0 type.width fields l e in (i.some, i.few)) (λ given e. cc) h
element_laid (UnionOf name alternatives) stride h = absurd cc

-- ---- bits and bytes

number_wide : (width : ℕ) → ((width + 7) / 8 ≤ width) × (width ≤ 8 * ((width + 7) / 8))
number_wide width = (omega arith, omega arith)

sum_wide : (one more l : Layout) → l ≡ sum_of one more → (one.bytes ≤ one.bits) × (one.bits ≤ 8 * one.bytes) →
    (more.bytes ≤ more.bits) × (more.bits ≤ 8 * more.bytes) → (l.bytes ≤ l.bits) × (l.bits ≤ 8 * l.bytes)
sum_wide one more l e h g =
    let bits = ap (λ (x : Layout). x.bits) e in
    let bytes = ap (λ (x : Layout). x.bytes) e in
    (omega (arith, bits, bytes, h.0, g.0), omega (arith, bits, bytes, h.1, g.1))

numbers_wide : (width count : ℕ) (l : Layout) → l ≡ numbers_layout width count →
    (l.bytes ≤ l.bits) × (l.bits ≤ 8 * l.bytes)
numbers_wide width count l is =
    let size = (width + 7) / 8 in
    let one = number_wide width in
    let bits : l.bits ≡ width * count = ap (λ (x : Layout). x.bits) is in
    let bytes : l.bytes ≡ size * count = ap (λ (x : Layout). x.bytes) is in
    let least : size * count ≤ width * count = mul-le-mul_right count one.0 in
    let most : width * count ≤ (8 * size) * count = mul-le-mul_right count one.1 in
    let apart : (8 * size) * count ≡ 8 * (size * count) = mul_assoc 8 size count in
    (omega (arith, bits, bytes, least), omega (arith, bits, bytes, most, apart))

of_one : (l given : Layout) → Some given ≡ Some l → (given.bytes ≤ given.bits) × (given.bits ≤ 8 * given.bytes) →
    (l.bytes ≤ l.bits) × (l.bits ≤ 8 * l.bytes)
of_one l given e h =
    let same : given ≡ l = cc in
    subst (λ (x : Layout). (x.bytes ≤ x.bits) × (x.bits ≤ 8 * x.bytes)) same h

mutual
  -- a value has at least as many bits as its numbers have bytes, and at most eight times as many
  pub layout_wide : (level : ℕ) (type : PokeType) (l : Layout) → layout_of level type ≡ Some l →
      (l.bytes ≤ l.bits) × (l.bits ≤ 8 * l.bytes)
  layout_wide level (IntegerOf type) l h = of_one l (number_layout type) h (number_wide type.width)
  layout_wide level (OffsetOf type unit) l h = of_one l (number_layout type) h (number_wide type.width)
  layout_wide level StringOf l h = absurd cc
  layout_wide level (ArrayOf element bound) l h =
      let a = array_laid element bound l h in numbers_wide a.width a.count l a.is
  layout_wide level (StructOf name pinned fields) l h =
      fields_wide (level + 1) fields l (struct_laid level name pinned fields l h).laid
  layout_wide level (IntegralOf name type fields) l h =
      parts_wide (level + 1) fields l (integral_laid level type.width fields l h).laid
  layout_wide level (UnionOf name alternatives) l h = absurd cc

  fields_wide : (level : ℕ) (fields : Fields) (l : Layout) → fields_layout level fields ≡ Some l →
      (l.bytes ≤ l.bits) × (l.bits ≤ 8 * l.bytes)
  fields_wide level NoFields l h = of_one l no_layout h (omega arith, omega arith)
  fields_wide level (FieldThen name order type c label when rest) l h =
      let f = field_laid level type c label when (fields_layout level rest) l h in
      sum_wide f.one f.more l f.sum (layout_wide level type f.one f.laid) (fields_wide level rest f.more f.rest)

  parts_wide : (level : ℕ) (parts : Parts) (l : Layout) → parts_layout level parts ≡ Some l →
      (l.bytes ≤ l.bits) × (l.bits ≤ 8 * l.bytes)
  parts_wide level NoParts l h = of_one l no_layout h (omega arith, omega arith)
  parts_wide level (PartThen name order type c rest) l h =
      let f = part_laid level type c (parts_layout level rest) l h in
      sum_wide f.one f.more l f.sum (layout_wide level type f.one f.laid) (parts_wide level rest f.more f.rest)
