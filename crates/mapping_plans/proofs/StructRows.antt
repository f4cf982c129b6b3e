-- The structs that an array packs: all their fields are numbers, one after the other.
use Rattle.std.proofs.Common.{◌≡◌, ℕ, ◌≤◌, Bool, true, false, List, ◌∷◌, Option, Some, None, refl, sym, ap, ◌∙◌}
use Rattle.std.specs.Prelude.{if◌then◌else◌, nat_le}
use Rattle.std.proofs.lemmas.Bool.{false≢true, eq-eqb, leb-true}
use Rattle.pickle_types.specs.Types.{Term, PokeType, IntegerOf, OffsetOf, StringOf, ArrayOf, StructOf, IntegralOf, UnionOf, Fields, NoFields, FieldThen, Number, Text, Name, Bracket, Before, Between, Choice, Index, Select, AttributeOf, ToInteger, ToOffset, InUnit}
use Rattle.pickle_meaning.specs.Values.{Naming}
use Rattle.mapping_plans.specs.Avoids.{Avoids, ClauseAvoids, IsScalar, AreColumns}
use Rattle.mapping_plans.specs.Rows.{Row, Apart, Numbers, Records, Values, Layout, avoids, clause_avoids, scalar_width, column_width, column_then, column_widths, stride_of, records_of, struct_row, or_values, row_of, element_layout}

both : (p q : Bool) → (if p then q else false) ≡ true → (p ≡ true) × (q ≡ true)
both true q e = (refl, e)
both false q e = absurd (false≢true e)

pub avoids_are : (level : ℕ) (e : Term) → avoids level e ≡ true → Avoids level e
avoids_are level (Number type value) h = tt
avoids_are level (Text bytes) h = tt
avoids_are level (Name named place) h =
    λ same. false≢true (sym (ap (λ b. if b then false else true) (eq-eqb named level same)) ∙ h)
avoids_are level (Bracket e) h = avoids_are level e h
avoids_are level (Before op e) h = avoids_are level e h
avoids_are level (Between op a b) h =
    let g = both (avoids level a) (avoids level b) h in (avoids_are level a g.0, avoids_are level b g.1)
avoids_are level (Choice common c x y) h =
    let g = both (avoids level c) (if avoids level x then avoids level y else false) h in
    let f = both (avoids level x) (avoids level y) g.1 in
    (avoids_are level c g.0, avoids_are level x f.0, avoids_are level y f.1)
avoids_are level (Index e i) h =
    let g = both (avoids level e) (avoids level i) h in (avoids_are level e g.0, avoids_are level i g.1)
avoids_are level (Select e place) h = avoids_are level e h
avoids_are level (AttributeOf attribute e) h = avoids_are level e h
avoids_are level (ToInteger type e) h = avoids_are level e h
avoids_are level (ToOffset type unit e) h = avoids_are level e h
avoids_are level (InUnit unit e) h = avoids_are level e h

pub clause_are : (level : ℕ) (c : Option Term) → clause_avoids level c ≡ true → ClauseAvoids level c
clause_are level None h = tt
clause_are level (Some e) h = avoids_are level e h

scalar_is : (type : PokeType) (w : ℕ) → scalar_width type ≡ Some w → IsScalar type
scalar_is (IntegerOf type) w h = tt
scalar_is (OffsetOf type unit) w h = tt
scalar_is StringOf w h = absurd cc
scalar_is (ArrayOf element bound) w h = absurd cc
scalar_is (StructOf name pinned _) w h = absurd cc
scalar_is (IntegralOf name type _) w h = absurd cc
scalar_is (UnionOf name alternatives) w h = absurd cc

where_true : (b : Bool) (o : Option ℕ) (w : ℕ) → (if b then o else None) ≡ Some w → (b ≡ true) × (o ≡ Some w)
where_true true o w h = (refl, h)
where_true false o w h = absurd cc

-- a field that is such a number
pub record IsColumn (type : PokeType) (c label when : Option Term) (w : ℕ) : Type 0 where
  pub scalar : IsScalar type
  pub avoids : ClauseAvoids 1 c
  pub unlabelled : label ≡ None
  pub present : when ≡ None
  pub width : scalar_width type ≡ Some w

pub column_is : (type : PokeType) (c label when : Option Term) (w : ℕ) → column_width type c label when ≡ Some w →
    IsColumn type c label when w
column_is type c (Some label) when w h = absurd cc
column_is type c None (Some when) w h = absurd cc
column_is type c None None w h =
    let g = where_true (clause_avoids 1 c) (scalar_width type) w h in
    record {
      scalar = scalar_is type w g.1;
      avoids = clause_are 1 c g.0;
      unlabelled = refl;
      present = refl;
      width = g.1;
    }

-- the widths of a field and of those after it
pub record AreBoth (o : Option ℕ) (os : Option (List ℕ)) (widths : List ℕ) : Type 0 where
  pub width : ℕ
  pub rest : List ℕ
  pub first : o ≡ Some width
  pub others : os ≡ Some rest
  pub are : widths ≡ width ∷ rest

pub both_are : (o : Option ℕ) (os : Option (List ℕ)) (widths : List ℕ) →
    column_then o os ≡ Some widths → AreBoth o os widths
both_are None os widths h = absurd cc
both_are (Some width) None widths h = absurd cc
both_are (Some width) (Some rest) widths h =
    record { width = width; rest = rest; first = refl; others = refl; are = cc }

pub columns_are : (fields : Fields) (widths : List ℕ) → column_widths fields ≡ Some widths → AreColumns fields
columns_are NoFields widths h = tt
columns_are (FieldThen name order type c label when rest) widths h =
    let b = both_are (column_width type c label when) (column_widths rest) widths h in
    let f = column_is type c label when b.width b.first in
    (f.scalar, f.avoids, f.unlabelled, f.present, columns_are rest b.rest b.others)

-- a struct of numbers of these widths, and the bytes they take
pub record IsPackedStruct (type : PokeType) (widths : List ℕ) : Type 0 where
  pub name : Naming
  pub fields : Fields
  pub is : type ≡ StructOf name false fields
  pub wide : column_widths fields ≡ Some widths
  pub some : 1 ≤ stride_of widths
  pub few : stride_of widths ≤ 512

record AreRecords (o : Option (List ℕ)) (widths : List ℕ) : Type 0 where
  are : o ≡ Some widths
  some : 1 ≤ stride_of widths
  few : stride_of widths ≤ 512

kept_where : (p q : Bool) (given widths : List ℕ) →
    (if p then (if q then Records given else Apart) else Apart) ≡ Records widths →
    (p ≡ true) × (q ≡ true) × (given ≡ widths)
kept_where true true given widths h = (refl, refl, cc)
kept_where true false given widths h = absurd cc
kept_where false q given widths h = absurd cc

records_are : (o : Option (List ℕ)) (widths : List ℕ) → records_of o ≡ Records widths → AreRecords o widths
records_are None widths h = absurd cc
records_are (Some given) widths h =
    let k = kept_where (nat_le 1 (stride_of given)) (nat_le (stride_of given) 512) given widths h in
    record {
      are = ap Some k.2;
      some = rw (← k.2) (leb-true 1 (stride_of given) k.0);
      few = rw (← k.2) (leb-true (stride_of given) 512 k.1);
    }

struct_is : (name : Naming) (pinned : Bool) (fields : Fields) (widths : List ℕ) →
    struct_row pinned fields ≡ Records widths → IsPackedStruct (StructOf name pinned fields) widths
struct_is name true fields widths h = absurd cc
struct_is name false fields widths h =
    let r = records_are (column_widths fields) widths h in
    record { name = name; fields = fields; is = refl; wide = r.are; some = r.some; few = r.few }

apart_records : (own : Option Layout) (widths : List ℕ) → or_values Apart own ≡ Records widths → ⊥
apart_records None widths h = cc
apart_records (Some own) widths h = cc

records_first : (row : Row) (own : Option Layout) (widths : List ℕ) → or_values row own ≡ Records widths →
    row ≡ Records widths
records_first Apart own widths h = absurd (apart_records own widths h)
records_first (Numbers width) own widths h = h
records_first (Records given) own widths h = h
records_first (Values stride) own widths h = h

-- only such structs are packed side by side
pub packed_struct_is : (type : PokeType) (widths : List ℕ) → row_of type ≡ Records widths → IsPackedStruct type widths
packed_struct_is (IntegerOf type) widths h = absurd cc
packed_struct_is (OffsetOf type unit) widths h = absurd cc
packed_struct_is StringOf widths h = absurd cc
packed_struct_is (ArrayOf element bound) widths h = absurd cc
packed_struct_is (StructOf name pinned fields) widths h =
    let own = element_layout (StructOf name pinned fields) in
    struct_is name pinned fields widths (records_first (struct_row pinned fields) own widths h)
packed_struct_is (IntegralOf name type fields) widths h =
    absurd (apart_records (element_layout (IntegralOf name type fields)) widths h)
packed_struct_is (UnionOf name alternatives) widths h = absurd cc
