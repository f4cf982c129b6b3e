-- What is left of a number of parts.
use Rattle.std.proofs.Common.{◌≡◌, ℕ, ◌+◌, ◌-◌, ◌<◌, ◌≤◌, Bool, true, false, List, Some, None, length, refl, sym, ap, ◌∙◌, arith}
use Rattle.std.specs.Prelude.{All, if◌then◌else◌, nat_le}
use Rattle.std.proofs.lemmas.Bool.{le-leb, lt-leb, leb-true, leb-false}
use Rattle.pickle_types.specs.Types.{PokeType, Term, IntegerOf, OffsetOf, StringOf, ArrayOf, StructOf, IntegralOf, UnionOf, Number, Text, Name, Bracket, Before, Between, Choice, Index, Select, AttributeOf, ToInteger, ToOffset, InUnit}
use Rattle.pickle_types.specs.declared.node.Field.{Field}
use Rattle.pickle_types.specs.declared.node.Node.{Node}
use Rattle.pickle_types.specs.declared.node.Part.{Part}
use Rattle.pickle_types.specs.Table.{FieldsBelow, PartsBelow}
use Rattle.mapping_plans.specs.Rows.{term_weight, weight_of}
use Rattle.pickle_map.specs.Layouts.{HasPartPlace, HasPlace, left_of}

pub left_is : (weight left m : ℕ) → left_of weight left ≡ Some m → (weight ≤ left) × (m ≡ left - weight)
left_is weight left m e = told (nat_le weight left) refl e
  where
    told : (light : Bool) → nat_le weight left ≡ light → (if light then Some (left - weight) else None) ≡ Some m →
        (weight ≤ left) × (m ≡ left - weight)
    told true t e = (leb-true weight left t, cc)
    told false t e = absurd cc

pub some_left : (weight left : ℕ) → weight ≤ left → left_of weight left ≡ Some (left - weight)
some_left weight left h = rw (le-leb weight left h) refl

pub none_left : (weight left : ℕ) → left < weight → left_of weight left ≡ None
none_left weight left h = rw (lt-leb weight left h) refl

-- some, and then some more
pub left_then : (one more left m : ℕ) → left_of one left ≡ Some m → left_of (one + more) left ≡ left_of more m
left_then one more left m e =
    let i = left_is one left m e in
    let least = i.0 in
    let rest = i.1 in
    told least rest (nat_le more m) refl
  where
    told : one ≤ left → m ≡ left - one → (light : Bool) → nat_le more m ≡ light →
        left_of (one + more) left ≡ left_of more m
    told least rest true t =
        let fits = leb-true more m t in
        let same : left - (one + more) ≡ m - more = omega (arith, least, rest) in
        some_left (one + more) left (omega (arith, least, rest, fits)) ∙ ap Some same ∙ sym (some_left more m fits)
    told least rest false t =
        let over = leb-false more m t in
        none_left (one + more) left (omega (arith, least, rest, over)) ∙ sym (none_left more m over)

-- too many, and then some more
pub left_none : (one more left : ℕ) → left_of one left ≡ None → left_of (one + more) left ≡ None
left_none one more left e = told (nat_le one left) refl e
  where
    told : (light : Bool) → nat_le one left ≡ light → (if light then Some (left - one) else None) ≡ None →
        left_of (one + more) left ≡ None
    told true t e = absurd cc
    told false t e = let over = leb-false one left t in none_left (one + more) left (omega (arith, over))

-- an expression and a type have a part
pub term_some : (e : Term) → 0 < term_weight e
term_some (Number type value) = omega arith
term_some (Text bytes) = omega arith
term_some (Name level place) = omega arith
term_some (Bracket e) = omega arith
term_some (Before op e) = omega arith
term_some (Between op a b) = omega arith
term_some (Choice common c x y) = omega arith
term_some (Index e i) = omega arith
term_some (Select e place) = omega arith
term_some (AttributeOf attribute e) = omega arith
term_some (ToInteger type e) = omega arith
term_some (ToOffset type unit e) = omega arith
term_some (InUnit unit e) = omega arith

pub type_some : (type : PokeType) → 0 < weight_of type
type_some (IntegerOf type) = omega arith
type_some (OffsetOf type unit) = omega arith
type_some StringOf = omega arith
type_some (ArrayOf element bound) = omega arith
type_some (StructOf name pinned fields) = omega arith
type_some (IntegralOf name type fields) = omega arith
type_some (UnionOf name alternatives) = omega arith

-- nothing is left of nothing
pub no_left : (weight left : ℕ) → left ≡ 0 → 0 < weight → left_of weight left ≡ None
no_left weight left none some = none_left weight left (omega (arith, none, some))

-- one, and then some more
pub one_less : (more left : ℕ) → 0 < left → left_of (1 + more) left ≡ left_of more (left - 1)
one_less more left some = left_then 1 more left (left - 1) (some_left 1 left some)

-- the fields of a type are in the table
pub fields_there : (nodes : List Node) (at : ℕ) → at < length nodes → (fs : List Field) → FieldsBelow at fs →
    All (HasPlace nodes 0) fs
fields_there nodes at inside fs below i d lt = let under = below i d lt in omega (arith, inside, under)

pub parts_there : (nodes : List Node) (at : ℕ) → at < length nodes → (ps : List Part) → PartsBelow at ps →
    All (HasPartPlace nodes 0) ps
parts_there nodes at inside ps below i d lt = let under = below i d lt in omega (arith, inside, under)
