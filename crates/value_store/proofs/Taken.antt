-- What frames take of the vectors of a store, and what slots they fill.
use Rattle.std.proofs.Common.{◌≡◌, ℕ, ◌+◌, ◌≤◌, Bool, false, List, [], ◌∷◌, ◌++◌, Option, Some, None, length, refl, sym, ◌∙◌, ap, arith, zero-add}
use Rattle.pickle_meaning.specs.Room.{Slot, NodeSlot, LinkSlot, PendingSlot, ByteSlot, own_slots, value_slots, members_slots, place_slots, level_slots, slots}
use Rattle.pickle_meaning.specs.Values.{Label, IntegerLabel, OffsetLabel, TextLabel, ArrayLabel, StructLabel, UnionLabel, Value, Mapped, Members, NoMembers, MemberThen, AbsentThen, Levels, gathered, pushed, member_count}
use Rattle.value_store.specs.Levels.{extended}
use Rattle.value_store.specs.Takes.{Vector, NodesOf, FamiliesOf, LinksOf, PendingOf, TextsOf, BytesOf, packed_width, families_taken, texts_taken, own_takes, kept_as, value_takes, members_take, place_takes, level_takes, levels_take}

pub level_takes-append : (packs : Bool) (vector : Vector) (xs ys : List (Option Value)) →
    level_takes packs vector (xs ++ ys) ≡ level_takes packs vector xs + level_takes packs vector ys
level_takes-append packs vector [] ys = sym (zero-add (level_takes packs vector ys))
level_takes-append packs vector (v ∷ xs) ys = omega (arith, level_takes-append packs vector xs ys)

pub levels_take-extended : (packs : Bool) (vector : Vector) (ls : Levels) (vs : List (Option Value)) →
    levels_take packs vector (extended ls vs) ≡ levels_take packs vector ls + level_takes packs vector vs
levels_take-extended packs vector [] vs = omega arith
levels_take-extended packs vector (top ∷ outer) vs = omega (arith, level_takes-append packs vector top vs)

-- one more member
pub pushed-extended : (ls : Levels) (v : Option Value) → extended ls (v ∷ []) ≡ pushed ls v
pushed-extended [] v = refl
pushed-extended (top ∷ outer) v = refl

pub levels_take-pushed : (packs : Bool) (vector : Vector) (ls : Levels) (v : Option Value) →
    levels_take packs vector (pushed ls v) ≡ levels_take packs vector ls + level_takes packs vector (v ∷ [])
levels_take-pushed packs vector ls v =
    ap (levels_take packs vector) (sym (pushed-extended ls v)) ∙ levels_take-extended packs vector ls (v ∷ [])

-- what the members of a value take, where their places take nothing
pub members_take-of : (packs : Bool) (vector : Vector) (os : List (Option Value)) → place_takes vector ≡ 0 →
    members_take packs vector (gathered os) ≡ level_takes packs vector os
members_take-of packs vector [] e = refl
members_take-of packs vector (None ∷ os) e = omega (arith, e, members_take-of packs vector os e)
members_take-of packs vector (Some v ∷ os) e = omega (arith, e, members_take-of packs vector os e)

pub member_count-of : (os : List (Option Value)) → member_count (gathered os) ≡ length os
member_count-of [] = refl
member_count-of (None ∷ os) = omega (arith, member_count-of os)
member_count-of (Some v ∷ os) = omega (arith, member_count-of os)

-- a value has no pending children
kept_pending : (width : Option ℕ) (label : Label) (members : Members) (inside : ℕ) → inside ≡ 0 →
    kept_as width PendingOf label members inside ≡ 0
kept_pending None label _ inside e = omega (arith, e)
kept_pending (Some width) label _ inside e = refl

mutual
  pub value_pending : (packs : Bool) (v : Value) → value_takes packs PendingOf v ≡ 0
  value_pending packs (Mapped label start end members) = kept_pending (packed_width packs label members) label members
      (members_take packs PendingOf members) (members_pending packs members)

  pub members_pending : (packs : Bool) (members : Members) → members_take packs PendingOf members ≡ 0
  members_pending packs NoMembers = refl
  members_pending packs (MemberThen v rest) = omega (arith, value_pending packs v, members_pending packs rest)
  members_pending packs (AbsentThen rest) = members_pending packs rest

pub level_pending : (packs : Bool) (os : List (Option Value)) → level_takes packs PendingOf os ≡ length os
level_pending packs [] = refl
level_pending packs (None ∷ os) = omega (arith, level_pending packs os)
level_pending packs (Some v ∷ os) = omega (arith, value_pending packs v, level_pending packs os)

-- where arrays of numbers aren't packed

pub not_packed : (label : Label) (members : Members) → packed_width false label members ≡ None
not_packed (IntegerLabel number type) _ = refl
not_packed (OffsetLabel magnitude type unit) _ = refl
not_packed (TextLabel bytes) _ = refl
not_packed ArrayLabel _ = refl
not_packed (StructLabel name fields) _ = refl
not_packed (UnionLabel name index alternative) _ = refl

pub kept-members : (width : Option ℕ) (vector : Vector) (label : Label) (members : Members) (inside : ℕ) →
    width ≡ None → kept_as width vector label members inside ≡ own_takes vector label members + inside
kept-members width vector label ms inside e = ap (λ w. kept_as w vector label ms inside) e

-- the vector of the slots of a kind
abbrev pub vector_of : Slot → Vector
vector_of NodeSlot = NodesOf
vector_of LinkSlot = LinksOf
vector_of PendingSlot = PendingOf
vector_of ByteSlot = BytesOf

own-slots : (kind : Slot) (label : Label) (members : Members) →
    own_slots kind label members ≡ own_takes (vector_of kind) label members
own-slots NodeSlot label _ = refl
own-slots LinkSlot label _ = refl
own-slots PendingSlot label _ = refl
own-slots ByteSlot label _ = refl

place-slots : (kind : Slot) → place_slots kind ≡ place_takes (vector_of kind)
place-slots NodeSlot = refl
place-slots LinkSlot = refl
place-slots PendingSlot = refl
place-slots ByteSlot = refl

mutual
  value-slots : (kind : Slot) (v : Value) → value_slots kind v ≡ value_takes false (vector_of kind) v
  value-slots kind (Mapped label start end members) =
      omega (
        arith,
        own-slots kind label members,
        members-slots kind members,
        kept-members (packed_width false label members) (vector_of kind) label members
            (members_take false (vector_of kind) members) (not_packed label members),
      )

  members-slots : (kind : Slot) (members : Members) →
      members_slots kind members ≡ members_take false (vector_of kind) members
  members-slots kind NoMembers = refl
  members-slots kind (MemberThen v rest) = omega (arith, value-slots kind v, members-slots kind rest)
  members-slots kind (AbsentThen rest) = members-slots kind rest

level-slots : (kind : Slot) (os : List (Option Value)) → level_slots kind os ≡ level_takes false (vector_of kind) os
level-slots kind [] = refl
level-slots kind (None ∷ os) = omega (arith, place-slots kind, level-slots kind os)
level-slots kind (Some v ∷ os) = omega (arith, place-slots kind, value-slots kind v, level-slots kind os)

-- frames take of the vector just the slots that they fill
pub slots-taken : (kind : Slot) (ls : Levels) → slots kind ls ≡ levels_take false (vector_of kind) ls
slots-taken kind [] = refl
slots-taken kind (top ∷ outer) = omega (arith, level-slots kind top, slots-taken kind outer)

pub slots-pushed : (kind : Slot) (ls : Levels) (v : Option Value) →
    slots kind (pushed ls v) ≡ slots kind ls + level_slots kind (v ∷ [])
slots-pushed kind ls v = omega (
  arith,
  slots-taken kind (pushed ls v),
  levels_take-pushed false (vector_of kind) ls v,
  slots-taken kind ls,
  level-slots kind (v ∷ []),
)

-- there are no more families and texts than nodes
abbrev pub IsOfNodes : Vector → Type 0
IsOfNodes vector = ((label : Label) (members : Members) → own_takes vector label members ≤ 1) × (place_takes vector ≡ 0)

families-few : (label : Label) → families_taken label ≤ 1
families-few (IntegerLabel number type) = omega arith
families-few (OffsetLabel magnitude type unit) = omega arith
families-few (TextLabel bytes) = omega arith
families-few ArrayLabel = omega arith
families-few (StructLabel name fields) = omega arith
families-few (UnionLabel name index alternative) = omega arith

texts-few : (label : Label) → texts_taken label ≤ 1
texts-few (IntegerLabel number type) = omega arith
texts-few (OffsetLabel magnitude type unit) = omega arith
texts-few (TextLabel bytes) = omega arith
texts-few ArrayLabel = omega arith
texts-few (StructLabel name fields) = omega arith
texts-few (UnionLabel name index alternative) = omega arith

module _ (vector : Vector) (of_nodes : IsOfNodes vector) where
  mutual
    value-few : (v : Value) → value_takes false vector v ≤ value_slots NodeSlot v
    value-few (Mapped label start end members) =
        omega (
          arith,
          of_nodes.0 label members,
          members-few members,
          kept-members (packed_width false label members) vector label members (members_take false vector members)
              (not_packed label members),
        )

    members-few : (members : Members) → members_take false vector members ≤ members_slots NodeSlot members
    members-few NoMembers = omega arith
    members-few (MemberThen v rest) = omega (arith, value-few v, members-few rest)
    members-few (AbsentThen rest) = members-few rest

  level-few : (os : List (Option Value)) → level_takes false vector os ≤ level_slots NodeSlot os
  level-few [] = omega arith
  level-few (None ∷ os) = omega (arith, of_nodes.1, level-few os)
  level-few (Some v ∷ os) = omega (arith, of_nodes.1, value-few v, level-few os)

  levels-few : (ls : Levels) → levels_take false vector ls ≤ slots NodeSlot ls
  levels-few [] = omega arith
  levels-few (top ∷ outer) = omega (arith, level-few top, levels-few outer)

-- a kind of slots that frames fill at least as many of
pub taken-slots : (vector : Vector) (ls : Levels) → (kind : Slot) × (levels_take false vector ls ≤ slots kind ls)
taken-slots NodesOf ls = (NodeSlot, omega (arith, slots-taken NodeSlot ls))
taken-slots FamiliesOf ls = (NodeSlot, levels-few FamiliesOf (λ label _. families-few label, refl) ls)
taken-slots LinksOf ls = (LinkSlot, omega (arith, slots-taken LinkSlot ls))
taken-slots PendingOf ls = (PendingSlot, omega (arith, slots-taken PendingSlot ls))
taken-slots TextsOf ls = (NodeSlot, levels-few TextsOf (λ label _. texts-few label, refl) ls)
taken-slots BytesOf ls = (ByteSlot, omega (arith, slots-taken ByteSlot ls))

-- frames with one more value fill a place
pub pushed-some : (ls : Levels) (v : Option Value) → 1 ≤ slots PendingSlot (pushed ls v)
pushed-some ls v = omega (
  arith,
  slots-taken PendingSlot (pushed ls v),
  levels_take-pushed false PendingOf ls v,
  level_pending false (v ∷ []),
)
