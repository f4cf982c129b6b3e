-- Members of values that are of their types, and visible fields.
use Rattle.std.proofs.Common.{◌≡◌, ℕ, zero, suc, ◌+◌, ◌<◌, ◌≤◌, Bool, true, false, List, [], ◌∷◌, Option, Some, None, ℤ, pos, negsuc, refl, ap, subst, arith, ◌⊎◌, inl, inr}
use Rattle.std.specs.Prelude.{if◌then◌else◌}
use Rattle.std.proofs.lemmas.Option.{none-some}
use Rattle.pickle_types.specs.declared.integer.IntegerType.{IntegerType}
use Rattle.pickle_types.specs.Types.{PokeType, ArrayOf, StructOf, IntegralOf, UnionOf, Bound, Fields, NoFields, FieldThen, Parts, NoParts, PartThen}
use Rattle.pickle_types.specs.Scopes.{Visible, is_named, or_this, resolve}
use Rattle.pickle_types.specs.Expressions.{Typed, find_field, find_part}
use Rattle.pickle_meaning.specs.Values.{Naming, ArrayLabel, StructLabel, UnionLabel, Value, Mapped, Members, NoMembers, MemberThen, AbsentThen, member_count, member_at, Levels}
use Rattle.pickle_meaning.specs.Means.{field_names, part_names}
use Rattle.pickle_meaning.specs.Evaluation.{Operand, AtPath, Plain}
use Rattle.type_soundness.specs.Sorts.{AllThere, IsOfType, AreFields, AreParts, IsAlternative, IsOfSort, IsMember, Holds, LevelsFit}
use Rattle.type_soundness.specs.Derivations.{IsOutside}

-- ---- visible fields

named_holds : {count : ℕ} {levels : Levels} {u v : Visible} (b : Bool) → Holds count levels u →
    (if b then Some u else None) ≡ Some v → Holds count levels v
named_holds {count} {levels} {u} {v} true h e = let same : u ≡ v = cc in subst (λ w. Holds count levels w) same h
named_holds {v} false h e = absurd (none-some v e)

picked_holds : {count : ℕ} {levels : Levels} {u v : Visible} (word : List ℕ) (o : Option Visible) →
    ((w : Visible) → o ≡ Some w → Holds count levels w) → Holds count levels u →
    or_this word u o ≡ Some v → Holds count levels v
picked_holds {v} word (Some inner) inside h e = inside v e
picked_holds {u} word None inside h e = named_holds (is_named u.name word) h e

pub resolved_holds : {count : ℕ} {levels : Levels} {v : Visible} (word : List ℕ) (seen : List Visible) →
    LevelsFit seen count levels → resolve word seen ≡ Some v → Holds count levels v
resolved_holds {v} word [] fit e = absurd (none-some v e)
resolved_holds word (u ∷ us) fit e = picked_holds word (resolve word us) (λ w g. resolved_holds word us fit.1 g) fit.0 e

-- ---- elements

pub array_form : (element : PokeType) (bound : Bound) (p : Operand) → IsOfSort (Typed (ArrayOf element bound)) p →
    (s : ℕ) × (end : ℕ) × (ms : Members) × (p ≡ AtPath (Mapped ArrayLabel s end ms)) × AllThere (IsOfType element) ms
unfolding IsOfType
array_form element bound (AtPath (Mapped label s end ms)) h =
    (s, end, ms, ap (λ l. AtPath (Mapped l s end ms)) h.0, h.1)
array_form element bound (Plain label) h = absurd h

pub struct_form : (title : Naming) (pinned : Bool) (fs : Fields) (p : Operand) →
    IsOfSort (Typed (StructOf title pinned fs)) p →
    (s : ℕ) × (end : ℕ) × (ms : Members)
    × (p ≡ AtPath (Mapped (StructLabel title (field_names fs)) s end ms)) × AreFields fs ms
unfolding IsOfType
struct_form title pinned fs (AtPath (Mapped label s end ms)) h =
    (s, end, ms, ap (λ l. AtPath (Mapped l s end ms)) h.0, h.1)
struct_form title pinned fs (Plain label) h = absurd h

pub integral_form : (title : Naming) (type : IntegerType) (ps : Parts) (p : Operand) →
    IsOfSort (Typed (IntegralOf title type ps)) p →
    (s : ℕ) × (end : ℕ) × (ms : Members)
    × (p ≡ AtPath (Mapped (StructLabel title (part_names ps)) s end ms)) × AreParts ps ms
unfolding IsOfType
integral_form title type ps (AtPath (Mapped label s end ms)) h =
    (s, end, ms, ap (λ l. AtPath (Mapped l s end ms)) h.0, h.1)
integral_form title type ps (Plain label) h = absurd h

pub union_form : (title : Naming) (ps : Parts) (p : Operand) → IsOfSort (Typed (UnionOf title ps)) p →
    (s : ℕ) × (end : ℕ) × (ms : Members) × (index : ℕ) × (taken : Naming)
    × (p ≡ AtPath (Mapped (UnionLabel title index taken) s end ms)) × IsAlternative ps 0 index taken ms
unfolding IsOfType
union_form title ps (AtPath (Mapped label s end ms)) h =
    (s, end, ms, h.0, h.1, ap (λ l. AtPath (Mapped l s end ms)) h.2, h.3)
union_form title ps (Plain label) h = absurd h

-- an element at a place, or a place past the last
abbrev IsPlaced : (Value → Type 0) → Members → ℕ → Type 0
IsPlaced P ms i = ((v : Value) × (member_at ms i ≡ Some v) × P v) ⊎ (member_count ms ≤ i)

placed_behind : (P : Value → Type 0) (v : Value) (ms : Members) (i : ℕ) → IsPlaced P ms i →
    IsPlaced P (MemberThen v ms) (suc i)
placed_behind P v ms i (inl there) = inl there
placed_behind P v ms i (inr outside) = inr (omega (arith, outside))

placed : (P : Value → Type 0) (ms : Members) (i : ℕ) → AllThere P ms → IsPlaced P ms i
placed P NoMembers i h = inr (omega arith)
placed P (MemberThen v ms) zero h = inl (v, refl, h.0)
placed P (MemberThen v ms) (suc i) h = placed_behind P v ms i (placed P ms i h.1)
placed P (AbsentThen ms) i h = absurd h

pub element_is : (P : Value → Type 0) (ms : Members) (n : ℤ) → AllThere P ms →
    ((i : ℕ) × (v : Value) × (n ≡ pos i) × (member_at ms i ≡ Some v) × P v) ⊎ IsOutside ms n
element_is P ms (pos i) h =
    elim (placed P ms i h) [ inl there ↦ inl (i, there.0, refl, there.1, there.2) | inr outside ↦ inr outside ]
element_is P ms (negsuc i) h = inr tt

-- ---- fields and alternatives

-- a member at a place, of a type or absent
pub record IsThere (ms : Members) (at place : ℕ) (type : PokeType) : Type 0 where
  pub index : ℕ
  pub same : place ≡ at + index
  pub inside : index < member_count ms
  pub typed : IsMember type (member_at ms index)

abbrev At : Type 0
At = ℕ × PokeType

found_if : (b : Bool) (p q : At) (rest : Option At) → (if b then Some p else rest) ≡ Some q → (p ≡ q) ⊎ (rest ≡ Some q)
found_if true p q rest e = inl cc
found_if false p q rest e = inr e

there_as : {ms : Members} {at : ℕ} (p q : At) → p ≡ q → IsThere ms at p.0 p.1 → IsThere ms at q.0 q.1
there_as {ms} {at} p q e h = subst (λ r. IsThere ms at r.0 r.1) e h

behind : {ms : Members} {at place : ℕ} {type : PokeType} (v : Value) → IsThere ms (at + 1) place type →
    IsThere (MemberThen v ms) at place type
behind v h =
    let e = h.same in
    let i = h.inside in
    record { index = suc h.index; same = omega (arith, e); inside = omega (arith, i); typed = h.typed }

behind_absent : {ms : Members} {at place : ℕ} {type : PokeType} → IsThere ms (at + 1) place type →
    IsThere (AbsentThen ms) at place type
behind_absent h =
    let e = h.same in
    let i = h.inside in
    record { index = suc h.index; same = omega (arith, e); inside = omega (arith, i); typed = h.typed }

pub field_there : (q : At) (at : ℕ) (word : List ℕ) (fs : Fields) (ms : Members) → find_field at word fs ≡ Some q →
    AreFields fs ms → IsThere ms at q.0 q.1
unfolding IsOfType
field_there q at word NoFields ms e h = absurd (none-some q e)
field_there q at word (FieldThen name order type c l d rest) NoMembers e h = absurd h
field_there q at word (FieldThen name order type c l d rest) (MemberThen v ms) e h =
    elim (found_if (is_named name word) (at, type) q (find_field (at + 1) word rest) e) [
      | inl same ↦
          there_as (at, type) q same (record { index = 0; same = omega arith; inside = omega arith; typed = h.0 })
      | inr later ↦ behind v (field_there q (at + 1) word rest ms later h.1)
    ]
field_there q at word (FieldThen name order type c l d rest) (AbsentThen ms) e h =
    elim (found_if (is_named name word) (at, type) q (find_field (at + 1) word rest) e) [
      | inl same ↦
          there_as (at, type) q same (record { index = 0; same = omega arith; inside = omega arith; typed = tt })
      | inr later ↦ behind_absent (field_there q (at + 1) word rest ms later h)
    ]

pub part_there : (q : At) (at : ℕ) (word : List ℕ) (ps : Parts) (ms : Members) → find_part at word ps ≡ Some q →
    AreParts ps ms → IsThere ms at q.0 q.1
unfolding IsOfType
part_there q at word NoParts ms e h = absurd (none-some q e)
part_there q at word (PartThen name order type c rest) NoMembers e h = absurd h
part_there q at word (PartThen name order type c rest) (MemberThen v ms) e h =
    elim (found_if (is_named name word) (at, type) q (find_part (at + 1) word rest) e) [
      | inl same ↦
          there_as (at, type) q same (record { index = 0; same = omega arith; inside = omega arith; typed = h.0 })
      | inr later ↦ behind v (part_there q (at + 1) word rest ms later h.1)
    ]
part_there q at word (PartThen name order type c rest) (AbsentThen ms) e h = absurd h

found_from : (q : At) (at : ℕ) (word : List ℕ) (ps : Parts) → find_part at word ps ≡ Some q → at ≤ q.0
found_from q at word NoParts e = absurd (none-some q e)
found_from q at word (PartThen name order type c rest) e =
    elim (found_if (is_named name word) (at, type) q (find_part (at + 1) word rest) e) [
      | inl same ↦ let first = ap (λ p. p.0) same in omega (arith, first)
      | inr later ↦ let from = found_from q (at + 1) word rest later in omega (arith, from)
    ]

taken_from : (at index : ℕ) (taken : Naming) (ps : Parts) (ms : Members) →
    IsAlternative ps at index taken ms → at ≤ index
unfolding IsOfType
taken_from at index taken NoParts ms h = absurd h
taken_from at index taken (PartThen name order type c rest) ms (inl h) = let e = h.0 in omega (arith, e)
taken_from at index taken (PartThen name order type c rest) ms (inr h) =
    let l = taken_from (at + 1) index taken rest ms h in omega (arith, l)

-- the member of a union, of a type
abbrev pub IsAlone : PokeType → Members → Type 0
IsAlone type ms = (v : Value) × (member_at ms 0 ≡ Some v) × IsOfType type v

-- the alternative that matched, where it is the requested one
pub taken_there : (q : At) (at : ℕ) (word : List ℕ) (taken : Naming) (ps : Parts) (ms : Members) →
    find_part at word ps ≡ Some q → IsAlternative ps at q.0 taken ms → IsAlone q.1 ms
unfolding IsOfType
taken_there q at word taken NoParts ms e h = absurd h
taken_there q at word taken (PartThen name order type c rest) ms e (inl h) =
    elim (found_if (is_named name word) (at, type) q (find_part (at + 1) word rest) e) [
      | inl same ↦ subst (λ t. IsAlone t ms) (ap (λ p. p.1) same) (h.2, ap (λ m. member_at m 0) h.3, h.4)
      | inr later ↦
          let from = found_from q (at + 1) word rest later in let first = h.0 in absurd (omega (arith, from, first))
    ]
taken_there q at word taken (PartThen name order type c rest) ms e (inr h) =
    elim (found_if (is_named name word) (at, type) q (find_part (at + 1) word rest) e) [
      | inl same ↦
          let first = ap (λ p. p.0) same in
          let from = taken_from (at + 1) q.0 taken rest ms h in absurd (omega (arith, from, first))
      | inr later ↦ taken_there q (at + 1) word taken rest ms later h
    ]
