-- Two members of a struct from which a pattern leads on, sought from the first on.
use Rattle.std.proofs.Common.{◌≡◌, ℕ, ◌+◌, ◌<◌, Bool, true, false, ◌&&◌, ◌||◌, ◌⊎◌, inl, inr, List, [], ◌∷◌, cond, length, map, refl, ◌∙◌}
use Rattle.pickle_types.specs.declared.node.Node.{Node}
use Rattle.pickle_types.specs.declared.node.Field.{Field}
use Rattle.pickle_types.specs.declared.node.Part.{Part}
use Rattle.pickle_types.specs.Table.{IsTable, FieldsBelow, PartsBelow, type_of, open_fields, open_parts}
use Rattle.pickle_types.specs.Types.{PokeType}
use Rattle.type_parts.specs.CanHave.{Leading, some_member, is_known, AreKnown}
use Rattle.type_parts.specs.Members.{Member, fields_in, parts_in, field_member, part_member, place_of}
use Rattle.type_parts.specs.Twice.{two_members}
use Rattle.type_parts.specs.declared.member.Standing.{Standing}
use Rattle.type_parts.specs.declared.member.Standing.TheVariants.{Apart}
use Rattle.type_parts.proofs.Known.{all_first, all_rest, known_at, fields_known, parts_known}

-- of one member: whether the step leads to it, and whether the rest leads on from it, or can match twice; then of the
-- members after it: whether there is one more, or two
found_second : (leads on twice one two : Bool) → (leads && twice) || (leads && on) ≡ true →
    ((leads && on) || one) || ((leads && (twice || (on && one))) || two) ≡ true
found_second false on twice one two is = cc
found_second true true twice one two is = refl
found_second true false true true two is = refl
found_second true false true false two is = refl
found_second true false false one two is = cc

found_first : (leads on twice one two : Bool) → (leads && twice) || false ≡ true →
    (leads && (twice || (on && one))) || two ≡ true
found_first false on twice one two is = cc
found_first true on true one two is = refl
found_first true on false one two is = cc

passed_second : (leads on twice one two : Bool) → (leads && twice) || (leads && on) ≡ false →
    ((leads && on) || one) || ((leads && (twice || (on && one))) || two) ≡ one || two
passed_second false on twice one two is = refl
passed_second true on true one two is = cc
passed_second true true false one two is = cc
passed_second true false false one two is = refl

passed_first : (leads on twice one two : Bool) → (leads && twice) || false ≡ false →
    (leads && (twice || (on && one))) || two ≡ cond (leads && on) (one || two) two
passed_first false on twice one two is = refl
passed_first true on true one two is = cc
passed_first true true false one two is = refl
passed_first true false false one two is = refl

-- neither of two findings
pub neither : (twice found on : Bool) → twice ≡ false → ((found ≡ true) × (on ≡ false)) ⊎ (found ≡ false) →
    twice || (found && on) ≡ false
neither twice found on none (inl second) = rw (none, second.0, second.1) refl
neither twice found on none (inr first) = rw (none, first) refl

module _ {A : Type 0} (leading : Leading) (goal twice : A → Bool) where
  -- what is left to find after some members: if one was found, one more is enough
  abbrev pub two_left : (found : Bool) → List (Member A) → (number : ℕ) → Bool
  two_left true members number =
      some_member leading goal Apart members number || two_members leading goal twice members number
  two_left false members number = two_members leading goal twice members number

  -- a member from which the rest can match twice, or a second one
  pub two_found : (found : Bool) (member : Member A) (rest : List (Member A)) (number : ℕ) →
      (leading.field member.name number && twice member.type)
      || (found && (leading.field member.name number && goal member.type)) ≡ true →
      two_left found (member ∷ rest) number ≡ true
  two_found true member rest number is =
      found_second (leading.field member.name number) (goal member.type) (twice member.type)
      (some_member leading goal Apart rest (number + 1)) (two_members leading goal twice rest (number + 1)) is
  two_found false member rest number is =
      found_first (leading.field member.name number) (goal member.type) (twice member.type)
      (some_member leading goal Apart rest (number + 1)) (two_members leading goal twice rest (number + 1)) is

  -- a member that may be the first
  pub two_next : (found : Bool) (member : Member A) (rest : List (Member A)) (number : ℕ) →
      (leading.field member.name number && twice member.type)
      || (found && (leading.field member.name number && goal member.type)) ≡ false →
      two_left found (member ∷ rest) number
      ≡ two_left (found || (leading.field member.name number && goal member.type)) rest (number + 1)
  two_next true member rest number is =
      passed_second (leading.field member.name number) (goal member.type) (twice member.type)
      (some_member leading goal Apart rest (number + 1)) (two_members leading goal twice rest (number + 1)) is
  two_next false member rest number is =
      passed_first (leading.field member.name number) (goal member.type) (twice member.type)
      (some_member leading goal Apart rest (number + 1)) (two_members leading goal twice rest (number + 1)) is
      ∙ chosen (leading.field member.name number && goal member.type)
    where
      chosen : (on : Bool) → cond on
          (some_member leading goal Apart rest (number + 1) || two_members leading goal twice rest (number + 1))
          (two_members leading goal twice rest (number + 1)) ≡ two_left on rest (number + 1)
      chosen true = refl
      chosen false = refl

-- a member to which no step leads on
module _ {A : Type 0} (leading : Leading) (goal : A → Bool) (standing : Standing) where
  pub one_found : (member : Member A) (rest : List (Member A)) (number : ℕ) →
      leading.field member.name (place_of standing number) && goal member.type ≡ true →
      some_member leading goal standing (member ∷ rest) number ≡ true
  one_found member rest number is = rw is refl

  pub one_next : (member : Member A) (rest : List (Member A)) (number : ℕ) →
      leading.field member.name (place_of standing number) && goal member.type ≡ false →
      some_member leading goal standing (member ∷ rest) number ≡ some_member leading goal standing rest (number + 1)
  one_next member rest number is = rw is refl

-- members in a table, by what is known of their nodes
module _ (leading : Leading) (nodes : List Node) (known twice : List Bool) (goal two : PokeType → Bool)
    (table : IsTable nodes) (are : AreKnown nodes known goal) (twos : AreKnown nodes twice two) where
  pub fields_two : (fields : List Field) (number : ℕ) → FieldsBelow (length known) fields →
      FieldsBelow (length twice) fields →
      two_members leading (is_known known) (is_known twice) (map field_member fields) number
      ≡ two_members leading goal two (fields_in (open_fields (type_of nodes) fields)) number
  fields_two [] number below below' = refl
  fields_two (field ∷ fields) number below below' =
      let rest = all_rest (λ f. f.node < length known) field fields below in
      let rest' = all_rest (λ f. f.node < length twice) field fields below' in
      rw (
        known_at nodes known goal table are field.node false
            (all_first (λ f. f.node < length known) field fields below),
        known_at nodes twice two table twos field.node false
            (all_first (λ f. f.node < length twice) field fields below'),
        fields_known leading Apart nodes known goal table are fields (number + 1) rest,
        fields_two fields (number + 1) rest rest',
      ) refl

  pub parts_two : (parts : List Part) (number : ℕ) → PartsBelow (length known) parts →
      PartsBelow (length twice) parts →
      two_members leading (is_known known) (is_known twice) (map part_member parts) number
      ≡ two_members leading goal two (parts_in (open_parts (type_of nodes) parts)) number
  parts_two [] number below below' = refl
  parts_two (part ∷ parts) number below below' =
      let rest = all_rest (λ p. p.node < length known) part parts below in
      let rest' = all_rest (λ p. p.node < length twice) part parts below' in
      rw (
        known_at nodes known goal table are part.node false (all_first (λ p. p.node < length known) part parts below),
        known_at nodes twice two table twos part.node false (all_first (λ p. p.node < length twice) part parts below'),
        parts_known leading Apart nodes known goal table are parts (number + 1) rest,
        parts_two parts (number + 1) rest rest',
      ) refl
