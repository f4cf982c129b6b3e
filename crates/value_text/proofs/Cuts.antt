-- Arrays of which only the first elements are printed.
use Rattle.std.proofs.Common.{◌≡◌, ◌≢◌, ℕ, zero, suc, ◌+◌, ◌-◌, ◌<◌, ◌≤◌, List, [], Option, Some, None, true, false, inl, inr, refl, sym, ◌∙◌, ap, arith}
use Rattle.std.specs.Prelude.{nat_lt, ◌==◌}
use Rattle.std.proofs.lemmas.Bool.{cases_Bool}
use Rattle.text_output.specs.declared.style.Style.{Style}
use Rattle.text_output.specs.Styles.{plain}
use Rattle.value_store.specs.declared.value.Kind.TheVariants as kind
use Rattle.pickle_meaning.specs.Values.{Value, Label, IntegerLabel, OffsetLabel, TextLabel, ArrayLabel, StructLabel, UnionLabel, Members, NoMembers, MemberThen, AbsentThen, member_at, member_count}
use Rattle.value_store.specs.Labels.{kind_of}
use Rattle.value_text.specs.CutArrays.{limit_of, is_past, is_cut, kept_count, left_text}
use Rattle.value_text.proofs.MemberTexts.{members_from, with_member, from_at, from_end}

-- only an array has a limit
pub limit_of_array : (style : Style) (label : Label) → kind.Array ≡ kind_of label →
    limit_of style label ≡ style.elements
limit_of_array style (IntegerLabel number type) e = cc
limit_of_array style (OffsetLabel magnitude type unit) e = cc
limit_of_array style (TextLabel bytes) e = cc
limit_of_array style ArrayLabel e = refl
limit_of_array style (StructLabel name fields) e = cc
limit_of_array style (UnionLabel name index alternative) e = cc

pub limit_of_other : (style : Style) (label : Label) → kind_of label ≢ kind.Array → limit_of style label ≡ None
limit_of_other style (IntegerLabel number type) e = refl
limit_of_other style (OffsetLabel magnitude type unit) e = refl
limit_of_other style (TextLabel bytes) e = refl
limit_of_other style ArrayLabel e = absurd (e refl)
limit_of_other style (StructLabel name fields) e = refl
limit_of_other style (UnionLabel name index alternative) e = refl

pub ruleset by_kind = (limit_of_array, limit_of_other)

-- the plain style leaves nothing out
pub plain_limit : (label : Label) → limit_of plain label ≡ None
plain_limit (IntegerLabel number type) = refl
plain_limit (OffsetLabel magnitude type unit) = refl
plain_limit (TextLabel bytes) = refl
plain_limit ArrayLabel = refl
plain_limit (StructLabel name fields) = refl
plain_limit (UnionLabel name index alternative) = refl

-- the members that are printed aren't past the limit, and the next one is
pub kept_before : (limit : Option ℕ) (count i : ℕ) → i < kept_count limit count → is_past limit i ≡ false
kept_before None count i lt = refl
kept_before (Some most) count i lt = elim (cases_Bool (nat_lt most count)) [
  | inl cut ↦ (let below : i < most = rw cut at lt in grind (arith, below))
  | inr whole ↦ (let below : i < count = rw whole at lt in grind (arith, below, whole))
]

pub kept_within : (limit : Option ℕ) (count : ℕ) → kept_count limit count ≤ count
kept_within None count = omega arith
kept_within (Some most) count = elim (cases_Bool (nat_lt most count)) [
  | inl cut ↦ (let le : most ≤ count = grind (arith, cut) in rw cut le)
  | inr whole ↦ (let le : count ≤ count = omega arith in rw whole le)
]

pub past_kept : (limit : Option ℕ) (count i : ℕ) → i ≡ kept_count limit count → i < count → is_past limit i ≡ true
past_kept None count i e lt = absurd (omega (arith, e, lt))
past_kept (Some most) count i e lt = elim (cases_Bool (nat_lt most count)) [
  | inl cut ↦ (let is : i ≡ most = rw cut at e in grind (arith, is))
  | inr whole ↦ (let is : i ≡ count = rw whole at e in absurd (omega (arith, is, lt)))
]

-- where nothing is left out, none is past the limit
pub whole_before : (limit : Option ℕ) (count i : ℕ) → is_cut limit count ≡ false → i < count → is_past limit i ≡ false
whole_before None count i whole lt = refl
whole_before (Some most) count i whole lt = grind (arith, whole, lt)

-- what is left after so many
pub count_from : (i : ℕ) (all : Members) → member_count (members_from i all) ≡ member_count all - i
count_from zero all = omega arith
count_from (suc i) NoMembers = omega arith
count_from (suc i) (MemberThen value rest) = omega (arith, count_from i rest)
count_from (suc i) (AbsentThen rest) = omega (arith, count_from i rest)

pub left_none : (more : ℕ → List ℕ) (left : ℕ) → left ≡ 0 → left_text more left ≡ []
left_none more left e = rw e refl

pub left_some : (more : ℕ → List ℕ) (left : ℕ) → 0 < left → left_text more left ≡ more left
left_some more left some = let is : (left == 0) ≡ false = grind (arith, some) in rw is refl

-- the texts of members from a place on end with what is printed of those that are left out
pub left_is : (limit : Option ℕ) (text : (place : ℕ) → Members → List ℕ) (more : (left : ℕ) → List ℕ)
    → ((place : ℕ) → text place NoMembers ≡ [])
    → ((place : ℕ) (member : Option Value) (rest : Members) → is_past limit place ≡ true
    → text place (with_member member rest) ≡ more (suc (member_count rest)))
    → (all : Members) (i : ℕ) → i ≡ kept_count limit (member_count all)
    → text i (members_from i all) ≡ left_text more (member_count all - i)
left_is limit text more ends past all i e = elim (cases_Bool (nat_lt i (member_count all))) [
  | inl some ↦
      (let lt : i < member_count all = grind (arith, some) in
      let left : suc (member_count (members_from (i + 1) all)) ≡ member_count all - i =
      omega (arith, count_from (i + 1) all, lt) in
      ap (text i) (from_at all i lt)
      ∙ past i (member_at all i) (members_from (i + 1) all) (past_kept limit (member_count all) i e lt)
      ∙ ap more left
      ∙ sym (left_some more (member_count all - i) (omega (arith, lt))))
  | inr none ↦
      (let ge : member_count all ≤ i = grind (arith, none) in
      ap (text i) (from_end all i ge) ∙ ends i ∙ sym (left_none more (member_count all - i) (omega (arith, ge))))
]
