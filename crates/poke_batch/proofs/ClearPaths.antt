-- The paths of parts lead to them.
use Rattle.std.proofs.Common.{◌≡◌, ◌∙◌, ℕ, zero, suc, ◌+◌, ◌-◌, ◌^◌, ◌<◌, ◌≤◌, Bool, true, false, List, [], ◌∷◌, ◌++◌, Some, None, codes, refl, inl, inr, sym, ap, subst, arith}
use Rattle.std.proofs.lemmas.Bool.{cases_Bool}
use Rattle.std.proofs.lemmas.Slice.Eq.{bytes_eq-Decides}
use Rattle.pickle_meaning.specs.Values.{Naming, Label, IntegerLabel, OffsetLabel, TextLabel, ArrayLabel, StructLabel, UnionLabel, Value, Mapped, Members, NoMembers, MemberThen, AbsentThen, label_of, members_of, member_at, member_count}
use Rattle.value_store.specs.Labels.{member_name}
use Rattle.value_text.specs.LineParts.{LeadsBy, here, further}
use Rattle.value_text.specs.PathText.{field_step}
use Rattle.value_text.specs.PathText as line
use Rattle.value_text.specs.SmallParts.{HasFewMembers}
use Rattle.command_line.specs.declared.path.Step.{Step}
use Rattle.command_line.specs.declared.path.Step.TheVariants.{Field, Place, Element}
use Rattle.command_line.specs.Paths.{PathStep, ToField, ToNameless, ToElement, step_of, steps_of, IsName, IsStep, AreSteps, step_text, steps_text, path_text, IsPath}
use Rattle.command_line.proofs.PatternTexts.{one_path}
use Rattle.poke_batch.specs.PathParts.{is_array, is_named, place_named, member_there, step_to, part_from, part_of}
use Rattle.poke_batch.specs.PathLaws.{HasClearNames, HasClearPaths, PathsLeadToParts}
use Rattle.poke_batch.proofs.AllMembers.{clear_each, few_each, member_has}
use Rattle.poke_batch.proofs.PartsFound.{found_there, found_later}

-- ---- the step to a member

abbrev by_kind : (array : Bool) → Naming → (place : ℕ) → PathStep
by_kind true name place = ToElement place
by_kind false None place = ToNameless place
by_kind false (Some name) place = ToField name

abbrev step_at : Label → (place : ℕ) → PathStep
step_at label place = by_kind (is_array label) (member_name label place) place

field_text : (name : Naming) (place : ℕ) → step_text (by_kind false name place) ≡ field_step name place
field_text None place = refl
field_text (Some name) place = refl

step_is : (label : Label) (place : ℕ) → step_text (step_at label place) ≡ line.step_text label place
step_is (IntegerLabel number type) place = refl
step_is (OffsetLabel magnitude type unit) place = refl
step_is (TextLabel bytes) place = refl
step_is ArrayLabel place = refl
step_is (StructLabel name fields) place = field_text (member_name (StructLabel name fields) place) place
step_is (UnionLabel name index alternative) place =
    field_text (member_name (UnionLabel name index alternative) place) place

-- a step is one if the name is one, and the place is small
is_step : (array : Bool) (name : Naming) (place : ℕ) → ((word : List ℕ) → name ≡ Some word → IsName word) →
    place < 2 ^ 64 → IsStep (by_kind array name place)
is_step true name place words small = small
is_step false None place words small = small
is_step false (Some name) place words small = words name refl

-- what a step is, by the one that it is read as
is_field : (array : Bool) (its : Naming) (place : ℕ) (name : List ℕ) →
    ToField name ≡ by_kind array its place → its ≡ Some name
is_field true its place name e = cc
is_field false None place name e = cc
is_field false (Some other) place name e = cc

record IsPlaceOf (array : Bool) (its : Naming) (place other : ℕ) : Type 0 where
  field : array ≡ false
  bare : its ≡ None
  same : other ≡ place

is_place : (array : Bool) (its : Naming) (place other : ℕ) → ToNameless other ≡ by_kind array its place →
    IsPlaceOf array its place other
is_place true its place other e = cc
is_place false None place other e = record { field = refl; bare = refl; same = (cc) }
is_place false (Some name) place other e = cc

record IsElementOf (array : Bool) (place other : ℕ) : Type 0 where
  array_is : array ≡ true
  same : other ≡ place

is_element : (array : Bool) (its : Naming) (place other : ℕ) → ToElement other ≡ by_kind array its place →
    IsElementOf array place other
is_element true its place other e = record { array_is = refl; same = (cc) }
is_element false None place other e = cc
is_element false (Some name) place other e = cc

-- ---- a step leads to its member

named_true : (name : List ℕ) (its : Naming) → its ≡ Some name → is_named name its ≡ true
named_true name None e = cc
named_true name (Some its) e = let same : its ≡ name = cc in (bytes_eq-Decides its name).1 same

named_same : (name : List ℕ) (its : Naming) → is_named name its ≡ true → its ≡ Some name
named_same name None e = cc
named_same name (Some its) e = ap Some ((bytes_eq-Decides its name).0 e)

-- the first place with the name is this one, if no place before it has the name
first_named : (name : List ℕ) (label : Label) (count place gap at : ℕ) → at + gap ≡ place → place < count
    → is_named name (member_name label place) ≡ true
    → ((k : ℕ) → at ≤ k → k < place → is_named name (member_name label k) ≡ false)
    → place_named name label (count - at) at ≡ Some place
first_named name label count place zero at e more named others =
    let same : at ≡ place = omega (arith, e) in
    rw same (found_there name label count place more named)
first_named name label count place (suc gap) at e more named others =
    found_later name label count at (omega (arith, e, more)) (others at (omega arith) (omega (arith, e)))
    ∙ first_named name label count place gap (at + 1) (omega (arith, e)) more named
    (λ k low high. others k (omega (arith, low)) high)

member_inside : (members : Members) (place : ℕ) (part : Value) → member_at members place ≡ Some part →
    place < member_count members
member_inside NoMembers place part e = cc
member_inside (MemberThen value rest) zero part e = omega arith
member_inside (MemberThen value rest) (suc place) part e = omega (arith, member_inside rest place part e)
member_inside (AbsentThen rest) zero part e = cc
member_inside (AbsentThen rest) (suc place) part e = omega (arith, member_inside rest place part e)

leads_there : (read : Step) (value part : Value) (place : ℕ) → HasClearNames (label_of value)
    → member_at (members_of value) place ≡ Some part
    → step_of read ≡ step_at (label_of value) place → step_to read value ≡ Some part
leads_there (Field name) value part place clear at is =
    let label = label_of value in
    let its : member_name label place ≡ Some name.items =
    is_field (is_array label) (member_name label place) place name.items is in
    let others : (k : ℕ) → 0 ≤ k → k < place → is_named name.items (member_name label k) ≡ false =
    λ k low high. elim (cases_Bool (is_named name.items (member_name label k))) [
      | inl hit ↦ (let same : k ≡ place = clear.apart k place name.items
          (named_same name.items (member_name label k) hit) its in absurd (omega (arith, same, high)))
      | inr miss ↦ miss
    ] in
    let first = first_named name.items label (member_count (members_of value)) place place 0 (omega arith)
    (member_inside (members_of value) place part at) (named_true name.items (member_name label place) its) others in
    let all : member_count (members_of value) - 0 ≡ member_count (members_of value) = omega arith in
    ap (member_there value) (subst (λ count. place_named name.items label count 0 ≡ Some place) all first) ∙ at
leads_there (Place other) value part place clear at is =
    let p = is_place (is_array (label_of value)) (member_name (label_of value) place) place other is in
    rw (p.same, p.field, p.bare) at
leads_there (Element other) value part place clear at is =
    let p = is_element (is_array (label_of value)) (member_name (label_of value) place) place other is in
    rw (p.same, p.array_is) at

-- ---- steps

-- a text that is read as steps
record Reading (text : List ℕ) : Type 0 where
  steps : List PathStep
  are : AreSteps steps
  is : steps_text steps ≡ text

names_clear : (value : Value) → HasClearPaths value → HasClearNames (label_of value)
names_clear (Mapped label start end parts) h = h.0

count_few : (value : Value) → HasFewMembers value → member_count (members_of value) < 2 ^ 64
count_few (Mapped label start end parts) h = h.0

steps_read : {value found : Value} {places text : List ℕ} → HasClearPaths value → HasFewMembers value →
    LeadsBy value places text found → Reading text
steps_read clear few here = record { steps = []; are = tt; is = refl }
steps_read {value} clear few (further {part = part} {steps = steps} place parted at rest) =
    let label = label_of value in
    let names = names_clear value clear in
    let small : place < 2 ^ 64 = omega (arith, member_inside (members_of value) place part at, count_few value few) in
    let more =
    steps_read (member_has clear_each value part place clear at) (member_has few_each value part place few at) rest in
    record {
      steps = step_at label place ∷ more.steps;
      are = (
        is_step (is_array label) (member_name label place) place (λ word e. names.words place word e) small,
        more.are,
      );
      is = ap (λ t. t ++ steps_text more.steps) (step_is label place)
          ∙ ap (λ t. line.step_text label place ++ t) more.is;
    }

tail_same : {s t : PathStep} {ss ts : List PathStep} → s ∷ ss ≡ t ∷ ts → ss ≡ ts
tail_same e = cc

head_same : {s t : PathStep} {ss ts : List PathStep} → s ∷ ss ≡ t ∷ ts → s ≡ t
head_same e = cc

no_step : {s : PathStep} {ss : List PathStep} → s ∷ ss ≡ [] → ⊥
no_step e = cc

-- steps that are read as those of a part lead to it
steps_lead : {value found : Value} {places text : List ℕ} (clear : HasClearPaths value) (few : HasFewMembers value)
    (leads : LeadsBy value places text found) (read : List Step)
    → steps_of read ≡ (steps_read clear few leads).steps → part_of read value ≡ Some found
unfolding steps_read
steps_lead clear few here [] e = refl
steps_lead clear few here (step ∷ read) e = absurd (no_step e)
steps_lead clear few (further place parted at rest) [] e = absurd (no_step (sym e))
steps_lead {value} {found} clear few (further {part = part} place parted at rest) (step ∷ read) e =
    ap (part_from read) (leads_there step value part place (names_clear value clear) at (head_same e))
    ∙ steps_lead (member_has clear_each value part place clear at) (member_has few_each value part place few at)
    rest read (tail_same e)

-- ---- the whole path

not_nil : (byte : ℕ) (bytes : List ℕ) → byte ∷ bytes ≡ [] → ⊥
not_nil byte bytes e = cc

some_begins : (step : PathStep) (rest : List ℕ) → step_text step ++ rest ≡ [] → ⊥
some_begins (ToField name) rest e = not_nil 46 (name ++ rest) e
some_begins (ToNameless place) rest e = not_nil 46 _ e
some_begins (ToElement place) rest e = not_nil 91 _ e

-- the path of steps, as a text and as steps
path_is : (steps : List PathStep) (text : List ℕ) → AreSteps steps → steps_text steps ≡ text →
    path_text steps ≡ line.path_text text
path_is [] text are e = subst (λ t. codes "." ≡ line.path_text t) e refl
path_is (step ∷ steps) [] are e = absurd (some_begins step (steps_text steps) e)
path_is (step ∷ steps) (byte ∷ text) are e = e

pub paths_lead : PathsLeadToParts
paths_lead value l clear few is =
    let reading = steps_read clear few is.leads in
    let path : IsPath (line.path_text l.steps) reading.steps =
    (reading.are, path_is reading.steps l.steps reading.are reading.is) in
    record {
      steps = reading.steps;
      is = path;
      leads = λ read h.
          steps_lead clear few is.leads read (one_path (line.path_text l.steps) (steps_of read) reading.steps h path);
    }
