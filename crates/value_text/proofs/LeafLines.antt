-- The lines of a value: one for each part that has no parts itself, in order, each under a path that leads to its part.
use Rattle.std.proofs.Common.{◌≡◌, ◌∙◌, ℕ, zero, suc, ◌+◌, ◌≤◌, true, false, List, [], ◌∷◌, ◌++◌, Some, None, refl, inl, inr, sym, ap, subst, arith}
use Rattle.std.specs.Prelude.{Contains, if◌then◌else◌}
use Rattle.std.proofs.lemmas.Bool.{cases_Bool}
use Rattle.std.proofs.lemmas.List.{append-nil, append_assoc}
use Rattle.std.proofs.lemmas.List.Elements.{Contains-append_left, Contains-append_right}
use Rattle.pickle_meaning.specs.Values.{Label, Value, Mapped, Members, NoMembers, MemberThen, AbsentThen, label_of, members_of, member_at}
use Rattle.value_text.specs.PathText.{step_text}
use Rattle.text_output.specs.Styles.{plain}
use Rattle.value_text.specs.LinesText.{is_parted}
use Rattle.value_text.specs.StyledLeaves.{styled_leaf, styled_leaves, styled_branches}
use Rattle.value_text.proofs.Cuts.{plain_limit}
use Rattle.value_text.specs.LineParts.{LeadsBy, here, further, Line, IsBefore, lower, deeper, IsBeforeAll, AreInOrder, AreLinesOf, lines_text}
use Rattle.value_text.specs.Laws.{LinesNameParts}

-- ---- the lines as data

-- a line of a part, as one of the value that has the part at a place
abbrev over : (place : ℕ) (step : List ℕ) → Line → Line
over place step line = record { places = place ∷ line.places; steps = step ++ line.steps; part = line.part }

abbrev all_over : (place : ℕ) (step : List ℕ) → List Line → List Line
all_over place step [] = []
all_over place step (line ∷ lines) = over place step line ∷ all_over place step lines

-- the line of the value itself
abbrev own_line : Value → Line
own_line value = record { places = []; steps = []; part = value }

abbrev mutual
  lines_in : Value → List Line
  lines_in (Mapped label start end all) =
      if is_parted label all then lines_among label 0 all else own_line (Mapped label start end all) ∷ []

  lines_among : Label → (place : ℕ) → Members → List Line
  lines_among label place NoMembers = []
  lines_among label place (AbsentThen rest) = lines_among label (suc place) rest
  lines_among label place (MemberThen value rest) =
      all_over place (step_text label place) (lines_in value) ++ lines_among label (suc place) rest

-- ---- their text

-- the text of lines of a part to which steps lead
abbrev text_behind : (steps : List ℕ) → List Line → List ℕ
text_behind steps [] = []
text_behind steps (line ∷ lines) = styled_leaf plain (steps ++ line.steps) line.part ++ text_behind steps lines

behind_append : (steps : List ℕ) (a b : List Line) →
    text_behind steps (a ++ b) ≡ text_behind steps a ++ text_behind steps b
behind_append steps [] b = refl
behind_append steps (line ∷ a) b =
    ap (λ t. styled_leaf plain (steps ++ line.steps) line.part ++ t) (behind_append steps a b)
    ∙ sym (append_assoc (styled_leaf plain (steps ++ line.steps) line.part) (text_behind steps a) (text_behind steps b))

behind_over : (steps : List ℕ) (place : ℕ) (step : List ℕ) (lines : List Line) →
    text_behind steps (all_over place step lines) ≡ text_behind (steps ++ step) lines
behind_over steps place step [] = refl
behind_over steps place step (line ∷ lines) =
    ap (λ s. styled_leaf plain s line.part ++ text_behind steps (all_over place step lines))
    (sym (append_assoc steps step line.steps))
    ∙ ap (λ t. styled_leaf plain ((steps ++ step) ++ line.steps) line.part ++ t) (behind_over steps place step lines)

behind_none : (lines : List Line) → text_behind [] lines ≡ lines_text lines
behind_none [] = refl
behind_none (line ∷ lines) = ap (λ t. styled_leaf plain line.steps line.part ++ t) (behind_none lines)

mutual
  leaves_are : (steps : List ℕ) (value : Value) → styled_leaves plain steps value ≡ text_behind steps (lines_in value)
  leaves_are steps (Mapped label start end all) = elim (cases_Bool (is_parted label all)) [
    | inl hit ↦ rw (hit, plain_limit label) (branches_are steps (Mapped label start end all) 0 all)
    | inr miss ↦ rw miss (ap (λ s. styled_leaf plain s (Mapped label start end all)) (sym (append-nil steps))
        ∙ sym (append-nil (styled_leaf plain (steps ++ []) (Mapped label start end all))))
  ]

  branches_are : (steps : List ℕ) (owner : Value) (place : ℕ) (rest : Members) →
      styled_branches plain None steps owner place rest ≡ text_behind steps (lines_among (label_of owner) place rest)
  branches_are steps owner place NoMembers = refl
  branches_are steps owner place (AbsentThen rest) = branches_are steps owner (suc place) rest
  branches_are steps owner place (MemberThen value rest) =
      let step = step_text (label_of owner) place in
      let front : styled_leaves plain (steps ++ step) value ≡ text_behind steps (all_over place step (lines_in value)) =
      leaves_are (steps ++ step) value ∙ sym (behind_over steps place step (lines_in value)) in
      ap (λ t. t ++ styled_branches plain None steps owner (suc place) rest) front
      ∙ ap (λ t. text_behind steps (all_over place step (lines_in value)) ++ t)
      (branches_are steps owner (suc place) rest)
      ∙ sym (behind_append steps (all_over place step (lines_in value))
      (lines_among (label_of owner) (suc place) rest))

-- ---- each is that of a part without parts

are_append : (value : Value) (a b : List Line) → AreLinesOf value a → AreLinesOf value b → AreLinesOf value (a ++ b)
are_append value [] b h g = g
are_append value (line ∷ a) b h g = (h.0, are_append value a b h.1 g)

are_over : (value part : Value) (place : ℕ) (lines : List Line) → is_parted (label_of value) (members_of value) ≡ true
    → member_at (members_of value) place ≡ Some part
    → AreLinesOf part lines → AreLinesOf value (all_over place (step_text (label_of value) place) lines)
are_over value part place [] parted at h = tt
are_over value part place (line ∷ lines) parted at h = (
  record { leads = further place parted at h.0.leads; bare = h.0.bare },
  are_over value part place lines parted at h.1,
)

mutual
  lines_are : (value : Value) → AreLinesOf value (lines_in value)
  lines_are (Mapped label start end all) = elim (cases_Bool (is_parted label all)) [
    | inl hit ↦ rw hit (among_are (Mapped label start end all) 0 all hit (λ k. ap (member_at all) (omega arith)))
    | inr miss ↦ rw miss (record { leads = here; bare = miss }, tt)
  ]

  among_are : (owner : Value) (i : ℕ) (rest : Members) → is_parted (label_of owner) (members_of owner) ≡ true
      → ((k : ℕ) → member_at (members_of owner) (i + k) ≡ member_at rest k)
      → AreLinesOf owner (lines_among (label_of owner) i rest)
  among_are owner i NoMembers parted at = tt
  among_are owner i (AbsentThen rest) parted at =
      among_are owner (suc i) rest parted (λ k. ap (member_at (members_of owner)) (omega arith) ∙ at (suc k))
  among_are owner i (MemberThen value rest) parted at =
      let is : member_at (members_of owner) i ≡ Some value = ap (member_at (members_of owner)) (omega arith) ∙ at 0 in
      are_append owner (all_over i (step_text (label_of owner) i) (lines_in value))
      (lines_among (label_of owner) (suc i) rest)
      (are_over owner value i (lines_in value) parted is (lines_are value))
      (among_are owner (suc i) rest parted (λ k. ap (member_at (members_of owner)) (omega arith) ∙ at (suc k)))

-- ---- each such part is there

contains_over : (place : ℕ) (step : List ℕ) (lines : List Line) (line : Line) → Contains lines line →
    Contains (all_over place step lines) (over place step line)
contains_over place step [] line h = absurd (omega (arith, h.1))
contains_over place step (first ∷ lines) line (zero, k, e) = (0, omega arith, ap (over place step) e)
contains_over place step (first ∷ lines) line (suc i, k, e) =
    let more = contains_over place step lines line (i, omega (arith, k), e) in
    (suc more.0, omega (arith, more.1), more.2)

contains_among : (label : Label) (i : ℕ) (rest : Members) (k : ℕ) (part : Value) (line : Line)
    → member_at rest k ≡ Some part → Contains (lines_in part) line
    → Contains (lines_among label i rest) (over (i + k) (step_text label (i + k)) line)
contains_among label i NoMembers k part line at h = cc
contains_among label i (AbsentThen rest) zero part line at h = cc
contains_among label i (AbsentThen rest) (suc k) part line at h =
    let e : suc i + k ≡ i + suc k = omega arith in
    subst (λ n. Contains (lines_among label (suc i) rest) (over n (step_text label n) line)) e
    (contains_among label (suc i) rest k part line at h)
contains_among label i (MemberThen value rest) zero part line at h =
    let same : part ≡ value = cc in
    let e : i ≡ i + 0 = omega arith in
    let there : Contains (lines_in value) line = subst (λ v. Contains (lines_in v) line) same h in
    subst (λ n. Contains (all_over i (step_text label i) (lines_in value) ++ lines_among label (suc i) rest)
    (over n (step_text label n) line)) e
    (Contains-append_left (all_over i (step_text label i) (lines_in value)) (lines_among label (suc i) rest)
    (over i (step_text label i) line)
    (contains_over i (step_text label i) (lines_in value) line there))
contains_among label i (MemberThen value rest) (suc k) part line at h =
    let e : suc i + k ≡ i + suc k = omega arith in
    subst (λ n. Contains (all_over i (step_text label i) (lines_in value) ++ lines_among label (suc i) rest)
    (over n (step_text label n) line)) e
    (Contains-append_right (all_over i (step_text label i) (lines_in value)) (lines_among label (suc i) rest)
    (over (suc i + k) (step_text label (suc i + k)) line)
    (contains_among label (suc i) rest k part line at h))

-- a value without parts has its own line
own_is : (value : Value) → is_parted (label_of value) (members_of value) ≡ false →
    Contains (lines_in value) (own_line value)
own_is (Mapped label start end all) miss = rw miss (0, omega arith, refl)

-- a line of a part is one of the value that has it
inside_is : (value part : Value) (place : ℕ) (line : Line) → is_parted (label_of value) (members_of value) ≡ true
    → member_at (members_of value) place ≡ Some part
    → Contains (lines_in part) line → Contains (lines_in value) (over place (step_text (label_of value) place) line)
inside_is (Mapped label start end all) part place line hit at h =
    let e : 0 + place ≡ place = omega arith in
    rw hit (subst (λ n. Contains (lines_among label 0 all) (over n (step_text label n) line)) e
    (contains_among label 0 all place part line at h))

all_there : {value found : Value} {places steps : List ℕ} → LeadsBy value places steps found
    → is_parted (label_of found) (members_of found) ≡ false
    → Contains (lines_in value) (record { places = places; steps = steps; part = found })
all_there {value} here bare = own_is value bare
all_there {value} {found} (further {part = part} {places = places} {steps = steps} place parted at rest) bare =
    inside_is value part place (record { places = places; steps = steps; part = found }) parted at (all_there rest bare)

-- ---- in order

-- lines of parts at a place or further on
abbrev StartFrom : (place : ℕ) → List ℕ → Type 0
StartFrom place [] = ⊥
StartFrom place (first ∷ places) = place ≤ first

abbrev AllStartFrom : (place : ℕ) → List Line → Type 0
AllStartFrom place [] = Unit {0}
AllStartFrom place (line ∷ lines) = StartFrom place line.places × AllStartFrom place lines

start_append : (place : ℕ) (a b : List Line) → AllStartFrom place a → AllStartFrom place b → AllStartFrom place (a ++ b)
start_append place [] b h g = g
start_append place (line ∷ a) b h g = (h.0, start_append place a b h.1 g)

start_over : (place at : ℕ) (step : List ℕ) (lines : List Line) → place ≤ at →
    AllStartFrom place (all_over at step lines)
start_over place at step [] h = tt
start_over place at step (line ∷ lines) h = (h, start_over place at step lines h)

start_weaker : (place : ℕ) (lines : List Line) → AllStartFrom (suc place) lines → AllStartFrom place lines
start_weaker place [] h = tt
start_weaker place (line ∷ lines) h = (one line.places h.0, start_weaker place lines h.1)
  where
    one : (places : List ℕ) → StartFrom (suc place) places → StartFrom place places
    one [] h = h
    one (first ∷ places) h = omega (arith, h)

among_start : (label : Label) (place : ℕ) (rest : Members) → AllStartFrom place (lines_among label place rest)
among_start label place NoMembers = tt
among_start label place (AbsentThen rest) =
    start_weaker place (lines_among label (suc place) rest) (among_start label (suc place) rest)
among_start label place (MemberThen value rest) =
    start_append place (all_over place (step_text label place) (lines_in value)) (lines_among label (suc place) rest)
    (start_over place place (step_text label place) (lines_in value) (omega arith))
    (start_weaker place (lines_among label (suc place) rest) (among_start label (suc place) rest))

-- a line of a part is before those of the parts further on
lower_all : (place : ℕ) (places : List ℕ) (lines : List Line) → AllStartFrom (suc place) lines →
    IsBeforeAll (place ∷ places) lines
lower_all place places [] h = tt
lower_all place places (line ∷ lines) h = (one line.places h.0, lower_all place places lines h.1)
  where
    one : (others : List ℕ) → StartFrom (suc place) others → IsBefore (place ∷ places) others
    one [] h = absurd h
    one (first ∷ others) h = lower (omega (arith, h))

deeper_all : (place : ℕ) (step : List ℕ) (places : List ℕ) (lines : List Line) → IsBeforeAll places lines →
    IsBeforeAll (place ∷ places) (all_over place step lines)
deeper_all place step places [] h = tt
deeper_all place step places (line ∷ lines) h = (deeper h.0, deeper_all place step places lines h.1)

before_append : (places : List ℕ) (a b : List Line) → IsBeforeAll places a → IsBeforeAll places b →
    IsBeforeAll places (a ++ b)
before_append places [] b h g = g
before_append places (line ∷ a) b h g = (h.0, before_append places a b h.1 g)

order_append : (place : ℕ) (step : List ℕ) (lines b : List Line) → AreInOrder lines → AreInOrder b →
    AllStartFrom (suc place) b → AreInOrder (all_over place step lines ++ b)
order_append place step [] b h g far = g
order_append place step (line ∷ lines) b h g far = (
  before_append (place ∷ line.places) (all_over place step lines) b (deeper_all place step line.places lines h.0)
      (lower_all place line.places b far),
  order_append place step lines b h.1 g far,
)

mutual
  in_order : (value : Value) → AreInOrder (lines_in value)
  in_order (Mapped label start end all) = elim (cases_Bool (is_parted label all)) [
    | inl hit ↦ rw hit (among_in_order label 0 all)
    | inr miss ↦ rw miss (tt, tt)
  ]

  among_in_order : (label : Label) (place : ℕ) (rest : Members) → AreInOrder (lines_among label place rest)
  among_in_order label place NoMembers = tt
  among_in_order label place (AbsentThen rest) = among_in_order label (suc place) rest
  among_in_order label place (MemberThen value rest) =
      order_append place (step_text label place) (lines_in value) (lines_among label (suc place) rest) (in_order value)
      (among_in_order label (suc place) rest)
      (among_start label (suc place) rest)

pub lines_name_parts : LinesNameParts
lines_name_parts value = record {
  lines = lines_in value;
  are = lines_are value;
  all = λ line h. all_there h.leads h.bare;
  order = in_order value;
  is = leaves_are [] value ∙ behind_none (lines_in value);
}
