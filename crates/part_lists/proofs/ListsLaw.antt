-- A path is listed exactly if values of the type can have a part to which it leads.
use Rattle.std.proofs.Common.{◌≡◌, ◌<◌, ◌≤◌, ◌↔◌, ℕ, zero, suc, ◌+◌, Bool, true, false, ◌&&◌, ◌||◌, ◌⊎◌, inl, inr, List, [], ◌∷◌, ◌++◌, length, map, Option, Some, None, refl, sym, ◌∙◌, ap, subst, arith}
use Rattle.std.specs.Prelude.{slice_get, nat_eq, Vec}
use Rattle.std.specs.declared.alloc.Global.{Global}
use Rattle.std.specs.List.{flat_map}
use Rattle.std.specs.Str.{bytes_eq}
use Rattle.std.proofs.lemmas.Bool.{eqb-true, eq-eqb}
use Rattle.std.proofs.lemmas.Slice.Eq.{bytes_eq-Decides}
use Rattle.pickle_types.specs.declared.node.Node.{Node}
use Rattle.pickle_types.specs.declared.node.Field.{Field}
use Rattle.pickle_types.specs.declared.node.Part.{Part as RustPart}
use Rattle.pickle_types.specs.declared.node.Shape.{Shape}
use Rattle.pickle_types.specs.declared.node.Shape.TheVariants as shape
use Rattle.pickle_types.specs.Table.{IsTable, name_of, type_of, type_at, open_found, open_shape, open_fields, open_parts}
use Rattle.pickle_types.specs.Types.{PokeType, StructOf, NoFields}
use Rattle.pickle_types.proofs.Tables.{opens}
use Rattle.pickle_meaning.specs.Values.{Naming}
use Rattle.command_line.specs.declared.pattern.PatternStep.{PatternStep}
use Rattle.type_parts.specs.CanHave.{Leading, of_pattern_step, some_member, some_part, by_pattern, any_type, can_have}
use Rattle.type_parts.specs.Members.{Member, fields_in, parts_in, field_member, part_member, place_of}
use Rattle.type_parts.specs.declared.member.Standing.{Standing}
use Rattle.type_parts.specs.declared.member.Standing.TheVariants.{Apart, Together}
use Rattle.part_lists.specs.Steps.{ListedStep, Named, Placed, Elements, member_step}
use Rattle.part_lists.specs.Listed.{Part, Next, behind, itself, parts_behind, parts_of, steps_at, steps_from, to_member, to_members}
use Rattle.part_lists.specs.Laws.{IsListedStep, of_name, of_place, of_elements, AreListedSteps, no_step, one_step, HasPath, ListsParts}

-- ---- paths among parts

has_first : (path : List ListedStep) (xs ys : List Part) → HasPath path xs → HasPath path (xs ++ ys)
has_first path [] ys has = absurd has
has_first path (part ∷ parts) ys (inl is) = inl is
has_first path (part ∷ parts) ys (inr has) = inr (has_first path parts ys has)

has_second : (path : List ListedStep) (xs ys : List Part) → HasPath path ys → HasPath path (xs ++ ys)
has_second path [] ys has = has
has_second path (part ∷ parts) ys has = inr (has_second path parts ys has)

has_either : (path : List ListedStep) (xs ys : List Part) → HasPath path (xs ++ ys) → HasPath path xs ⊎ HasPath path ys
has_either path [] ys has = inr has
has_either path (part ∷ parts) ys (inl is) = inl (inl is)
has_either path (part ∷ parts) ys (inr has) = more (has_either path parts ys has)
  where
    more : HasPath path parts ⊎ HasPath path ys → HasPath path (part ∷ parts) ⊎ HasPath path ys
    more (inl has) = inl (inr has)
    more (inr has) = inr has

has_behind : (step : ListedStep) (path : List ListedStep) (parts : List Part) → HasPath path parts →
    HasPath (step ∷ path) (map (behind step) parts)
has_behind step path [] has = has
has_behind step path (part ∷ parts) (inl is) = inl (ap (λ steps. step ∷ steps) is)
has_behind step path (part ∷ parts) (inr has) = inr (has_behind step path parts has)

same_step : (a b : ListedStep) (xs ys : List ListedStep) → a ∷ xs ≡ b ∷ ys → a ≡ b
same_step a b xs ys e = cc

same_rest : (a b : ListedStep) (xs ys : List ListedStep) → a ∷ xs ≡ b ∷ ys → xs ≡ ys
same_rest a b xs ys e = cc

is_behind : (step other : ListedStep) (path : List ListedStep) (parts : List Part) →
    HasPath (step ∷ path) (map (behind other) parts) → (other ≡ step) × HasPath path parts
is_behind step other path [] has = absurd has
is_behind step other path (part ∷ parts) (inl is) = (same_step _ _ _ _ is, inl (same_rest _ _ _ _ is))
is_behind step other path (part ∷ parts) (inr has) =
    let more = is_behind step other path parts has in (more.0, inr more.1)

-- ---- steps

bytes_same : (a b : List ℕ) → a ≡ b → bytes_eq a b ≡ true
bytes_same a b same = (bytes_eq-Decides a b).1 same

same_bytes : (a b : List ℕ) → bytes_eq a b ≡ true → a ≡ b
same_bytes a b eq = (bytes_eq-Decides a b).0 eq

nat_same : (a b : ℕ) → a ≡ b → nat_eq a b ≡ true
nat_same a b same = eq-eqb a b same

same_nat : (a b : ℕ) → nat_eq a b ≡ true → a ≡ b
same_nat a b eq = eqb-true a b eq

-- a step leads to a member exactly if it is listed as the step to that
leads_as : {step : PatternStep} {listed : ListedStep} → IsListedStep step listed → (name : Naming) (place : ℕ) →
    member_step name place ≡ listed → (of_pattern_step step).field name place ≡ true
leads_as (of_name {name}) (Some its) place is = bytes_same its name.items (named_is its name.items is)
  where
    named_is : (a b : List ℕ) → Named a ≡ Named b → a ≡ b
    named_is a b e = cc
leads_as (of_name {name}) None place is = cc
leads_as (of_place {place = at}) (Some its) place is = cc
leads_as (of_place {place = at}) None place is = rw (nat_same at place (sym (placed_is place at is))) refl
  where
    placed_is : (a b : ℕ) → Placed a ≡ Placed b → a ≡ b
    placed_is a b e = cc
leads_as of_elements (Some its) place is = cc
leads_as of_elements None place is = cc

is_step : {step : PatternStep} {listed : ListedStep} → IsListedStep step listed → (name : Naming) (place : ℕ) →
    (of_pattern_step step).field name place ≡ true → member_step name place ≡ listed
is_step (of_name {name}) (Some its) place leads = ap Named (same_bytes its name.items leads)
is_step (of_name {name}) None place leads = cc
is_step (of_place {place = at}) (Some its) place leads = cc_both (nat_eq at place) leads
  where
    cc_both : {A : Type 0} (b : Bool) → b && false ≡ true → A
    cc_both true e = absurd (false_true e)
      where
        false_true : false ≡ true → ⊥
        false_true f = cc
    cc_both false e = absurd (false_true e)
      where
        false_true : false ≡ true → ⊥
        false_true f = cc
is_step (of_place {place = at}) None place leads =
    ap Placed (sym (same_nat at place (first_of (nat_eq at place) leads)))
  where
    first_of : (b : Bool) → b && true ≡ true → b ≡ true
    first_of true e = refl
    first_of false e = cc
is_step of_elements name place leads = cc

leads_to_elements : {step : PatternStep} {listed : ListedStep} → IsListedStep step listed → Elements ≡ listed →
    (of_pattern_step step).element ≡ true
leads_to_elements of_name is = cc
leads_to_elements of_place is = cc
leads_to_elements of_elements is = refl

is_elements : {step : PatternStep} {listed : ListedStep} → IsListedStep step listed →
    (of_pattern_step step).element ≡ true → Elements ≡ listed
is_elements of_name leads = cc
is_elements of_place leads = cc
is_elements of_elements leads = refl

-- ---- members

both_true : (a b : Bool) → a ≡ true → b ≡ true → a && b ≡ true
both_true true b e f = f
both_true false b e f = cc

first_true : (a b : Bool) → a && b ≡ true → a ≡ true
first_true true b e = refl
first_true false b e = cc

second_true : (a b : Bool) → a && b ≡ true → b ≡ true
second_true true b e = e
second_true false b e = cc

either_first : (a b : Bool) → a ≡ true → a || b ≡ true
either_first true b e = refl
either_first false b e = cc

either_second : (a b : Bool) → b ≡ true → a || b ≡ true
either_second true b e = refl
either_second false b e = e

either_true : (a b : Bool) → a || b ≡ true → (a ≡ true) ⊎ (b ≡ true)
either_true true b e = inl refl
either_true false b e = inr e

module _ {step : PatternStep} {listed : ListedStep} (is : IsListedStep step listed) (path : List ListedStep)
    (parts : ℕ → List Part) (goal : ℕ → Bool) where
  -- the parts behind a member
  abbrev here : Standing → Member ℕ → (number : ℕ) → List Part
  here standing member number = map (behind (member_step member.name (place_of standing number))) (parts member.type)

  either_has : (standing : Standing) (member : Member ℕ) (number : ℕ) (there : List Part) (more : Bool) →
      ((node : ℕ) → goal node ≡ true → HasPath path (parts node)) → (more ≡ true → HasPath (listed ∷ path) there) →
      ((of_pattern_step step).field member.name (place_of standing number) && goal member.type ≡ true) ⊎ (more ≡ true) →
      HasPath (listed ∷ path) (here standing member number ++ there)
  either_has standing member number there more have others (inl leads) =
      has_first (listed ∷ path) (here standing member number) there
      (subst (λ s. HasPath (s ∷ path) (here standing member number))
      (is_step is member.name (place_of standing number) (first_true _ _ leads))
      (has_behind (member_step member.name (place_of standing number)) path (parts member.type)
      (have member.type (second_true _ _ leads))))
  either_has standing member number there more have others (inr leads) =
      has_second (listed ∷ path) (here standing member number) there (others leads)

  -- a path is listed behind members from which the rest of it is, and behind no others
  members_have : ((node : ℕ) → goal node ≡ true → HasPath path (parts node)) → (standing : Standing)
      (members : List (Member ℕ)) (number : ℕ) →
      some_member (of_pattern_step step) goal standing members number ≡ true →
      HasPath (listed ∷ path) (parts_behind parts (to_members standing members number))
  members_have have standing [] number some = cc
  members_have have standing (member ∷ rest) number some =
      either_has standing member number (parts_behind parts (to_members standing rest (number + 1)))
      (some_member (of_pattern_step step) goal standing rest (number + 1)) have
      (λ more. members_have have standing rest (number + 1) more) (either_true _ _ some)

  either_is : (standing : Standing) (member : Member ℕ) (number : ℕ) (there : List Part) (more : Bool) →
      ((node : ℕ) → HasPath path (parts node) → goal node ≡ true) → (HasPath (listed ∷ path) there → more ≡ true) →
      HasPath (listed ∷ path) (here standing member number) ⊎ HasPath (listed ∷ path) there →
      ((of_pattern_step step).field member.name (place_of standing number) && goal member.type) || more ≡ true
  either_is standing member number there more are others (inl has) =
      let first = is_behind listed (member_step member.name (place_of standing number)) path (parts member.type) has in
      either_first _ _ (both_true _ _ (leads_as is member.name (place_of standing number) first.0)
      (are member.type first.1))
  either_is standing member number there more are others (inr has) = either_second _ _ (others has)

  members_are : ((node : ℕ) → HasPath path (parts node) → goal node ≡ true) → (standing : Standing)
      (members : List (Member ℕ)) (number : ℕ) →
      HasPath (listed ∷ path) (parts_behind parts (to_members standing members number)) →
      some_member (of_pattern_step step) goal standing members number ≡ true
  members_are are standing [] number has = absurd has
  members_are are standing (member ∷ rest) number has =
      either_is standing member number (parts_behind parts (to_members standing rest (number + 1)))
      (some_member (of_pattern_step step) goal standing rest (number + 1)) are
      (λ more. members_are are standing rest (number + 1) more)
      (has_either (listed ∷ path) (here standing member number)
      (parts_behind parts (to_members standing rest (number + 1))) has)

-- ---- types

-- members in a table, by their types
module _ (leading : Leading) (standing : Standing) (at : ℕ → PokeType) (goal : PokeType → Bool) where
  fields_opened : (fields : List Field) (number : ℕ) →
      some_member leading (λ node. goal (at node)) standing (map field_member fields) number
      ≡ some_member leading goal standing (fields_in (open_fields at fields)) number
  fields_opened [] number = refl
  fields_opened (field ∷ fields) number =
      ap (λ b. (leading.field (name_of field.name) (place_of standing number) && goal (at field.node)) || b)
      (fields_opened fields (number + 1))

  parts_opened : (parts : List RustPart) (number : ℕ) →
      some_member leading (λ node. goal (at node)) standing (map part_member parts) number
      ≡ some_member leading goal standing (parts_in (open_parts at parts)) number
  parts_opened [] number = refl
  parts_opened (part ∷ parts) number =
      ap (λ b. (leading.field (name_of part.name) (place_of standing number) && goal (at part.node)) || b)
      (parts_opened parts (number + 1))

module _ {step : PatternStep} {listed : ListedStep} (is : IsListedStep step listed) (path : List ListedStep)
    (parts : ℕ → List Part) (at : ℕ → PokeType) (goal : PokeType → Bool) where
  shape_has : ((node : ℕ) → goal (at node) ≡ true → HasPath path (parts node)) → (of : Shape) →
      some_part (of_pattern_step step) goal (open_shape at of) ≡ true →
      HasPath (listed ∷ path) (parts_behind parts (steps_from of))
  shape_has have (shape.Integer type) some = cc
  shape_has have (shape.Offset type unit) some = cc
  shape_has have shape.String some = cc
  shape_has have (shape.Array element bound) some =
      has_first (listed ∷ path) (map (behind Elements) (parts element)) []
      (subst (λ s. HasPath (s ∷ path) (map (behind Elements) (parts element))) (is_elements is (first_true _ _ some))
      (has_behind Elements path (parts element) (have element (second_true _ _ some))))
  shape_has have (shape.Struct name pinned fields) some =
      members_have is path parts (λ node. goal (at node)) have Apart (map field_member fields.items) 0
      (fields_opened (of_pattern_step step) Apart at goal fields.items 0 ∙ some)
  shape_has have (shape.Integral name number inner) some =
      members_have is path parts (λ node. goal (at node)) have Apart (map part_member inner.items) 0
      (parts_opened (of_pattern_step step) Apart at goal inner.items 0 ∙ some)
  shape_has have (shape.Union name alternatives) some =
      members_have is path parts (λ node. goal (at node)) have Together (map part_member alternatives.items) 0
      (parts_opened (of_pattern_step step) Together at goal alternatives.items 0 ∙ some)

  shape_is : ((node : ℕ) → HasPath path (parts node) → goal (at node) ≡ true) → (of : Shape) →
      HasPath (listed ∷ path) (parts_behind parts (steps_from of)) →
      some_part (of_pattern_step step) goal (open_shape at of) ≡ true
  shape_is are (shape.Integer type) has = absurd has
  shape_is are (shape.Offset type unit) has = absurd has
  shape_is are shape.String has = absurd has
  shape_is are (shape.Array element bound) has =
      only (has_either (listed ∷ path) (map (behind Elements) (parts element)) [] has)
    where
      only : HasPath (listed ∷ path) (map (behind Elements) (parts element)) ⊎ ⊥ →
          (of_pattern_step step).element && goal (at element) ≡ true
      only (inl here) =
          let first = is_behind listed Elements path (parts element) here in
          both_true _ _ (leads_to_elements is first.0) (are element first.1)
      only (inr none) = absurd none
  shape_is are (shape.Struct name pinned fields) has =
      sym (fields_opened (of_pattern_step step) Apart at goal fields.items 0)
      ∙ members_are is path parts (λ node. goal (at node)) are Apart (map field_member fields.items) 0 has
  shape_is are (shape.Integral name number inner) has =
      sym (parts_opened (of_pattern_step step) Apart at goal inner.items 0)
      ∙ members_are is path parts (λ node. goal (at node)) are Apart (map part_member inner.items) 0 has
  shape_is are (shape.Union name alternatives) has =
      sym (parts_opened (of_pattern_step step) Together at goal alternatives.items 0)
      ∙ members_are is path parts (λ node. goal (at node)) are Together (map part_member alternatives.items) 0 has

-- ---- paths of so many levels

-- past the nodes
type_past : (nodes : List Node) (at : ℕ) → slice_get nodes at ≡ None → type_of nodes at ≡ StructOf None false NoFields
unfolding type_of type_at
type_past nodes at past = ap (open_found (type_at nodes at)) past

module _ {step : PatternStep} {listed : ListedStep} (is : IsListedStep step listed) (path : List ListedStep)
    (nodes : List Node) (table : IsTable nodes) (levels : ℕ) (goal : PokeType → Bool) where
  node_has : ((node : ℕ) → goal (type_of nodes node) ≡ true → HasPath path (parts_of nodes levels node)) → (at : ℕ)
      (found : Option Node) → slice_get nodes at ≡ found →
      some_part (of_pattern_step step) goal (type_of nodes at) ≡ true →
      HasPath (listed ∷ path) (parts_behind (parts_of nodes levels) (steps_at found))
  node_has have at None there some =
      absurd (never (sym (ap (some_part (of_pattern_step step) goal) (type_past nodes at there)) ∙ some))
    where
      never : false ≡ true → ⊥
      never e = cc
  node_has have at (Some node) there some =
      shape_has is path (parts_of nodes levels) (type_of nodes) goal have node.shape
      (sym (ap (some_part (of_pattern_step step) goal) (opens nodes table at node there)) ∙ some)

  node_is : ((node : ℕ) → HasPath path (parts_of nodes levels node) → goal (type_of nodes node) ≡ true) → (at : ℕ)
      (found : Option Node) → slice_get nodes at ≡ found →
      HasPath (listed ∷ path) (parts_behind (parts_of nodes levels) (steps_at found)) →
      some_part (of_pattern_step step) goal (type_of nodes at) ≡ true
  node_is are at None there has = absurd has
  node_is are at (Some node) there has =
      ap (some_part (of_pattern_step step) goal) (opens nodes table at node there)
      ∙ shape_is is path (parts_of nodes levels) (type_of nodes) goal are node.shape has

not_root : (listed : ListedStep) (path : List ListedStep) → [] ≡ listed ∷ path → ⊥
not_root listed path e = cc

has_parts : (nodes : List Node) (levels at : ℕ) (steps : List PatternStep) (path : List ListedStep) → IsTable nodes →
    AreListedSteps steps path → length steps ≤ levels → can_have steps (type_of nodes at) ≡ true →
    HasPath path (parts_of nodes levels at)
unfolding parts_of
has_parts nodes zero at [] path table no_step within can = inl refl
has_parts nodes (suc levels) at [] path table no_step within can = inl refl
has_parts nodes zero at (step ∷ steps) path table are within can = absurd (omega (arith, within))
has_parts nodes (suc levels) at (step ∷ steps) path table (one_step {path = rest} is are) within can =
    inr (node_has is rest nodes table levels (can_have steps)
    (λ node more. has_parts nodes levels node steps rest table are (omega (arith, within)) more)
    at (slice_get nodes at) refl
    can)

are_parts : (nodes : List Node) (levels at : ℕ) (steps : List PatternStep) (path : List ListedStep) → IsTable nodes →
    AreListedSteps steps path → HasPath path (parts_of nodes levels at) → can_have steps (type_of nodes at) ≡ true
unfolding parts_of
are_parts nodes levels at [] path table no_step has = refl
are_parts nodes zero at (step ∷ steps) path table (one_step is are) (inl none) = absurd (not_root _ _ none)
are_parts nodes zero at (step ∷ steps) path table (one_step is are) (inr none) = absurd none
are_parts nodes (suc levels) at (step ∷ steps) path table (one_step is are) (inl none) = absurd (not_root _ _ none)
are_parts nodes (suc levels) at (step ∷ steps) path table (one_step {path = rest} is are) (inr has) =
    node_is is rest nodes table levels (can_have steps)
    (λ node more. are_parts nodes levels node steps rest table are more) at (slice_get nodes at) refl has

-- ---- no path has more levels

short_behind : (bound : ℕ) (step : ListedStep) (path : List ListedStep) (parts : List Part) →
    ((rest : List ListedStep) → HasPath rest parts → length rest ≤ bound) → HasPath path (map (behind step) parts) →
    length path ≤ suc bound
short_behind bound step path [] short has = absurd has
short_behind bound step path (part ∷ parts) short (inl is) =
    let own = short part.steps (inl refl) in
    subst (λ steps. length steps ≤ suc bound) is (omega (arith, own))
short_behind bound step path (part ∷ parts) short (inr has) =
    short_behind bound step path parts (λ rest more. short rest (inr more)) has

short_either : (bound : ℕ) (next : Next) (path : List ListedStep) (here there : List Part) →
    ((rest : List ListedStep) → HasPath rest here → length rest ≤ bound)
    → (HasPath path there → length path ≤ suc bound)
    → HasPath path (map (behind next.step) here) ⊎ HasPath path there → length path ≤ suc bound
short_either bound next path here there short others (inl has) = short_behind bound next.step path here short has
short_either bound next path here there short others (inr has) = others has

short_all : (bound : ℕ) (nexts : List Next) (path : List ListedStep) (parts : ℕ → List Part) →
    ((node : ℕ) (rest : List ListedStep) → HasPath rest (parts node) → length rest ≤ bound) →
    HasPath path (parts_behind parts nexts) → length path ≤ suc bound
short_all bound [] path parts short has = absurd has
short_all bound (next ∷ rest) path parts short has =
    short_either bound next path (parts next.node) (parts_behind parts rest) (short next.node)
    (λ more. short_all bound rest path parts short more)
    (has_either path (map (behind next.step) (parts next.node)) (parts_behind parts rest) has)

short_parts : (nodes : List Node) (levels at : ℕ) (path : List ListedStep) → HasPath path (parts_of nodes levels at) →
    length path ≤ levels
unfolding parts_of
short_parts nodes zero at path (inl is) = subst (λ steps. length steps ≤ 0) is (omega arith)
short_parts nodes zero at path (inr none) = absurd none
short_parts nodes (suc levels) at path (inl is) = subst (λ steps. length steps ≤ suc levels) is (omega arith)
short_parts nodes (suc levels) at path (inr has) =
    short_all levels (steps_at (slice_get nodes at)) path (parts_of nodes levels)
    (λ node rest more. short_parts nodes levels node rest more) has

same_length : (steps : List PatternStep) (path : List ListedStep) → AreListedSteps steps path →
    length steps ≡ length path
same_length [] path no_step = refl
same_length (step ∷ steps) path (one_step {path = rest} is are) = ap suc (same_length steps rest are)

pub lists_parts : ListsParts
lists_parts nodes node levels steps path table are = (
  λ has. (
    let short = short_parts nodes levels node path has in
        let same = same_length steps path are in
        omega (arith, short, same),
    are_parts nodes levels node steps path table are has,
  ),
  λ both. has_parts nodes levels node steps path table are both.0 both.1,
)
