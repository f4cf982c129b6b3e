-- What is known of the types of a table, by their nodes.
use Rattle.std.proofs.Common.{◌≡◌, ◌<◌, ℕ, zero, suc, ◌+◌, ◌-◌, ◌++◌, Bool, true, false, ◌&&◌, List, [], ◌∷◌, length, map, take, drop, get_or, Some, Result, Ok, Err, IfOk, refl, sym, ◌∙◌, ap, subst, arith}
use Rattle.std.specs.Prelude.{slice_get, All}
use Rattle.command_line.specs.declared.path.Step.{Step}
use Rattle.command_line.specs.declared.pattern.Pattern.{Pattern}
use Rattle.command_line.specs.declared.pattern.PatternStep.{PatternStep}
use Rattle.command_line.specs.declared.selection.Column.{Column}
use Rattle.pickle_types.specs.declared.node.Node.{Node}
use Rattle.pickle_types.specs.declared.node.Field.{Field}
use Rattle.pickle_types.specs.declared.node.Part.{Part}
use Rattle.pickle_types.specs.Table.{IsTable, FieldsBelow, PartsBelow, type_of, open_fields, open_parts}
use Rattle.pickle_types.specs.Types.{PokeType}
use Rattle.std.proofs.lemmas.List.{map_more}
use Rattle.std.proofs.lemmas.List.Elements.{All-map}
use Rattle.std.proofs.lemmas.Option.{same_Some, slice_get-get_or}
use Rattle.pickle_types.proofs.Tables.{opens}
use Rattle.type_parts.specs.Members.{Member, fields_in, parts_in, field_member, part_member}
use Rattle.type_parts.specs.Twice.{two_parts, can_match_twice}
use Rattle.type_parts.specs.declared.member.Standing.{Standing}
use Rattle.type_parts.specs.CanHave.{Leading, some_member, is_known, MembersBelow, goal_at, AreKnown, of_step, of_pattern_step, some_part, by_path, by_pattern, any_type, can_have, can_have_each, can_have_columns}

there_is : {A : Type 0} (xs : List A) (i : ℕ) → i < length xs → (x : A) × (slice_get xs i ≡ Some x)
there_is [] i lt = absurd (omega arith)
there_is (x ∷ xs) zero lt = (x, refl)
there_is (x ∷ xs) (suc i) lt = there_is xs i (omega arith)

map_at : {A : Type 0} (f : A → Bool) (xs : List A) (i : ℕ) (x : A) (d : Bool) → slice_get xs i ≡ Some x →
    get_or (map f xs) i d ≡ f x
map_at f [] i x d e = cc
map_at f (y ∷ xs) zero x d e = cc
map_at f (y ∷ xs) (suc i) x d e = map_at f xs i x d e

same_length : {A : Type 0} (f : A → Bool) (xs : List A) → length (map f xs) ≡ length xs
same_length f [] = refl
same_length f (x ∷ xs) = ap suc (same_length f xs)

-- what is known at a node is whether its type is one of these
pub known_at : (nodes : List Node) (known : List Bool) (goal : PokeType → Bool) → IsTable nodes →
    AreKnown nodes known goal → (i : ℕ) (d : Bool) → i < length known → get_or known i d ≡ goal (type_of nodes i)
known_at nodes known goal table are i d lt =
    let node = there_is nodes i (omega (arith, ap length are, same_length (goal_at nodes goal) nodes)) in
    ap (λ ks. get_or ks i d) are ∙ map_at (goal_at nodes goal) nodes i node.0 d node.1
    ∙ ap goal (sym (opens nodes table i node.0 node.1))

-- an array's element
pub element_known : (leads : Bool) (nodes : List Node) (known : List Bool) (goal : PokeType → Bool) → IsTable nodes →
    AreKnown nodes known goal → (i : ℕ) → i < length known → leads ≡ true →
    get_or known i false ≡ (leads && goal (type_of nodes i))
element_known true nodes known goal table are i lt e = known_at nodes known goal table are i false lt
element_known false nodes known goal table are i lt e = cc

-- what holds of all holds of the first, and of those after it
pub all_first : {A : Type 0} (P : A → Type 0) (x : A) (xs : List A) → All P (x ∷ xs) → P x
all_first P x xs all = all 0 x (omega arith)

pub all_rest : {A : Type 0} (P : A → Type 0) (x : A) (xs : List A) → All P (x ∷ xs) → All P xs
all_rest P x xs all k d lt = all (suc k) d (omega (arith, lt))

pub fields_below : (count : ℕ) (fields : List Field) → FieldsBelow count fields →
    MembersBelow count (map field_member fields)
fields_below count fields below = All-map (λ (m : Member ℕ). m.type < count) field_member fields below

pub parts_below : (count : ℕ) (parts : List Part) → PartsBelow count parts → MembersBelow count (map part_member parts)
parts_below count parts below = All-map (λ (m : Member ℕ). m.type < count) part_member parts below

-- a member among others
pub member_below : {A : Type 0} (count : ℕ) (f : A → Member ℕ) (xs : List A) (k : ℕ) (x : A) →
    MembersBelow count (map f xs) → k < length xs → x ≡ get_or xs k x → (f x).type < count
member_below count f [] k x below lt is = absurd (omega (arith, lt))
member_below count f (y ∷ ys) zero x below lt is =
    subst (λ z. (f z).type < count) (sym is) (below 0 (f x) (omega arith))
member_below count f (y ∷ ys) (suc k) x below lt is =
    member_below count f ys k x (all_rest (λ (m : Member ℕ). m.type < count) (f y) (map f ys) below)
    (omega (arith, lt)) is

-- members in a table, by what is known of their nodes
module _ (leading : Leading) (standing : Standing) (nodes : List Node) (known : List Bool) (goal : PokeType → Bool)
    (table : IsTable nodes) (are : AreKnown nodes known goal) where
  pub fields_known : (fields : List Field) (number : ℕ) → FieldsBelow (length known) fields →
      some_member leading (is_known known) standing (map field_member fields) number
      ≡ some_member leading goal standing (fields_in (open_fields (type_of nodes) fields)) number
  fields_known [] number below = refl
  fields_known (field ∷ fields) number below =
      rw (
        known_at nodes known goal table are field.node false
            (all_first (λ f. f.node < length known) field fields below),
        fields_known fields (number + 1) (all_rest (λ f. f.node < length known) field fields below),
      ) refl

  pub parts_known : (parts : List Part) (number : ℕ) → PartsBelow (length known) parts →
      some_member leading (is_known known) standing (map part_member parts) number
      ≡ some_member leading goal standing (parts_in (open_parts (type_of nodes) parts)) number
  parts_known [] number below = refl
  parts_known (part ∷ parts) number below =
      rw (
        known_at nodes known goal table are part.node false (all_first (λ p. p.node < length known) part parts below),
        parts_known parts (number + 1) (all_rest (λ p. p.node < length known) part parts below),
      ) refl

-- what a step before others leads to
pub path_before : (nodes : List Node) (steps : List Step) (at : ℕ) (step : Step) (all : List Bool)
    (goal : PokeType → Bool) → 0 < at → drop (at - 1) steps ≡ step ∷ drop (at - 1 + 1) steps →
    AreKnown nodes all (some_part (of_step step) (by_path (drop at steps) goal)) →
    AreKnown nodes all (by_path (drop (at - 1) steps) goal)
path_before nodes steps at step all goal lt next are =
    let rest : at - 1 + 1 ≡ at = omega arith in
    subst (λ ss. AreKnown nodes all (by_path ss goal)) (sym (next ∙ ap (λ k. step ∷ drop k steps) rest)) are

pub pattern_before : (nodes : List Node) (steps : List PatternStep) (at : ℕ) (step : PatternStep) (all : List Bool)
    (goal : PokeType → Bool) → 0 < at → drop (at - 1) steps ≡ step ∷ drop (at - 1 + 1) steps →
    AreKnown nodes all (some_part (of_pattern_step step) (by_pattern (drop at steps) goal)) →
    AreKnown nodes all (by_pattern (drop (at - 1) steps) goal)
pattern_before nodes steps at step all goal lt next are =
    let rest : at - 1 + 1 ≡ at = omega arith in
    subst (λ ss. AreKnown nodes all (by_pattern ss goal)) (sym (next ∙ ap (λ k. step ∷ drop k steps) rest)) are

pub twice_before : (nodes : List Node) (steps : List PatternStep) (at : ℕ) (step : PatternStep) (all : List Bool) →
    0 < at → drop (at - 1) steps ≡ step ∷ drop (at - 1 + 1) steps →
    AreKnown nodes all (two_parts step (can_have (drop at steps)) (can_match_twice (drop at steps))) →
    AreKnown nodes all (can_match_twice (drop (at - 1) steps))
twice_before nodes steps at step all lt next are =
    let rest : at - 1 + 1 ≡ at = omega arith in
    subst (λ ss. AreKnown nodes all (can_match_twice ss)) (sym (next ∙ ap (λ k. step ∷ drop k steps) rest)) are

pub columns_before : (nodes : List Node) (row : List PatternStep) (columns : List Column) (at : ℕ) (column : Column)
    (all : List Bool) → 0 < at → drop (at - 1) columns ≡ column ∷ drop (at - 1 + 1) columns →
    AreKnown nodes all (λ type. by_pattern row (by_path column.path.steps.items any_type) type
    && can_have_columns row (drop at columns) type) →
    AreKnown nodes all (can_have_columns row (drop (at - 1) columns))
columns_before nodes row columns at column all lt next are =
    let rest : at - 1 + 1 ≡ at = omega arith in
    subst (λ cs. AreKnown nodes all (can_have_columns row cs)) (sym (next ∙ ap (λ k. column ∷ drop k columns) rest)) are

pub each_before : (nodes : List Node) (patterns : List Pattern) (at : ℕ) (pattern : Pattern) (all : List Bool) →
    0 < at → drop (at - 1) patterns ≡ pattern ∷ drop (at - 1 + 1) patterns →
    AreKnown nodes all (λ type. can_have pattern.steps.items type && can_have_each (drop at patterns) type) →
    AreKnown nodes all (can_have_each (drop (at - 1) patterns))
each_before nodes patterns at pattern all lt next are =
    let rest : at - 1 + 1 ≡ at = omega arith in
    subst (λ ps. AreKnown nodes all (can_have_each ps)) (sym (next ∙ ap (λ k. pattern ∷ drop k patterns) rest)) are

-- as many as there are nodes
pub known_count : (nodes : List Node) (known : List Bool) (goal : PokeType → Bool) → AreKnown nodes known goal →
    length known ≡ length nodes
known_count nodes known goal are = ap length are ∙ same_length (goal_at nodes goal) nodes

-- a fact of a result that is a value
pub ok_more : {T E : Type 0} {P Q : T → Type 0} (result : Result T E) → ((x : T) → P x → Q x) →
    IfOk result P → IfOk result Q
ok_more (Ok x) more h = more x h
ok_more (Err e) more h = tt

-- what is known of two questions is known of both, node by node
pub both_more : (nodes : List Node) (first second : List Bool) (one other : PokeType → Bool) →
    AreKnown nodes first one →
    AreKnown nodes second other → (at : ℕ) → at < length nodes → (all : List Bool) →
    all ≡ map (goal_at nodes (λ type. one type && other type)) (take at nodes) →
    (d e : Bool) → all ++ (get_or first at d && get_or second at e) ∷ []
    ≡ map (goal_at nodes (λ type. one type && other type)) (take (at + 1) nodes)
both_more nodes first second one other are are' at lt all so_far d e =
    let node = there_is nodes at lt in
    let f = goal_at nodes (λ type. one type && other type) in
    let same : get_or nodes at node.0 ≡ node.0 = same_Some _ _ (sym (slice_get-get_or nodes at node.0 lt) ∙ node.1) in
    let mine : get_or first at d ≡ goal_at nodes one node.0 =
    ap (λ ks. get_or ks at d) are ∙ map_at (goal_at nodes one) nodes at node.0 d node.1 in
    let others : get_or second at e ≡ goal_at nodes other node.0 =
    ap (λ ks. get_or ks at e) are' ∙ map_at (goal_at nodes other) nodes at node.0 e node.1 in
    ap (λ xs. xs ++ (get_or first at d && get_or second at e) ∷ []) so_far
    ∙ ap (λ b. map f (take at nodes) ++ (b && get_or second at e) ∷ []) mine
    ∙ ap (λ b. map f (take at nodes) ++ (goal_at nodes one node.0 && b) ∷ []) others
    ∙ ap (λ n. map f (take at nodes) ++ f n ∷ []) (sym same)
    ∙ sym (map_more f nodes at node.0 lt)
