-- Types whose expressions are well typed, along the tree of the type and the form that means it.
use Rattle.std.proofs.Common.{◌≡◌, ℕ, ◌+◌, Bool, List, [], Option, Some, None, sym, ◌∙◌, subst}
use Rattle.pickle_tree.specs.Tree.{Tree, TreeReference, Called, FieldParts, FormTree, Plain, StringForm, OffsetForm, ArrayForm, StructForm, IntegralForm, UnionForm, FieldTrees, DeclarationTree}
use Rattle.pickle_tree.specs.Tree as tree
use Rattle.pickle_types.specs.declared.integer.IntegerType.{IntegerType}
use Rattle.pickle_types.specs.Types.{Term, Bound, Unbounded, ByCount, BySize, PokeType, IntegerOf, OffsetOf, StringOf, ArrayOf, StructOf, IntegralOf, UnionOf, Fields, NoFields, FieldThen, Parts, NoParts, PartThen}
use Rattle.pickle_types.specs.Scopes.{Visible, sees}
use Rattle.pickle_types.specs.Names.{Names}
use Rattle.pickle_types.specs.Expressions.{Sort, Typed}
use Rattle.pickle_types.specs.WellTyped.{HasSort, HasWidth}
use Rattle.pickle_meaning.specs.Values.{Levels}
use Rattle.type_soundness.specs.Evaluated.{Scope, form_of}
use Rattle.type_soundness.specs.MappingLaws.{ScopeFits}
use Rattle.type_soundness.proofs.Levels.{unseen_scope}

-- an expression that is written so has a sort by the rules
pub record HasTree (seen : List Visible) (count : ℕ) (written : Option Tree) (e : Term) (sort : Sort) : Type 0 where
  pub names : Names
  pub tree : Tree
  pub is : written ≡ Some tree
  pub typed : HasSort names seen count tree e sort

abbrev pub TruthFits : List Visible → ℕ → Option Tree → Option Term → Type 0
TruthFits seen count written None = Unit {0}
TruthFits seen count written (Some e) = (w : IntegerType) × HasTree seen count written e (Typed (IntegerOf w))

abbrev pub LabelFits : List Visible → ℕ → Option Tree → Option Term → Type 0
LabelFits seen count written None = Unit {0}
LabelFits seen count written (Some e) =
    (w : IntegerType) × (unit : ℕ) × HasTree seen count written e (Typed (OffsetOf w unit))

abbrev pub BoundFits : List Visible → ℕ → Option Tree → Bound → Type 0
BoundFits seen count written Unbounded = Unit {0}
BoundFits seen count written (ByCount e) = (w : IntegerType) × HasTree seen count written e (Typed (IntegerOf w))
BoundFits seen count written (BySize e) =
    (w : IntegerType) × (unit : ℕ) × HasTree seen count written e (Typed (OffsetOf w unit))

-- a form leads to another, which sees what is visible around it, or nothing where it is reached by a name
pub data Leads (declarations : List DeclarationTree) : List Visible → ℕ → FormTree → List Visible → ℕ →
    FormTree → Type 0 where
  here : {seen : List Visible} {count : ℕ} {form : FormTree} → Leads declarations seen count form seen count form
  by_name : {seen inner : List Visible} {count c : ℕ} {word : List ℕ} {form g : FormTree} →
      form_of word declarations ≡ Some form → Leads declarations [] 0 form inner c g →
      Leads declarations seen count (Plain (Called word)) inner c g

unfoldable mutual
  -- a type that a form means, where these fields are visible and so many frames are open
  pub IsWell : List DeclarationTree → PokeType → FormTree → List Visible → ℕ → Type 0
  IsWell declarations (IntegerOf type) form seen count = Unit {0}
  IsWell declarations (OffsetOf type unit) form seen count = Unit {0}
  IsWell declarations StringOf form seen count = Unit {0}
  IsWell declarations (ArrayOf element bound) form seen count =
      (inner : List Visible) × (c : ℕ) × (f : FormTree) × (written : Option Tree)
      × Leads declarations seen count form inner c (ArrayForm f written) × IsWell declarations element f inner (c + 1)
      × BoundFits inner c written bound
  IsWell declarations (StructOf name pinned fields) form seen count =
      (inner : List Visible) × (c : ℕ) × (forms : FieldTrees)
      × Leads declarations seen count form inner c (StructForm pinned forms)
      × FieldsWell declarations fields forms inner c 0
  IsWell declarations (IntegralOf name type fields) form seen count =
      (inner : List Visible) × (c : ℕ) × (reference : TreeReference) × (forms : FieldTrees)
      × Leads declarations seen count form inner c (IntegralForm reference forms)
      × PartsWell declarations fields forms inner c 0
  IsWell declarations (UnionOf name alternatives) form seen count =
      (inner : List Visible) × (c : ℕ) × (forms : FieldTrees)
      × Leads declarations seen count form inner c (UnionForm forms)
      × AlternativesWell declarations alternatives forms inner c

  -- fields of a struct, after n others
  pub FieldsWell : List DeclarationTree → Fields → FieldTrees → List Visible → (count n : ℕ) → Type 0
  FieldsWell declarations NoFields forms seen count n = Unit {0}
  FieldsWell declarations (FieldThen name order type c l d rest) tree.NoFields seen count n = ⊥
  FieldsWell declarations (FieldThen name order type c l d rest) (tree.FieldThen form parts forms) seen count n =
      IsWell declarations type form seen (count + 1) × LabelFits seen (count + 1) parts.label l
      × TruthFits seen (count + 1) parts.condition d
      × TruthFits (sees seen count n name type) (count + 1) parts.constraint c
      × FieldsWell declarations rest forms (sees seen count n name type) count (n + 1)

  -- fields of an integral struct, after n others
  pub PartsWell : List DeclarationTree → Parts → FieldTrees → List Visible → (count n : ℕ) → Type 0
  PartsWell declarations NoParts forms seen count n = Unit {0}
  PartsWell declarations (PartThen name order type c rest) tree.NoFields seen count n = ⊥
  PartsWell declarations (PartThen name order type c rest) (tree.FieldThen form parts forms) seen count n =
      HasWidth type × IsWell declarations type form seen (count + 1)
      × TruthFits (sees seen count n name type) (count + 1) parts.constraint c
      × PartsWell declarations rest forms (sees seen count n name type) count (n + 1)

  -- alternatives, which see nothing of one another
  pub AlternativesWell : List DeclarationTree → Parts → FieldTrees → List Visible → (count : ℕ) → Type 0
  AlternativesWell declarations NoParts forms seen count = Unit {0}
  AlternativesWell declarations (PartThen name order type c rest) tree.NoFields seen count = ⊥
  AlternativesWell declarations (PartThen name order type c rest) (tree.FieldThen form parts forms) seen count =
      IsWell declarations type form seen (count + 1)
      × TruthFits (sees seen count 0 name type) (count + 1) parts.constraint c
      × AlternativesWell declarations rest forms seen count

-- ---- where a form leads

-- what may be named where a form leads
abbrev pub scope_in : {declarations : List DeclarationTree} {seen inner : List Visible} {count c : ℕ}
    {form g : FormTree} → Leads declarations seen count form inner c g → Scope → Scope
scope_in here scope = scope
scope_in (by_name e l) scope = scope_in l []

pub leads_scope : {declarations : List DeclarationTree} {seen inner : List Visible} {count c : ℕ} {form g : FormTree}
    (l : Leads declarations seen count form inner c g) (scope : Scope) (levels : Levels) →
    ScopeFits scope seen count levels → ScopeFits (scope_in l scope) inner c levels
leads_scope here scope levels ok = ok
leads_scope (by_name e l) scope levels ok = leads_scope l [] levels (unseen_scope [] levels)

-- a form that is no name
abbrev IsOwn : FormTree → Type 0
IsOwn (Plain reference) = ⊥
IsOwn StringForm = Unit {0}
IsOwn (OffsetForm reference unit) = Unit {0}
IsOwn (ArrayForm element bound) = Unit {0}
IsOwn (StructForm pinned forms) = Unit {0}
IsOwn (IntegralForm reference forms) = Unit {0}
IsOwn (UnionForm alternatives) = Unit {0}

same_some : (f g : FormTree) → Some f ≡ Some g → f ≡ g
same_some f g e = cc

-- a step over a name
stepped : {declarations : List DeclarationTree} {seen inner : List Visible} {count c : ℕ} {word : List ℕ} {g : FormTree}
    (f : FormTree) → Leads declarations seen count (Plain (Called word)) inner c g → IsOwn g →
    form_of word declarations ≡ Some f → Leads declarations [] 0 f inner c g
stepped f here own e = absurd own
stepped {declarations} {inner} {c} {g} f (by_name {form} h l) own e =
    subst (λ x. Leads declarations [] 0 x inner c g) (same_some form f (sym h ∙ e)) l

-- from a name on it is the same anywhere
moved : {declarations : List DeclarationTree} {seen inner : List Visible} {count c : ℕ} {word : List ℕ} {g : FormTree}
    (around : List Visible) (n : ℕ) → Leads declarations seen count (Plain (Called word)) inner c g → IsOwn g →
    Leads declarations around n (Plain (Called word)) inner c g
moved around n here own = absurd own
moved around n (by_name h l) own = by_name h l

module _ (declarations : List DeclarationTree) where
  pub step_in : (t : PokeType) (word : List ℕ) (f : FormTree) (seen : List Visible) (count : ℕ) →
      form_of word declarations ≡ Some f → IsWell declarations t (Plain (Called word)) seen count →
      IsWell declarations t f [] 0
  unfolding IsWell
  step_in (IntegerOf type) word f seen count e h = tt
  step_in (OffsetOf type unit) word f seen count e h = tt
  step_in StringOf word f seen count e h = tt
  step_in (ArrayOf element bound) word f seen count e h = (h.0, h.1, h.2, h.3, stepped f h.4 tt e, h.5, h.6)
  step_in (StructOf name pinned fs) word f seen count e h = (h.0, h.1, h.2, stepped f h.3 tt e, h.4)
  step_in (IntegralOf name type ps) word f seen count e h = (h.0, h.1, h.2, h.3, stepped f h.4 tt e, h.5)
  step_in (UnionOf name ps) word f seen count e h = (h.0, h.1, h.2, stepped f h.3 tt e, h.4)

  pub anywhere : (t : PokeType) (word : List ℕ) (seen : List Visible) (count : ℕ) →
      IsWell declarations t (Plain (Called word)) [] 0 → IsWell declarations t (Plain (Called word)) seen count
  unfolding IsWell
  anywhere (IntegerOf type) word seen count h = tt
  anywhere (OffsetOf type unit) word seen count h = tt
  anywhere StringOf word seen count h = tt
  anywhere (ArrayOf element bound) word seen count h = (h.0, h.1, h.2, h.3, moved seen count h.4 tt, h.5, h.6)
  anywhere (StructOf name pinned fs) word seen count h = (h.0, h.1, h.2, moved seen count h.3 tt, h.4)
  anywhere (IntegralOf name type ps) word seen count h = (h.0, h.1, h.2, h.3, moved seen count h.4 tt, h.5)
  anywhere (UnionOf name ps) word seen count h = (h.0, h.1, h.2, moved seen count h.3 tt, h.4)

  pub named_well : (t : PokeType) (word : List ℕ) (f : FormTree) → form_of word declarations ≡ Some f →
      IsWell declarations t f [] 0 → IsWell declarations t (Plain (Called word)) [] 0
  unfolding IsWell
  named_well (IntegerOf type) word f e h = tt
  named_well (OffsetOf type unit) word f e h = tt
  named_well StringOf word f e h = tt
  named_well (ArrayOf element bound) word f e h = (h.0, h.1, h.2, h.3, by_name e h.4, h.5, h.6)
  named_well (StructOf name pinned fs) word f e h = (h.0, h.1, h.2, by_name e h.3, h.4)
  named_well (IntegralOf name type ps) word f e h = (h.0, h.1, h.2, h.3, by_name e h.4, h.5)
  named_well (UnionOf name ps) word f e h = (h.0, h.1, h.2, by_name e h.3, h.4)

  -- ---- a form that is no name leads to itself alone

  array_here : {seen inner : List Visible} {count c : ℕ} {f g : FormTree} {written other : Option Tree}
      (element : PokeType) (bound : Bound) →
      Leads declarations seen count (ArrayForm f written) inner c (ArrayForm g other) →
      IsWell declarations element g inner (c + 1) → BoundFits inner c other bound →
      IsWell declarations element f seen (count + 1) × BoundFits seen count written bound
  array_here element bound here h b = (h, b)

  pub array_well : (element : PokeType) (bound : Bound) (f : FormTree) (written : Option Tree) (seen : List Visible)
      (count : ℕ) → IsWell declarations (ArrayOf element bound) (ArrayForm f written) seen count →
      IsWell declarations element f seen (count + 1) × BoundFits seen count written bound
  unfolding IsWell
  array_well element bound f written seen count h = array_here element bound h.4 h.5 h.6

  struct_here : {seen inner : List Visible} {count c : ℕ} {p q : Bool} {f g : FieldTrees} (fs : Fields) →
      Leads declarations seen count (StructForm p f) inner c (StructForm q g) → FieldsWell declarations fs g inner c 0 →
      FieldsWell declarations fs f seen count 0
  struct_here fs here h = h

  pub struct_well : (name : Option (List ℕ)) (pinned : Bool) (fs : Fields) (forms : FieldTrees) (seen : List Visible)
      (count : ℕ) → IsWell declarations (StructOf name pinned fs) (StructForm pinned forms) seen count →
      FieldsWell declarations fs forms seen count 0
  unfolding IsWell
  struct_well name pinned fs forms seen count h = struct_here fs h.3 h.4

  integral_here : {seen inner : List Visible} {count c : ℕ} {r q : TreeReference} {f g : FieldTrees} (ps : Parts) →
      Leads declarations seen count (IntegralForm r f) inner c (IntegralForm q g) →
      PartsWell declarations ps g inner c 0 → PartsWell declarations ps f seen count 0
  integral_here ps here h = h

  pub integral_well : (name : Option (List ℕ)) (type : IntegerType) (ps : Parts) (reference : TreeReference)
      (forms : FieldTrees) (seen : List Visible) (count : ℕ) →
      IsWell declarations (IntegralOf name type ps) (IntegralForm reference forms) seen count →
      PartsWell declarations ps forms seen count 0
  unfolding IsWell
  integral_well name type ps reference forms seen count h = integral_here ps h.4 h.5

  union_here : {seen inner : List Visible} {count c : ℕ} {f g : FieldTrees} (ps : Parts) →
      Leads declarations seen count (UnionForm f) inner c (UnionForm g) → AlternativesWell declarations ps g inner c →
      AlternativesWell declarations ps f seen count
  union_here ps here h = h

  pub union_well : (name : Option (List ℕ)) (ps : Parts) (forms : FieldTrees) (seen : List Visible) (count : ℕ) →
      IsWell declarations (UnionOf name ps) (UnionForm forms) seen count →
      AlternativesWell declarations ps forms seen count
  unfolding IsWell
  union_well name ps forms seen count h = union_here ps h.3 h.4
