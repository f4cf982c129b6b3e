-- The nodes of the types that the builder adds.
use Rattle.std.proofs.Common.{◌≡◌, ℕ, zero, suc, ◌+◌, ◌<◌, List, [], ◌∷◌, ◌++◌, map, Option, Some, None, Result, Ok, Err, Bool, true, length, refl, sym, ap, subst, ◌∙◌, arith, inl, inr}
use Rattle.std.specs.Prelude.{slice_get, All, IfOk, OnOk}
use Rattle.std.specs.Option.{option_map}
use Rattle.std.specs.Str.{bytes_eq}
use Rattle.std.proofs.lemmas.Bool.{cases_lt}
use Rattle.std.proofs.lemmas.Cmp.{nat_list_eq_equiv}
use Rattle.std.proofs.lemmas.List.{append-nil, append_assoc, length-append, length-map}
use Rattle.pickle_tree.specs.Tree.{Tree, TreeReference, FormTree, ArrayForm, StructForm, IntegralForm, UnionForm, FieldTrees, NoFields, DeclarationTree, field_tree, fields_tree}
use Rattle.pickle_tree.specs.declared.tree.Field as tree
use Rattle.pickle_types.specs.declared.fault.FaultKind.{FaultKind}
use Rattle.pickle_types.specs.declared.integer.IntegerType.{IntegerType}
use Rattle.pickle_types.specs.declared.names.Declared.{Declared}
use Rattle.pickle_types.specs.declared.names.Named.{Named}
use Rattle.pickle_types.specs.declared.node.Field.{Field}
use Rattle.pickle_types.specs.declared.node.Node.{Node}
use Rattle.pickle_types.specs.declared.node.Shape.{Shape}
use Rattle.pickle_types.specs.declared.node.Shape.TheVariants as shape
use Rattle.pickle_types.specs.declared.table.Table.{Table}
use Rattle.pickle_types.specs.declared.check.builder.Builder.{Builder}
use Rattle.pickle_types.specs.declared.check.builder.Found.{Found}
use Rattle.pickle_types.specs.Types.{IntegerOf}
use Rattle.pickle_types.specs.Names.{predeclared}
use Rattle.pickle_types.specs.Table.{type_of, Grows}
use Rattle.pickle_types.specs.Built.{types_in, declared_as, named_of, part_of, AddsName}
use Rattle.pickle_types.specs.DeclaredNodes.{node_called, IsWritten, field_nodes, alternative_nodes, part_nodes, HasParts, IsOnly, IsFormNode, AreFormNodes, IsDeclaredNode}
use Rattle.pickle_types.specs.TypeTable.{HasDeclaredNodes}
use Rattle.pickle_types.specs.Building.{known_types, Builds, Keeps, IsInStep, IsLastNode, HasFormNode, HaveFormNodes, NamesNode, Continues, DeclaresNode, DeclaresNodes}
use Rattle.pickle_types.proofs.Items.{get_front, get_last, is_last}
use Rattle.pickle_types.proofs.Steps.{grows_on}
use Rattle.pickle_types.proofs.Growth.{type_kept}
use Rattle.pickle_types.proofs.Looks.{declared_push}
use Rattle.pickle_types.proofs.DeclaredNodes.{form_kept, forms_kept, declared_kept}

module _ (old new : Builder) (grows : Grows old.nodes new.nodes) (same : types_in new.names ≡ types_in old.names) where
  -- what is built stays while the table grows
  pub form_on : (form : FormTree) (i : ℕ) → HasFormNode old form i → HasFormNode new form i
  form_on form i h = rw same (subst (λ types. IsFormNode new.nodes types form i) (append-nil (types_in old.names))
      (form_kept old.nodes new.nodes old.table grows (types_in old.names) [] form i h))

  pub forms_on : (fields : FieldTrees) (is : List ℕ) → AreFormNodes old.nodes (types_in old.names) fields is →
      AreFormNodes new.nodes (types_in new.names) fields is
  forms_on fields is h = rw same (subst (λ types. AreFormNodes new.nodes types fields is)
      (append-nil (types_in old.names))
      (forms_kept old.nodes new.nodes old.table grows (types_in old.names) [] fields is h))

pub parts_nodes : (fields : List Field) → alternative_nodes (map part_of fields) ≡ field_nodes fields
parts_nodes [] = refl
parts_nodes (f ∷ fields) = ap (λ is. f.node ∷ is) (parts_nodes fields)

pub last_grows : (old new : List Node) (i : ℕ) (s : Shape) → IsLastNode old new i s → Grows old new
last_grows old new i s last = record { more = last.node ∷ []; is = last.is }

module _ (old new : Builder) (same : new.names ≡ old.names) (i : ℕ) (s : Shape)
    (last : IsLastNode old.nodes new.nodes i s) where
  grown : Grows old.nodes new.nodes
  grown = last_grows old.nodes new.nodes i s last

  last_parts : (P : List ℕ → Type 0) → P (part_nodes s) → HasParts (slice_get new.nodes i) P
  last_parts P h =
      let at : slice_get new.nodes i ≡ Some last.node = rw (last.is, last.place) (get_last old.nodes last.node) in
      rw (at, last.shaped) h

  -- the node of an array, where the node of its element is built
  pub array_node : (element : FormTree) (bound : Option Tree) (e : ℕ) → part_nodes s ≡ e ∷ [] →
      HasFormNode old element e → HasFormNode new (ArrayForm element bound) i
  array_node element bound e parts h =
      last_parts (IsOnly (λ e. HasFormNode new element e))
      (rw parts (form_on old new grown (ap types_in same) element e h))

  members_node : (fields : FieldTrees) (is : List ℕ) → part_nodes s ≡ is →
      AreFormNodes old.nodes (types_in old.names) fields is →
      HasParts (slice_get new.nodes i) (λ is. AreFormNodes new.nodes (types_in new.names) fields is)
  members_node fields is parts h =
      last_parts (λ is. AreFormNodes new.nodes (types_in new.names) fields is)
      (rw parts (forms_on old new grown (ap types_in same) fields is h))

  pub struct_node : (pinned : Bool) (fields : FieldTrees) (is : List ℕ) → part_nodes s ≡ is →
      AreFormNodes old.nodes (types_in old.names) fields is → HasFormNode new (StructForm pinned fields) i
  struct_node pinned fields is parts h = members_node fields is parts h

  pub integral_node : (r : TreeReference) (fields : FieldTrees) (is : List ℕ) → part_nodes s ≡ is →
      AreFormNodes old.nodes (types_in old.names) fields is → HasFormNode new (IntegralForm r fields) i
  integral_node r fields is parts h = members_node fields is parts h

  pub union_node : (fields : FieldTrees) (is : List ℕ) → part_nodes s ≡ is →
      AreFormNodes old.nodes (types_in old.names) fields is → HasFormNode new (UnionForm fields) i
  union_node fields is parts h = members_node fields is parts h

-- some fields have their nodes; once the others have theirs, all have, however the table grew since
abbrev pub FormsSoFar : Builder → (whole rest : FieldTrees) → List Field → Type 0
FormsSoFar b whole rest fields =
    (nodes : List Node) → Grows b.nodes nodes → (more : List Field) →
    AreFormNodes nodes (types_in b.names) rest (field_nodes more) →
    AreFormNodes nodes (types_in b.names) whole (field_nodes (fields ++ more))

pub forms_none : (b : Builder) (whole : FieldTrees) (fields : List Field) → fields ≡ [] →
    FormsSoFar b whole whole fields
forms_none b whole fields none nodes grows more h = rw none h

pub forms_more : (b n c : Builder) (whole : FieldTrees) (fields : List Field) (field : Field) (f : tree.Field)
    (fs : List tree.Field) → Keeps b n → c.nodes ≡ n.nodes → types_in c.names ≡ types_in n.names →
    FormsSoFar b whole (fields_tree (f ∷ fs)) fields → HasFormNode n (field_tree f).form field.node →
    FormsSoFar c whole (fields_tree fs) (fields ++ field ∷ [])
forms_more b n c whole fields field f fs keeps cn ct so_far h nodes grows more rest =
    let types : types_in c.names ≡ types_in b.names = ct ∙ keeps.types in
    let grown : Grows n.nodes nodes = record { more = grows.more; is = rw (← cn) grows.is } in
    let kept : IsFormNode nodes (types_in b.names) (field_tree f).form field.node =
    subst (λ types. IsFormNode nodes types (field_tree f).form field.node)
    (append-nil (types_in n.names) ∙ keeps.types)
    (form_kept n.nodes nodes n.table grown (types_in n.names) [] (field_tree f).form field.node h) in
    rw (types, append_assoc fields (field ∷ []) more)
    (so_far nodes (grows_on b.nodes n.nodes nodes keeps.grows grown) (field ∷ more) (kept, rw types at rest))

pub forms_end : (b : Builder) (whole rest : FieldTrees) (fields : List Field) → rest ≡ NoFields →
    FormsSoFar b whole rest fields → HaveFormNodes b whole fields
forms_end b whole rest fields none so_far =
    subst (λ (fs : List Field). HaveFormNodes b whole fs) (append-nil fields)
    (so_far b.nodes (record { more = []; is = sym (append-nil b.nodes) }) [] (rw none tt))

-- ---- names of declared types

pub continues_none : (b c : Builder) → c.nodes ≡ b.nodes → types_in c.names ≡ types_in b.names → Continues b c
continues_none b c nodes types = record {
  nodes = record { more = []; is = nodes ∙ sym (append-nil b.nodes) };
  types = record { more = []; is = types ∙ sym (append-nil (types_in b.names)) };
}

pub continues_on : (a b c : Builder) → Continues a b → Continues b c → Continues a c
continues_on a b c g h = record {
  nodes = grows_on a.nodes b.nodes c.nodes g.nodes h.nodes;
  types = record {
    more = g.types.more ++ h.types.more;
    is = h.types.is ∙ ap (λ types. types ++ h.types.more) g.types.is
        ∙ append_assoc (types_in a.names) g.types.more h.types.more;
  };
}

-- what is declared stays while more is declared
pub declared_on : (old new : Builder) → Continues old new → (d : DeclarationTree) →
    IsDeclaredNode old.nodes (types_in old.names) d → IsDeclaredNode new.nodes (types_in new.names) d
declared_on old new on d h =
    rw on.types.is (declared_kept old.nodes new.nodes old.table on.nodes (types_in old.names) on.types.more d h)

pub declared_all_on : (old new : Builder) → Continues old new → (ds : List DeclarationTree) →
    All (IsDeclaredNode old.nodes (types_in old.names)) ds → All (IsDeclaredNode new.nodes (types_in new.names)) ds
declared_all_on old new on ds h k d lt = declared_on old new on _ (h k d lt)

-- one more type, of the node after the others
pub in_step : (old new : Builder) (word : List ℕ) (d : Declared) → IsInStep old →
    AddsName (types_in old.names) (types_in new.names) word d → d.node ≡ length old.nodes →
    length new.nodes ≡ length old.nodes + 1 → IsInStep new
in_step old new word d step adds node count =
    let one : Named = record { word = adds.name; declared = d } in
    let longer = length-append (types_in old.names) (one ∷ []) in
    let same = ap length adds.names in
    let before = step.count in
    record {
      count = omega arith;
      order = λ k named is. elim (cases_lt k (length (types_in old.names))) [
        | inl lt ↦ step.order k named
            (sym (get_front (types_in old.names) (one ∷ []) k lt) ∙ ap (λ xs. slice_get xs k) (sym adds.names) ∙ is)
        | inr le ↦ let e = is_last (types_in old.names) one k named
            (ap (λ xs. slice_get xs k) (sym adds.names) ∙ is) le in
            let at = e.place in rw e.item (omega arith)
      ];
    }

in_step_named : (old mid new : Builder) (word : List ℕ) (i : ℕ) (s : Shape) → IsLastNode old.nodes mid.nodes i s →
    mid.names ≡ old.names → NamesNode mid new word i → new.nodes ≡ mid.nodes → IsInStep old → IsInStep new
in_step_named old mid new word i s last names named nodes step =
    let longer = length-append old.nodes (last.node ∷ []) in
    let count = ap length (nodes ∙ last.is) in
    in_step old new word named.0 step (rw names at named.2) (named.1 ∙ last.place) (omega arith)

pub in_step_one : (old mid new : Builder) (word : List ℕ) (i : ℕ) (s : Shape) (r : Result (Unit {0}) FaultKind) →
    IsLastNode old.nodes mid.nodes i s → mid.names ≡ old.names → OnOk r (NamesNode mid new word i) →
    new.nodes ≡ mid.nodes → IsInStep old →
    OnOk r (IsInStep new)
in_step_one old mid new word i s (Ok u) last names named nodes step =
    in_step_named old mid new word i s last names named nodes step
in_step_one old mid new word i s (Err e) last names named nodes step = tt

pub step_none : (b : Builder) → types_in b.names ≡ [] → b.nodes ≡ [] → IsInStep b
step_none b types nodes = record {
  count = rw (types, nodes) refl;
  order = λ k named is. let none : slice_get [] k ≡ Some named = rw types at is in cc;
}

-- the name that is added last is found
called_new : (types : List Named) (one : Named) → declared_as one.word.items types ≡ None →
    node_called (types ++ one ∷ []) one.word.items ≡ Some one.declared.node
called_new types one none =
    let same : bytes_eq one.word.items one.word.items ≡ true = nat_list_eq_equiv.refl one.word.items in
    ap (option_map (λ (d : Declared). d.node)) (declared_push one.word.items types one (λ e. none)) ∙ rw same refl

-- a declaration whose type is built, and got its name
pub declares : (old mid new : Builder) (d : DeclarationTree) (i : ℕ) → Keeps old mid → HasFormNode mid d.form i →
    declared_as d.name (types_in mid.names) ≡ None → NamesNode mid new d.name i → new.nodes ≡ mid.nodes →
    DeclaresNode old new d
declares old mid new d i keeps form none named nodes =
    let adds = named.2 in
    let one : Named = record { word = adds.name; declared = named.0 } in
    let on : Grows mid.nodes new.nodes = record { more = []; is = nodes ∙ sym (append-nil mid.nodes) } in
    let absent : declared_as one.word.items (types_in mid.names) ≡ None = rw adds.bytes none in
    record {
      on = record {
        nodes = rw nodes keeps.grows;
        types = record { more = one ∷ []; is = adds.names ∙ ap (λ types. types ++ one ∷ []) keeps.types };
      };
      declared = record {
        node = i;
        called = rw (adds.names, ← adds.bytes) (called_new (types_in mid.names) one absent ∙ ap Some named.1);
        form = rw adds.names
            (form_kept mid.nodes new.nodes mid.table on (types_in mid.names) (one ∷ []) d.form i form);
      };
    }

-- some declarations have their nodes; once the others have theirs, all have, whatever was declared since
abbrev pub DeclaredSoFar : Builder → (whole rest : List DeclarationTree) → Type 0
DeclaredSoFar b whole rest =
    (c : Builder) → Continues b c → All (IsDeclaredNode c.nodes (types_in c.names)) rest →
    All (IsDeclaredNode c.nodes (types_in c.names)) whole

pub so_far_first : (b : Builder) (ds : List DeclarationTree) → DeclaredSoFar b ds ds
so_far_first b ds c on h = h

all_cons : {A : Type 0} (P : A → Type 0) (x : A) (xs : List A) → P x → All P xs → All P (x ∷ xs)
all_cons P x xs h t zero d lt = h
all_cons P x xs h t (suc k) d lt = t k d (omega arith)

pub so_far_next : (b n : Builder) (whole : List DeclarationTree) (d : DeclarationTree) (ds : List DeclarationTree) →
    DeclaresNode b n d → DeclaredSoFar b whole (d ∷ ds) → DeclaredSoFar n whole ds
so_far_next b n whole d ds h so_far c on rest =
    so_far c (continues_on b n c h.on on)
    (all_cons (IsDeclaredNode c.nodes (types_in c.names)) d ds (declared_on n c on d h.declared) rest)

pub so_far_last : (a b : Builder) (whole rest : List DeclarationTree) → rest ≡ [] → Continues a b →
    DeclaredSoFar b whole rest → DeclaresNodes a b whole
so_far_last a b whole rest none on so_far = record {
  on = on;
  declared = so_far b (continues_none b b refl refl) (rw none (λ k d lt. absurd (omega arith)));
}

-- the predeclared names have the nodes of their places, whatever is declared after them
pub predeclared_nodes : (b c : Builder) (ds : List DeclarationTree) → known_types b ≡ predeclared → IsInStep b →
    DeclaresNodes b c ds → (k : ℕ) (named : Named) → k < 18 → slice_get (types_in c.names) k ≡ Some named →
    named.declared.node ≡ k
predeclared_nodes b c ds known step h k named lt is =
    let count = length-map (types_in b.names) (named_of b.nodes) in
    let all = ap length known in
    step.order k named (sym (get_front (types_in b.names) h.on.types.more k (omega arith))
    ∙ ap (λ xs. slice_get xs k) (sym h.on.types.is) ∙ is)

pub table_nodes : (t : Table) (nodes : List Node) (names : List Named) (ds : List DeclarationTree) →
    t.nodes.items ≡ nodes → t.names ≡ names →
    ((k : ℕ) (named : Named) → k < 18 → slice_get names k ≡ Some named → named.declared.node ≡ k) →
    All (IsDeclaredNode nodes names) ds → HasDeclaredNodes t ds
table_nodes t nodes names ds en es first all = record {
  predeclared = λ k named lt is. first k named lt (rw es at is);
  declared = rw (en, es) all;
}

-- ---- results

pub ok_on : {A : Type 0} (P Q : A → Type 0) (r : Result A FaultKind) → ((x : A) → P x → Q x) → IfOk r P → IfOk r Q
ok_on P Q (Ok x) on h = on x h
ok_on P Q (Err e) on h = tt

pub ok_any : {A : Type 0} (r : Result A FaultKind) → IfOk r (λ x. Unit {0})
ok_any (Ok x) = tt
ok_any (Err e) = tt

-- an integer type that none of the first nodes has, and whose node came last
pub written_last : (old new : Builder) (t : IntegerType) (r : Result Found FaultKind) →
    Builds old new r (Ok (IntegerOf t)) →
    IfOk r (λ found. IsLastNode old.nodes new.nodes found.node (shape.Integer t)) →
    ((j : ℕ) → j < 18 → j < length old.nodes → type_of old.nodes j ≡ IntegerOf t → ⊥) →
    IfOk r (λ found. IsWritten new.nodes found.node)
written_last old new t (Err e) builds last none = tt
written_last old new t (Ok found) builds last none =
    let grows = last_grows old.nodes new.nodes found.node (shape.Integer t) last in
    let place = last.place in
    let is : type_of new.nodes found.node ≡ IntegerOf t = cc (builds.1, builds.2.type) in
    record {
      inside = builds.2.inside;
      first = λ j lt few same. none j (omega arith) (omega arith)
          (sym (type_kept old.nodes new.nodes old.table grows j (omega arith)) ∙ same ∙ is);
    }
