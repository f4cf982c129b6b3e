-- One step of the definitions for each step of the builder.
use Rattle.std.proofs.Common.{◌≡◌, ℕ, zero, suc, ◌+◌, ◌-◌, ◌<◌, ◌≤◌, ◌^◌, max, List, [], ◌∷◌, ◌++◌, map, Option, None, Result, Ok, Err, Bool, length, take, drop, get_or, refl, sym, ap, ◌∙◌, arith}
use Rattle.std.specs.Prelude.{All, OnOk, OnErr}
use Rattle.std.proofs.lemmas.Bool.{eq-eqb, ne_eqb}
use Rattle.std.proofs.lemmas.List.{append-nil, length-append, length-map, length-take, drop_more, map_push, take_all, take-append-le}
use Rattle.std.proofs.lemmas.List.Elements.{All-append}
use Rattle.pickle_tree.specs.declared.tree.Unit.{Unit as PokeUnit}
use Rattle.pickle_tree.specs.Tree.{Tree, TreeReference, FieldParts, FormTree, Plain, StringForm, OffsetForm, ArrayForm, StructForm, IntegralForm, UnionForm, FieldTrees, field_tree, fields_tree}
use Rattle.pickle_tree.specs.declared.tree.Field as tree
use Rattle.pickle_tree.specs.Limits.{standard, field_count}
use Rattle.pickle_types.specs.declared.integer.IntegerType.{IntegerType}
use Rattle.pickle_types.specs.declared.fault.FaultKind.{FaultKind}
use Rattle.pickle_types.specs.declared.fault.FaultKind.TheVariants.{Memory, IntegralWidths, NotHere}
use Rattle.pickle_types.specs.declared.names.Named.{Named}
use Rattle.pickle_types.specs.declared.node.Node.{Node}
use Rattle.pickle_types.specs.declared.node.Field.{Field}
use Rattle.pickle_types.specs.declared.check.enclosing.Enclosing.{Enclosing}
use Rattle.pickle_types.specs.declared.check.enclosing.Enclosing.TheVariants as enclosing
use Rattle.pickle_types.specs.declared.check.builder.Builder.{Builder}
use Rattle.pickle_types.specs.declared.check.builder.Found.{Found}
use Rattle.pickle_types.specs.declared.scopes.Seen.{Seen}
use Rattle.pickle_types.specs.Types.{Term, Bound, PokeType, StringOf, ArrayOf, StructOf, IntegralOf, UnionOf, Fields, NoFields, depth, fields_depth}
use Rattle.pickle_types.specs.Table.{name_of, optional_term, type_of, open_shape, open_fields, open_parts, fields_onto, FieldsBelow, PartsBelow, NamesBelow, IsSoundField, IsSoundPart, IsSoundShape, IsTable, Grows}
use Rattle.pickle_types.specs.Scopes.{Visible}
use Rattle.pickle_types.specs.Names.{Names}
use Rattle.pickle_types.specs.Expressions.{◌>>=◌, integer_referred}
use Rattle.pickle_types.specs.Meaning.{plain, offset_type, integer_expression, offset_expression, bound_expression, fresh, bit_width, has_some, may_stand, if_here, place_in, struct_place, parts_of, total_width, integral_type, if_some_alternative, after_field, with_itself, FieldMeaning, field_meaning, field_then, meaning, fields_meaning}
use Rattle.pickle_types.specs.Built.{Fails, types_in, words_in, bytes_now, view_of, views_of, IsInLevel, AreListed, AreBelow, names_in, part_of}
use Rattle.pickle_types.specs.Building.{visible_in, after_itself, Keeps, IsBuilt, Builds, IsFieldBuilt, AreBuilt, with_front, FieldsSoFar}
use Rattle.pickle_types.specs.Numbers.{Extends}
use Rattle.pickle_types.proofs.Numbered.{extends_none, extends_on}
use Rattle.pickle_types.proofs.Growth.{push_table, push_type, type_kept, longer}
use Rattle.pickle_types.proofs.Meanings.{parts_depth_is}
use Rattle.pickle_types.proofs.Tables.{fields_same}
use Rattle.pickle_types.proofs.Steps.{fails_bind, views_kept, names_kept, named_kept, grows_on}

-- a node that is pushed has the type that it opens to
pub pushed : (old new : Builder) (node : Node) → NamesBelow (length old.nodes) node.shape →
    new.nodes ≡ old.nodes ++ node ∷ [] → new.names ≡ old.names → new.seen ≡ old.seen →
    (d at : ℕ) → d ≡ depth (open_shape (type_of old.nodes) node.shape) → at ≡ length old.nodes →
    IsBuilt old new (record { node = at; depth = d }) (open_shape (type_of old.nodes) node.shape)
pushed old new node below is same seen d at deep last =
    let grows : Grows old.nodes new.nodes = record { more = node ∷ []; is = is } in
    let longer = length-append old.nodes (node ∷ []) in
    let known = names_kept old.nodes new.nodes old.table grows (types_in old.names) old.named in
    record {
      keeps = record {
        grows = grows;
        known = rw same known;
        types = rw same refl;
        numbers = rw same (extends_none (words_in old.names));
      };
      seen = seen;
      inside = rw is (omega arith);
      type = rw (is, last) (push_type old.nodes old.table node below);
      deep = deep;
    }

-- a node was pushed, or nothing has changed
module _ (old : List Node) (table : IsTable old) (new : List Node) (node : Node) where
  pub table_after : (r : Result (Unit {0}) FaultKind) → OnOk r (new ≡ old ++ node ∷ []) → OnErr r (new ≡ old) →
      NamesBelow (length old) node.shape → IsSoundShape node.shape →
      depth (open_shape (type_of old) node.shape) ≤ 64 → length old < 2 ^ 32 → IsTable new
  table_after (Ok u) is same below sound low few = rw is (push_table old table node below sound low few)
  table_after (Err e) is same below sound low few = rw same table

  pub named_after : (types : List Named) (r : Result (Unit {0}) FaultKind) → OnOk r (new ≡ old ++ node ∷ []) →
      OnErr r (new ≡ old) → AreListed old types → AreListed new types
  named_after types (Ok u) is same named =
      named_kept old new table (record { more = node ∷ []; is = is }) (map (λ d. d.declared) types) named
  named_after types (Err e) is same named = rw same named

-- the steps of a meaning where `room` allows it
module _ (names : Names) (seen : List Visible) (levels : ℕ) (title : Option (List ℕ)) where
  pub meaning_plain : (room : ℕ) (r : TreeReference) → 0 < room →
      meaning names seen levels title room (Plain r) ≡ plain room names r
  unfolding meaning
  meaning_plain zero r some = absurd (omega arith)
  meaning_plain (suc room) r some = refl

  pub meaning_string : (room : ℕ) → 0 < room → meaning names seen levels title room StringForm ≡ Ok StringOf
  unfolding meaning
  meaning_string zero some = absurd (omega arith)
  meaning_string (suc room) some = refl

  pub meaning_offset : (room : ℕ) (r : TreeReference) (u : PokeUnit) → 0 < room →
      meaning names seen levels title room (OffsetForm r u) ≡ offset_type names r u
  unfolding meaning
  meaning_offset zero r u some = absurd (omega arith)
  meaning_offset (suc room) r u some = refl

  pub meaning_array : (room : ℕ) (element : FormTree) (bound : Option Tree) → 0 < room →
      meaning names seen levels title room (ArrayForm element bound)
      ≡ (meaning names seen (levels + 1) None (room - 1) element >>= λ t.
      bound_expression names seen levels bound >>= λ b. Ok (ArrayOf t b))
  unfolding meaning
  meaning_array zero element bound some = absurd (omega arith)
  meaning_array (suc room) element bound some = let e : suc room - 1 ≡ room = omega arith in rw e refl

  pub meaning_struct : (room : ℕ) (pinned : Bool) (fields : FieldTrees) → 0 < room →
      meaning names seen levels title room (StructForm pinned fields)
      ≡ (fields_meaning names (struct_place pinned) seen levels (room - 1) [] fields >>= λ fs.
      Ok (StructOf title pinned fs))
  unfolding meaning
  meaning_struct zero pinned forms some = absurd (omega arith)
  meaning_struct (suc room) pinned forms some = let e : suc room - 1 ≡ room = omega arith in rw e refl

  pub meaning_integral : (room : ℕ) (r : TreeReference) (fields : FieldTrees) → 0 < room →
      meaning names seen levels title room (IntegralForm r fields) ≡ (integer_referred names r >>= λ t.
      fields_meaning names enclosing.Integral seen levels (room - 1) [] fields >>= integral_type title t)
  unfolding meaning
  meaning_integral zero r forms some = absurd (omega arith)
  meaning_integral (suc room) r forms some = let e : suc room - 1 ≡ room = omega arith in rw e refl

  pub meaning_union : (room : ℕ) (alternatives : FieldTrees) → 0 < room →
      meaning names seen levels title room (UnionForm alternatives) ≡ (if_some_alternative alternatives >>= λ u.
      fields_meaning names enclosing.Union seen levels (room - 1) [] alternatives >>= λ fs.
      Ok (UnionOf title (parts_of fs)))
  unfolding meaning
  meaning_union zero alternatives some = absurd (omega arith)
  meaning_union (suc room) alternatives some = let e : suc room - 1 ≡ room = omega arith in rw e refl

pub keeps_on : (a b c : Builder) → Keeps a b → Keeps b c → Keeps a c
keeps_on a b c g h = record {
  grows = grows_on a.nodes b.nodes c.nodes g.grows h.grows;
  known = h.known ∙ g.known;
  types = h.types ∙ g.types;
  numbers = extends_on g.numbers h.numbers;
}

-- what is built on a table that had grown
pub built_on : (a b c : Builder) (found : Found) (t : PokeType) → Keeps a b → b.seen ≡ a.seen →
    IsBuilt b c found t → IsBuilt a c found t
built_on a b c found t g s h =
    record { keeps = keeps_on a b c g h.keeps; seen = h.seen ∙ s; inside = h.inside; type = h.type; deep = h.deep }

pub built_then : (a b c : Builder) (r : Result Found FaultKind) (given whole : Result PokeType FaultKind) → Keeps a b →
    b.seen ≡ a.seen → whole ≡ given → Builds b c r given → Builds a c r whole
built_then a b c (Ok found) given whole g s e h = (h.0, e ∙ h.1, built_on a b c found h.0 g s h.2)
built_then a b c (Err Memory) given whole g s e h = tt
built_then a b c (Err _) given whole g s e h = e ∙ h

-- what is visible stays the same over a table that grew
pub visible_kept : (old new : Builder) → Keeps old new → new.seen ≡ old.seen → (levels : ℕ) →
    AreBelow (length old.nodes) levels old.seen → visible_in new ≡ visible_in old
visible_kept old new keeps same levels below =
    rw same (views_kept old.nodes new.nodes old.table keeps.grows levels old.seen below)

pub array_depth : (t : PokeType) (b : Bound) → depth (ArrayOf t b) ≡ 1 + depth t
unfolding depth
array_depth t b = refl

pub struct_depth : (title : Option (List ℕ)) (pinned : Bool) (fs : Fields) →
    depth (StructOf title pinned fs) ≡ 1 + fields_depth fs
unfolding depth
struct_depth title pinned fs = refl

pub integral_depth : (title : Option (List ℕ)) (t : IntegerType) (fs : Fields) →
    depth (IntegralOf title t (parts_of fs)) ≡ 1 + fields_depth fs
unfolding depth
integral_depth title t fs = ap (λ n. 1 + n) (parts_depth_is fs)

pub union_depth : (title : Option (List ℕ)) (fs : Fields) → depth (UnionOf title (parts_of fs)) ≡ 1 + fields_depth fs
unfolding depth
union_depth title fs = ap (λ n. 1 + n) (parts_depth_is fs)

pub parts_opened : (at : ℕ → PokeType) (fs : List Field) → open_parts at (map part_of fs) ≡ parts_of (open_fields at fs)
parts_opened at [] = refl
parts_opened at (f ∷ fs) = rw (parts_opened at fs) refl

pub parts_below : (n : ℕ) (fs : List Field) → FieldsBelow n fs → PartsBelow n (map part_of fs)
parts_below n [] h k d lt = absurd (omega arith)
parts_below n (f ∷ fs) h zero d lt = h 0 f (omega arith)
parts_below n (f ∷ fs) h (suc k) d lt = parts_below n fs (λ j e less. h (suc j) e (omega arith)) k d (omega arith)

pub parts_sound : (fs : List Field) → All IsSoundField fs → All IsSoundPart (map part_of fs)
parts_sound [] h k d lt = absurd (omega arith)
parts_sound (f ∷ fs) h zero d lt = record { constraint = (h 0 f (omega arith)).constraint }
parts_sound (f ∷ fs) h (suc k) d lt = parts_sound fs (λ j e less. h (suc j) e (omega arith)) k d (omega arith)

-- as many fields are counted as are written
field_count_is : (fs : List tree.Field) → field_count (fields_tree fs) ≡ length fs
field_count_is [] = refl
field_count_is (f ∷ fs) = let rest = field_count_is fs in omega arith

-- a union within the limits has few alternatives
pub parts_few : (fs : List Field) (written : List tree.Field) → length fs ≡ length written →
    field_count (fields_tree written) ≤ standard.fields → length (map part_of fs) ≤ 2 ^ 16
parts_few fs written same few =
    let count = field_count_is written in
    let parts = length-map fs part_of in
    omega arith

pub some_alternative : (fs : List tree.Field) → 0 < length fs → if_some_alternative (fields_tree fs) ≡ Ok tt
some_alternative [] some = absurd (omega arith)
some_alternative (f ∷ fs) some = refl

pub integral_fits : (title : Option (List ℕ)) (t : IntegerType) (fs : Fields) → total_width fs ≡ t.width →
    integral_type title t fs ≡ Ok (IntegralOf title t (parts_of fs))
integral_fits title t fs e = rw (eq-eqb _ _ e) refl

pub integral_wrong : (title : Option (List ℕ)) (t : IntegerType) (fs : Fields) → (total_width fs ≡ t.width → ⊥) →
    integral_type title t fs ≡ Err IntegralWidths
integral_wrong title t fs ne = rw (ne_eqb _ _ ne) refl

onto_append : (at : ℕ → PokeType) (fs gs : List Field) (rest : Fields) →
    fields_onto at (fs ++ gs) rest ≡ fields_onto at fs (fields_onto at gs rest)
onto_append at [] gs rest = refl
onto_append at (f ∷ fs) gs rest = rw (onto_append at fs gs rest) refl

onto_depth : (at : ℕ → PokeType) (fs : List Field) (rest : Fields) →
    fields_depth (fields_onto at fs rest) ≡ max (fields_depth (open_fields at fs)) (fields_depth rest)
unfolding fields_depth
onto_depth at [] rest = omega arith
onto_depth at (f ∷ fs) rest = let h = onto_depth at fs rest in omega arith

front_more : (at at' : ℕ → PokeType) (fields : List Field) (field : Field) (parts : FieldParts) (f : FieldMeaning) →
    ((rest : Fields) → fields_onto at fields rest ≡ fields_onto at' fields rest) →
    ((rest : Fields) → fields_onto at' (field ∷ []) rest ≡ field_then parts f rest) →
    (r : Result Fields FaultKind) → with_front (fields_onto at fields) (r >>= λ fs. Ok (field_then parts f fs))
    ≡ with_front (fields_onto at' (fields ++ field ∷ [])) r
front_more at at' fields field parts f same opened (Ok fs) =
    ap Ok (same (field_then parts f fs) ∙ ap (fields_onto at' fields) (sym (opened fs))
    ∙ sym (onto_append at' fields (field ∷ []) fs))
front_more at at' fields field parts f same opened (Err e) = refl

pub front_none : (at : ℕ → PokeType) (r : Result Fields FaultKind) → r ≡ with_front (fields_onto at []) r
front_none at (Ok fs) = refl
front_none at (Err e) = refl

-- one more field that is built
pub so_far_more : (a b c : Builder) (fields : List Field) (field : Field) (deepest deepness : ℕ) (here : Enclosing)
    (levels index : ℕ) (parts : FieldParts) (f : FieldMeaning) (whole rest rest' : Result Fields FaultKind) →
    FieldsSoFar a b fields deepest whole rest → IsFieldBuilt b c here levels index parts field f →
    deepness ≡ depth f.type → rest ≡ (rest' >>= λ fs. Ok (field_then parts f fs)) →
    FieldsSoFar a c (fields ++ field ∷ []) (max deepest deepness) whole rest'
unfolding fields_depth
so_far_more a b c fields field deepest deepness here levels index parts f whole rest rest' h g deep next =
    let long = longer b.nodes c.nodes b.table g.keeps.grows in
    let same : (more : Fields) → fields_onto (type_of b.nodes) fields more ≡ fields_onto (type_of c.nodes) fields more =
    λ more. sym (fields_same (type_of c.nodes) (type_of b.nodes) (length b.nodes)
    (λ e lt. type_kept b.nodes c.nodes b.table g.keeps.grows e lt) fields more h.below) in
    let opens : open_fields (type_of c.nodes) (fields ++ field ∷ [])
    ≡ fields_onto (type_of b.nodes) fields (field_then parts f NoFields) =
    onto_append (type_of c.nodes) fields (field ∷ []) NoFields
    ∙ ap (fields_onto (type_of c.nodes) fields) (g.opened NoFields) ∙ sym (same (field_then parts f NoFields)) in
    let depths = onto_depth (type_of b.nodes) fields (field_then parts f NoFields) in
    let before = h.deep in
    record {
      keeps = keeps_on a b c h.keeps g.keeps;
      below = All-append (λ (x : Field). x.node < length c.nodes) fields (field ∷ [])
          (λ k d lt. let inside = h.below k d lt in omega arith)
          (λ k d lt. let e : k ≡ 0 = omega arith in rw e g.inside);
      given = h.given ∙ ap (with_front (fields_onto (type_of b.nodes) fields)) next
          ∙ front_more (type_of b.nodes) (type_of c.nodes) fields field parts f same g.opened rest';
      deep = rw opens (omega arith);
    }

-- the first of some fields, and the rest
pub fields_step : (names : Names) (here : Enclosing) (seen : List Visible) (levels room : ℕ)
    (before : List (Option (List ℕ))) (f : tree.Field) (fs : List tree.Field) (m : FieldMeaning) →
    field_meaning names here seen levels before (field_tree f).parts
    (meaning names seen (levels + 1) None room (field_tree f).form) ≡ Ok m →
    fields_meaning names here seen levels room before (fields_tree (f ∷ fs)) ≡
    (fields_meaning names here
    (after_field here seen (with_itself here seen levels (length before) (field_tree f).parts m.type)) levels room
    (before ++ (field_tree f).parts.name ∷ []) (fields_tree fs) >>= λ gs. Ok (field_then (field_tree f).parts m gs))
unfolding fields_meaning
fields_step names here seen levels room before f fs m h = rw h refl

pub fields_stop : (names : Names) (here : Enclosing) (seen : List Visible) (levels room : ℕ)
    (before : List (Option (List ℕ))) (f : tree.Field) (fs : List tree.Field) (e : FaultKind) →
    Fails e (field_meaning names here seen levels before (field_tree f).parts
    (meaning names seen (levels + 1) None room (field_tree f).form)) →
    Fails e (fields_meaning names here seen levels room before (fields_tree (f ∷ fs)))
unfolding fields_meaning
fields_stop names here seen levels room before f fs e h = fails_bind e _ _ h

pub names_count : (fs : List Field) → length (names_in fs) ≡ length fs
names_count [] = refl
names_count (f ∷ fs) = ap suc (names_count fs)

pub names_more : (fs : List Field) (f : Field) → names_in (fs ++ f ∷ []) ≡ names_in fs ++ name_of f.name ∷ []
names_more [] f = refl
names_more (g ∷ fs) f = rw (names_more fs f) refl

-- one more visible field
pub itself_seen : (nodes : List Node) (seen : List Seen) (s : Seen) (here : Enclosing) (index : ℕ)
    (parts : FieldParts) →
    bytes_now s.name ≡ parts.name → s.place ≡ place_in here index →
    views_of nodes (seen ++ s ∷ []) ≡ with_itself here (views_of nodes seen) s.level index parts (type_of nodes s.node)
itself_seen nodes seen s here index parts en ep = map_push (view_of nodes) seen s ∙ rw (en, ep) refl

after_views : (nodes : List Node) (seen : List Seen) (s : Seen) (here : Enclosing) (more : List Visible) →
    views_of nodes (seen ++ s ∷ []) ≡ more →
    views_of nodes (after_itself here seen s) ≡ after_field here (views_of nodes seen) more
after_views nodes seen s enclosing.Struct more e = e
after_views nodes seen s enclosing.Pinned more e = e
after_views nodes seen s enclosing.Integral more e = e
after_views nodes seen s enclosing.Union more e = refl

push_kept : (seen : List Seen) (s : Seen) → take (length seen) (seen ++ s ∷ []) ≡ seen
push_kept seen s = take-append-le (length seen) seen (s ∷ []) (omega arith) ∙ take_all _ _ (omega arith)

after_kept : (seen : List Seen) (s : Seen) (here : Enclosing) → take (length seen) (after_itself here seen s) ≡ seen
after_kept seen s enclosing.Struct = push_kept seen s
after_kept seen s enclosing.Pinned = push_kept seen s
after_kept seen s enclosing.Integral = push_kept seen s
after_kept seen s enclosing.Union = take_all _ _ (omega arith)

push_below : (n levels : ℕ) (seen : List Seen) (s : Seen) → AreBelow n levels seen → IsInLevel n levels s →
    AreBelow n levels (seen ++ s ∷ [])
push_below n levels seen s below h =
    All-append (IsInLevel n levels) seen (s ∷ []) below (λ k d lt. let e : k ≡ 0 = omega arith in rw e h)

after_below : (n levels : ℕ) (seen : List Seen) (s : Seen) (here : Enclosing) → AreBelow n levels seen →
    IsInLevel n levels s → AreBelow n levels (after_itself here seen s)
after_below n levels seen s enclosing.Struct below h = push_below n levels seen s below h
after_below n levels seen s enclosing.Pinned below h = push_below n levels seen s below h
after_below n levels seen s enclosing.Integral below h = push_below n levels seen s below h
after_below n levels seen s enclosing.Union below h = below

-- a field that is built on a table that stays the same
pub field_built : (old new : Builder) (s : Seen) (here : Enclosing) (index : ℕ) (parts : FieldParts) (field : Field) →
    AreBelow (length old.nodes) (s.level + 1) old.seen →
    s.node < length old.nodes →
    new.names ≡ old.names → new.nodes ≡ old.nodes → new.seen ≡ after_itself here old.seen s →
    bytes_now s.name ≡ parts.name → s.place ≡ place_in here index → field.node ≡ s.node →
    name_of field.name ≡ parts.name → field.order ≡ parts.order →
    IsFieldBuilt old new here s.level index parts field
    (record {
      type = type_of old.nodes s.node;
      constraint = optional_term field.constraint;
      label = optional_term field.label;
      condition = optional_term field.condition;
    })
field_built old new s here index parts field below inside names nodes seen en ep node name order =
    record {
      keeps = record {
        grows = record { more = []; is = nodes ∙ sym (append-nil _) };
        known = rw (names, nodes) refl;
        types = rw names refl;
        numbers = rw names (extends_none (words_in old.names));
      };
      inside = rw (nodes, node) inside;
      name = name;
      type = rw (nodes, node) refl;
      opened = λ rest. rw (nodes, node, name, order) refl;
      below = rw (nodes, seen) (after_below (length old.nodes) (s.level + 1) old.seen s here below
          (record { node = inside; level = omega arith }));
      kept = rw seen (after_kept old.seen s here);
      seen = rw (nodes, seen)
          (after_views old.nodes old.seen s here _ (itself_seen old.nodes old.seen s here index parts en ep));
    }

pub field_meaning_is : (names : Names) (here : Enclosing) (seen : List Visible) (levels : ℕ)
    (before : List (Option (List ℕ))) (parts : FieldParts) (t : PokeType) (l d c : Option Term) →
    if_here (may_stand here (has_some (bit_width t)) parts) ≡ Ok tt → fresh parts.name before ≡ Ok tt →
    offset_expression names seen (levels + 1) parts.label ≡ Ok l →
    integer_expression names seen (levels + 1) parts.condition ≡ Ok d →
    integer_expression names (with_itself here seen levels (length before) parts t) (levels + 1) parts.constraint
    ≡ Ok c →
    field_meaning names here seen levels before parts (Ok t)
    ≡ Ok (record { type = t; constraint = c; label = l; condition = d })
field_meaning_is names here seen levels before parts t l d c stands new label condition constraint =
    rw (stands, new, label, condition, constraint) refl

pub field_meaning_fails : (names : Names) (here : Enclosing) (seen : List Visible) (levels : ℕ)
    (before : List (Option (List ℕ))) (parts : FieldParts) (t : PokeType) (l d : Option Term) (e : FaultKind) →
    if_here (may_stand here (has_some (bit_width t)) parts) ≡ Ok tt → fresh parts.name before ≡ Ok tt →
    offset_expression names seen (levels + 1) parts.label ≡ Ok l →
    integer_expression names seen (levels + 1) parts.condition ≡ Ok d →
    Fails e
    (integer_expression names (with_itself here seen levels (length before) parts t) (levels + 1) parts.constraint) →
    Fails e (field_meaning names here seen levels before parts (Ok t))
field_meaning_fails names here seen levels before parts t l d e stands new label condition constraint =
    rw (stands, new, label, condition) (fails_bind e _ _ constraint)

pub drop_item : {A : Type 0} (xs : List A) (i : ℕ) (x : A) → i < length xs → x ≡ get_or xs i x →
    drop i xs ≡ x ∷ drop (i + 1) xs
drop_item xs i x lt is = drop_more xs i x lt ∙ ap (λ y. y ∷ drop (i + 1) xs) (sym is)

take_within : {A : Type 0} (i j : ℕ) (xs : List A) → i ≤ j → take i (take j xs) ≡ take i xs
take_within zero j xs le = refl
take_within (suc i) zero xs le = absurd (omega arith)
take_within (suc i) (suc j) [] le = refl
take_within (suc i) (suc j) (x ∷ xs) le = ap (λ l. x ∷ l) (take_within i j xs (omega arith))

pub kept_on : (mark : ℕ) (xs ys zs : List Seen) → take mark ys ≡ xs → length xs ≡ mark →
    take (length ys) zs ≡ ys → take mark zs ≡ xs
kept_on mark xs ys zs e n k =
    let long = length-take mark ys in
    let same = ap length e in
    sym (take_within mark (length ys) zs (omega arith)) ∙ ap (take mark) k ∙ e

pub so_far_none : (b : Builder) (fields : List Field) (whole : Result Fields FaultKind) → fields ≡ [] →
    FieldsSoFar b b fields 0 whole whole
unfolding fields_depth
so_far_none b fields whole none = rw none (record {
  keeps = record {
    grows = record { more = []; is = sym (append-nil _) };
    known = refl;
    types = refl;
    numbers = extends_none (words_in b.names);
  };
  below = λ k d lt. absurd (omega arith);
  given = front_none (type_of b.nodes) whole;
  deep = refl;
})

pub fields_next : (names : Names) (here : Enclosing) (seen seen' : List Visible) (levels room : ℕ) (fields : List Field)
    (field : Field) (f : tree.Field) (fs : List tree.Field) (m : FieldMeaning) →
    field_meaning names here seen levels (names_in fields) (field_tree f).parts
    (meaning names seen (levels + 1) None room (field_tree f).form) ≡ Ok m →
    name_of field.name ≡ (field_tree f).parts.name →
    seen' ≡ after_field here seen (with_itself here seen levels (length fields) (field_tree f).parts m.type) →
    fields_meaning names here seen levels room (names_in fields) (fields_tree (f ∷ fs)) ≡
    (fields_meaning names here seen' levels room (names_in (fields ++ field ∷ [])) (fields_tree fs) >>= λ gs.
    Ok (field_then (field_tree f).parts m gs))
fields_next names here seen seen' levels room fields field f fs m h en ev =
    rw (ev, names_more fields field, en, ← names_count fields)
    (fields_step names here seen levels room (names_in fields) f fs m h)

pub builds_as : (a b : Builder) (r : Result Found FaultKind) (given whole : Result PokeType FaultKind) → whole ≡ given →
    Builds a b r given → Builds a b r whole
builds_as a b (Ok found) given whole e h = (h.0, e ∙ h.1, h.2)
builds_as a b (Err Memory) given whole e h = tt
builds_as a b (Err _) given whole e h = e ∙ h

pub no_alternative : (fs : List tree.Field) → length fs ≡ 0 → if_some_alternative (fields_tree fs) ≡ Err NotHere
no_alternative [] e = refl
no_alternative (f ∷ fs) e = absurd (omega arith)

-- a field that is built on a table that had grown
pub field_on : (a b c : Builder) (here : Enclosing) (levels index : ℕ) (parts : FieldParts) (field : Field)
    (f : FieldMeaning) → Keeps a b → b.seen ≡ a.seen → visible_in b ≡ visible_in a →
    IsFieldBuilt b c here levels index parts field f → IsFieldBuilt a c here levels index parts field f
field_on a b c here levels index parts field f g s v h = record {
  keeps = keeps_on a b c g h.keeps;
  inside = h.inside;
  name = h.name;
  type = h.type;
  opened = h.opened;
  below = h.below;
  kept = rw (← s) h.kept;
  seen = h.seen ∙ ap (λ w. after_field here w (with_itself here w levels index parts f.type)) v;
}

pub fields_end : (names : Names) (here : Enclosing) (seen : List Visible) (levels room : ℕ)
    (before : List (Option (List ℕ))) (fs : List tree.Field) →
    fs ≡ [] → fields_meaning names here seen levels room before (fields_tree fs) ≡ Ok NoFields
unfolding fields_meaning
fields_end names here seen levels room before fs none = rw none refl

-- all fields are built
pub all_built : (a b c : Builder) (fields : List Field) (deepest : ℕ) (whole rest : Result Fields FaultKind) →
    FieldsSoFar a b fields deepest whole rest → rest ≡ Ok NoFields →
    c.names ≡ b.names → c.nodes ≡ b.nodes → c.seen ≡ a.seen →
    (fs : Fields) × (whole ≡ Ok fs) × AreBuilt a c fields deepest fs
all_built a b c fields deepest whole rest h none names nodes seen =
    let k = h.keeps in (
      open_fields (type_of b.nodes) fields,
      h.given ∙ ap (with_front (fields_onto (type_of b.nodes) fields)) none,
      record {
        keeps = record {
          grows = rw nodes k.grows;
          known = rw (nodes, names) k.known;
          types = rw names k.types;
          numbers = rw names k.numbers;
        };
        seen = seen;
        below = rw nodes h.below;
        opened = rw nodes refl;
        deep = h.deep;
      },
    )

-- names got numbers, and nothing else changed
pub keeps_numbers : (b c : Builder) → c.nodes ≡ b.nodes →
    types_in c.names ≡ types_in b.names → Extends (words_in b.names) (words_in c.names) → Keeps b c
keeps_numbers b c nodes types more = record {
  grows = record { more = []; is = nodes ∙ sym (append-nil _) };
  known = rw (types, nodes) refl;
  types = types;
  numbers = more;
}

pub so_far_numbered : (a b c : Builder) (fields : List Field) (deepest : ℕ) (whole rest : Result Fields FaultKind) →
    FieldsSoFar a b fields deepest whole rest →
    c.nodes ≡ b.nodes → types_in c.names ≡ types_in b.names → Extends (words_in b.names) (words_in c.names) →
    FieldsSoFar a c fields deepest whole rest
so_far_numbered a b c fields deepest whole rest h nodes types more = record {
  keeps = keeps_on a b c h.keeps (keeps_numbers b c nodes types more);
  below = rw nodes h.below;
  given = rw nodes h.given;
  deep = rw nodes h.deep;
}

-- what holds of a builder holds of another with the same nodes, names and visible fields
pub keeps_as : (a b c : Builder) → c.nodes ≡ b.nodes → c.names ≡ b.names → Keeps a b → Keeps a c
keeps_as a b c nodes names h = record {
  grows = rw nodes h.grows;
  known = rw (nodes, names) h.known;
  types = rw names h.types;
  numbers = rw names h.numbers;
}

pub so_far_as : (a b c : Builder) (fields : List Field) (deepest : ℕ) (whole rest : Result Fields FaultKind) →
    FieldsSoFar a b fields deepest whole rest → c.nodes ≡ b.nodes → c.names ≡ b.names →
    FieldsSoFar a c fields deepest whole rest
so_far_as a b c fields deepest whole rest h nodes names = record {
  keeps = keeps_as a b c nodes names h.keeps;
  below = rw nodes h.below;
  given = rw nodes h.given;
  deep = rw nodes h.deep;
}

-- what is built after others
pub built_after : (a b b' c : Builder) (r : Result Found FaultKind) (given whole : Result PokeType FaultKind) →
    Builds b' c r given → Keeps a b → b.seen ≡ a.seen → b'.nodes ≡ b.nodes → b'.names ≡ b.names → b'.seen ≡ b.seen →
    whole ≡ given → Builds a c r whole
built_after a b b' c r given whole h keeps seen nodes names same e =
    built_then a b' c r given whole (keeps_as a b b' nodes names keeps) (same ∙ seen) e h

pub built_as : (a b c : Builder) (fields : List Field) (deepest : ℕ) (fs : Fields) → c.nodes ≡ b.nodes →
    c.names ≡ b.names → c.seen ≡ b.seen → AreBuilt a b fields deepest fs → AreBuilt a c fields deepest fs
built_as a b c fields deepest fs nodes names seen h = record {
  keeps = keeps_as a b c nodes names h.keeps;
  seen = seen ∙ h.seen;
  below = rw nodes h.below;
  opened = rw nodes h.opened;
  deep = h.deep;
}
