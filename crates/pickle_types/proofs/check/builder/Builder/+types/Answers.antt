use Rattle.std.proofs.Common.{◌≡◌, List, map, [], ◌∷◌, ◌+◌, ◌-◌, Ok, length, drop, refl, sym, ap, ◌∙◌, arith, eqb-true}
use Rattle.std.proofs.lemmas.Bool.{eqb-false}
use Rattle.std.proofs.lemmas.List.{drop_all, length-append, take_all}
use Rattle.std.proofs.lemmas.List.Elements.{All-append}
use Rattle.std.proofs.lemmas.Result.{err_from_is_err_and}
use Rattle.pickle_tree.specs.Tree.{Plain, StringForm, OffsetForm, reference_tree, boxed_tree, form_tree, field_tree, fields_tree}
use Rattle.pickle_tree.specs.declared.tree.Field as tree
use Rattle.pickle_types.specs.declared.check.builder.Builder.{Builder}
use Rattle.pickle_types.specs.declared.node.Field.{Field}
use Rattle.pickle_types.specs.Types.{depth, StructOf}
use Rattle.pickle_types.specs.Table.{type_of, IsSoundField}
use Rattle.pickle_types.specs.Meaning.{meaning, fields_meaning, struct_place}
use Rattle.pickle_types.specs.Built.{bytes_now, words_in, names_in, part_of}
use Rattle.pickle_types.specs.DeclaredNodes.{field_nodes, alternative_nodes}
use Rattle.pickle_types.specs.Building.{known_types, visible_in, Keeps}
use Rattle.pickle_types.proofs.Forms.{reference_form, string_form, offset_form}
use Rattle.pickle_types.proofs.Growth.{type_kept}
use Rattle.pickle_types.proofs.Steps.{fails_bind}
use Rattle.pickle_types.proofs.Buildings.{meaning_plain, meaning_string, meaning_offset, meaning_array, meaning_struct, meaning_integral, meaning_union, built_then, visible_kept, array_depth, struct_depth, integral_depth, union_depth, parts_opened, parts_below, parts_sound, parts_few, some_alternative, integral_fits, integral_wrong, so_far_more, so_far_none, so_far_numbered, so_far_as, built_after, built_as, fields_next, drop_item, kept_on, builds_as, no_alternative, field_on, fields_end, all_built}
use Rattle.pickle_types.proofs.BuiltNodes.{form_on, parts_nodes, array_node, struct_node, integral_node, union_node, forms_none, forms_more, forms_end, ok_on, ok_any}
use Rattle.pickle_types.proofs.Selections.{names_of_parts}
use Rattle.pickle_types.proofs.Lists.{for_any, list_on}
use Rattle.pickle_types.proofs.check.builder.Builder.+types.Goals as goal

pub type_at-returns-then-room-eq0-clause-builds : goal.type_at-returns-then-room-eq0-clause-builds
unfolding meaning
type_at-returns-then-room-eq0-clause-builds t c = rw c.if-room-eq0.true refl

pub type_at-push-requires-clause-depth : goal.type_at-push-requires-clause-depth
unfolding depth
type_at-push-requires-clause-depth t c = refl

pub type_at-returns-in-Reference-clause-builds : goal.type_at-returns-in-Reference-clause-builds
type_at-returns-in-Reference-clause-builds t c =
    let b = c.args.self.now in
    let w : form_tree c.args.form.now ≡ Plain (reference_tree c.in-Reference.reference) = ap form_tree c.in-Reference.is
    ∙ reference_form c.in-Reference.reference in
    let m = meaning_plain (known_types b) (visible_in b) c.args.levels (bytes_now c.args.title.name) c.args.room
    (reference_tree c.in-Reference.reference) (omega arith) in
    builds_as _ _ c.plain_at.result _ _ (rw (w, m) refl) c.plain_at.ensures.builds

pub type_at-returns-in-String-clause-builds : goal.type_at-returns-in-String-clause-builds
type_at-returns-in-String-clause-builds t c =
    let b = c.args.self.now in
    let w : form_tree c.args.form.now ≡ StringForm = ap form_tree c.in-String.is ∙ string_form in
    let m = meaning_string (known_types b) (visible_in b) c.args.levels (bytes_now c.args.title.name)
    c.args.room (omega arith) in
    builds_as _ _ c.push.result _ _ (rw (w, m) refl) c.push.ensures.builds

pub type_at-returns-in-Offset-clause-builds : goal.type_at-returns-in-Offset-clause-builds
type_at-returns-in-Offset-clause-builds t c =
    let b = c.args.self.now in
    let w : form_tree c.args.form.now ≡ OffsetForm (reference_tree c.in-Offset.reference.value) c.in-Offset.unit =
    ap form_tree c.in-Offset.is ∙ offset_form c.in-Offset.reference c.in-Offset.unit in
    let m = meaning_offset (known_types b) (visible_in b) c.args.levels (bytes_now c.args.title.name) c.args.room
    (reference_tree c.in-Offset.reference.value) c.in-Offset.unit (omega arith) in
    builds_as _ _ c.offset_at.result _ _ (rw (w, m, c.deref.ensures) refl) c.offset_at.ensures.builds

pub array_at-returns-in-Err-clause-builds : goal.array_at-returns-in-Err-clause-builds
array_at-returns-in-Err-clause-builds t c =
    let b = c.args.self.now in
    let m = meaning_array (known_types b) (visible_in b) c.args.levels (bytes_now c.args.title.name) c.args.room
    (form_tree c.args.element.now) (boxed_tree c.args.bound.now) (omega arith) in
    rw m (fails_bind _ _ _ c.in-Err.ensures.builds)

pub array_at-returns-in-Err-bound_expression-clause-builds : goal.array_at-returns-in-Err-bound_expression-clause-builds
array_at-returns-in-Err-bound_expression-clause-builds t c =
    let b = c.args.self.now in
    let m = meaning_array (known_types b) (visible_in b) c.args.levels (bytes_now c.args.title.name) c.args.room
    (form_tree c.args.element.now) (boxed_tree c.args.bound.now) (omega arith) in
    let e = c.in-Ok.ensures.builds in
    let seen = visible_kept b c.type_at.new.self e.2.keeps e.2.seen c.args.levels c.requires.seen in
    let h = rw (e.2.keeps.known, seen) at c.in-Err-bound_expression.ensures.gives in
    rw (m, e.1) (fails_bind _ _ _ h)

pub array_at-push-requires-clause-depth : goal.array_at-push-requires-clause-depth
array_at-push-requires-clause-depth t c =
    let e = c.in-Ok.ensures.builds in
    let d = e.2.deep in
    rw (array_depth _ _, e.2.type) (omega arith)

pub array_at-returns-clause-builds : goal.array_at-returns-clause-builds
array_at-returns-clause-builds t c =
    let b = c.args.self.now in
    let m = meaning_array (known_types b) (visible_in b) c.args.levels (bytes_now c.args.title.name) c.args.room
    (form_tree c.args.element.now) (boxed_tree c.args.bound.now) (omega arith) in
    let e = c.in-Ok.ensures.builds in
    let seen = visible_kept b c.type_at.new.self e.2.keeps e.2.seen c.args.levels c.requires.seen in
    let h = rw (e.2.keeps.known, seen) at c.in-Ok-bound_expression.ensures.gives in
    built_then _ _ _ c.push.result _ _ e.2.keeps e.2.seen (rw (m, e.1, h, e.2.type) refl) c.push.ensures.builds

pub struct_at-returns-in_err-fields-clause-builds : goal.struct_at-returns-in_err-fields-clause-builds
struct_at-returns-in_err-fields-clause-builds t c =
    let p = err_from_is_err_and c.from_residual.result c.from_residual.ensures.1 in
    let b = c.args.self.now in
    let m = meaning_struct (known_types b) (visible_in b) c.args.levels (bytes_now c.args.title.name) c.args.room
    c.args.pinned (fields_tree c.args.written.now) (omega arith) in
    let h = rw c.struct_place.ensures at c.in_err-fields.ensures.builds in
    let meant = fields_meaning (known_types b) (struct_place c.args.pinned) (visible_in b) c.args.levels
    (c.args.room - 1) [] (fields_tree c.args.written.now) in
    rw (p.1, p.2, m) (fails_bind _ meant (λ fs. Ok (StructOf (bytes_now c.args.title.name) c.args.pinned fs)) h)

pub struct_at-push-requires-clause-depth : goal.struct_at-push-requires-clause-depth
struct_at-push-requires-clause-depth t c =
    let e = c.in_ok-fields.ensures.builds in
    let d = e.2.deep in
    rw (struct_depth _ _ _, c.into_parts-fields.ensures.fields, e.2.opened) (omega arith)

pub struct_at-returns-clause-builds : goal.struct_at-returns-clause-builds
struct_at-returns-clause-builds t c =
    let b = c.args.self.now in
    let m = meaning_struct (known_types b) (visible_in b) c.args.levels (bytes_now c.args.title.name) c.args.room
    c.args.pinned (fields_tree c.args.written.now) (omega arith) in
    let e = c.in_ok-fields.ensures.builds in
    let h = rw c.struct_place.ensures at e.1 in
    built_then _ _ _ c.push.result _ _ e.2.keeps e.2.seen
    (rw (m, h, c.into_parts-fields.ensures.fields, e.2.opened, c.in_ok-name.ensures.ok) refl) c.push.ensures.builds

pub integral_at-returns-in_err-number-clause-builds : goal.integral_at-returns-in_err-number-clause-builds
integral_at-returns-in_err-number-clause-builds t c =
    let p = err_from_is_err_and c.from_residual.result c.from_residual.ensures.1 in
    let b = c.args.self.now in
    let m = meaning_integral (known_types b) (visible_in b) c.args.levels (bytes_now c.args.title.name) c.args.room
    (reference_tree c.args.reference.now) (fields_tree c.args.written.now) (omega arith) in
    let h = c.in_err-number.ensures.gives in
    rw (p.1, p.2, m) (fails_bind _ _ _ h)

pub integral_at-returns-in_err-fields-clause-builds : goal.integral_at-returns-in_err-fields-clause-builds
integral_at-returns-in_err-fields-clause-builds t c =
    let p = err_from_is_err_and c.from_residual-in_err-fields.result c.from_residual-in_err-fields.ensures.1 in
    let b = c.args.self.now in
    let m = meaning_integral (known_types b) (visible_in b) c.args.levels (bytes_now c.args.title.name) c.args.room
    (reference_tree c.args.reference.now) (fields_tree c.args.written.now) (omega arith) in
    let n = c.in_ok-number.ensures.gives in
    rw (p.1, p.2, m, n) (fails_bind _ _ _ c.in_err-fields.ensures.builds)

pub integral_at-returns-then-width-from-clause-builds : goal.integral_at-returns-then-width-from-clause-builds
integral_at-returns-then-width-from-clause-builds t c =
    let b = c.args.self.now in
    let m = meaning_integral (known_types b) (visible_in b) c.args.levels (bytes_now c.args.title.name) c.args.room
    (reference_tree c.args.reference.now) (fields_tree c.args.written.now) (omega arith) in
    let n = c.in_ok-number.ensures.gives in
    let e = c.in_ok-fields.ensures.builds in
    let w = rw (c.deref.ensures.value, c.into_parts-fields.ensures.fields, e.2.opened) at c.total_width-width.ensures in
    let wrong = integral_wrong (bytes_now c.args.title.name) c.in_ok-number.number e.0
    (λ eq. c.if-width-from.true (w ∙ eq ∙ sym c.from.ensures)) in
    rw (m, n, e.1) wrong

pub integral_at-push-requires-clause-below : goal.integral_at-push-requires-clause-below
integral_at-push-requires-clause-below t c = (
  c.in_ok-number.ensures.wide,
  rw (c.in_ok-fields-2.ensures.ok, c.into_parts-fields.ensures.fields)
      (parts_below _ c.in_ok-fields.fields.fields.items c.in_ok-fields.ensures.builds.2.below),
)

pub integral_at-push-requires-clause-sound : goal.integral_at-push-requires-clause-sound
integral_at-push-requires-clause-sound t c = rw (c.in_ok-fields-2.ensures.ok, c.into_parts-fields.ensures.fields)
    (parts_sound c.in_ok-fields.fields.fields.items c.in_ok-fields.ensures.sound)

pub integral_at-push-requires-clause-depth : goal.integral_at-push-requires-clause-depth
integral_at-push-requires-clause-depth t c =
    let e = c.in_ok-fields.ensures.builds in
    let d = e.2.deep in
    rw (
      c.in_ok-fields-2.ensures.ok,
      c.into_parts-fields.ensures.fields,
      parts_opened _ c.in_ok-fields.fields.fields.items,
      e.2.opened,
      integral_depth _ _ _,
    ) (omega arith)

pub integral_at-returns-clause-builds : goal.integral_at-returns-clause-builds
integral_at-returns-clause-builds t c =
    let b = c.args.self.now in
    let m = meaning_integral (known_types b) (visible_in b) c.args.levels (bytes_now c.args.title.name) c.args.room
    (reference_tree c.args.reference.now) (fields_tree c.args.written.now) (omega arith) in
    let n = c.in_ok-number.ensures.gives in
    let e = c.in_ok-fields.ensures.builds in
    let w = rw (c.deref.ensures.value, c.into_parts-fields.ensures.fields, e.2.opened) at c.total_width-width.ensures in
    let fits = integral_fits (bytes_now c.args.title.name) c.in_ok-number.number e.0
    (sym w ∙ c.if-width-from.false ∙ c.from.ensures) in
    let parts = parts_opened (type_of c.fields_at.new.self.nodes) c.in_ok-fields.fields.fields.items in
    let keeps : Keeps b c.fields_at.new.self = record {
      grows = e.2.keeps.grows;
      known = e.2.keeps.known;
      types = e.2.keeps.types;
      numbers = e.2.keeps.numbers;
    } in
    built_after b c.fields_at.new.self _ _ c.push.result _ _ c.push.ensures.builds keeps e.2.seen refl refl refl (rw (
      m,
      n,
      e.1,
      fits,
      c.in_ok-fields-2.ensures.ok,
      c.into_parts-fields.ensures.fields,
      parts,
      e.2.opened,
      c.in_ok-name.ensures.ok,
    ) refl)

pub union_at-returns-then-is_empty-clause-builds : goal.union_at-returns-then-is_empty-clause-builds
union_at-returns-then-is_empty-clause-builds t c =
    let b = c.args.self.now in
    let m = meaning_union (known_types b) (visible_in b) c.args.levels (bytes_now c.args.title.name) c.args.room
    (fields_tree c.args.written.now) (omega arith) in
    let none = no_alternative c.args.written.now (eqb-true _ _ (sym c.if-is_empty.ensures)) in
    rw (m, none) refl

pub union_at-returns-in_err-fields-clause-builds : goal.union_at-returns-in_err-fields-clause-builds
union_at-returns-in_err-fields-clause-builds t c =
    let p = err_from_is_err_and c.from_residual.result c.from_residual.ensures.1 in
    let b = c.args.self.now in
    let m = meaning_union (known_types b) (visible_in b) c.args.levels (bytes_now c.args.title.name) c.args.room
    (fields_tree c.args.written.now) (omega arith) in
    let nonzero : length c.args.written.now ≡ 0 → ⊥ = eqb-false _ _ (sym c.if-is_empty.ensures) in
    let some = some_alternative c.args.written.now (omega arith) in
    rw (p.1, p.2, m, some) (fails_bind _ _ _ c.in_err-fields.ensures.builds)

pub union_at-push-requires-clause-below : goal.union_at-push-requires-clause-below
union_at-push-requires-clause-below t c = rw (c.in_ok-alternatives.ensures.ok, c.into_parts-fields.ensures.fields)
    (parts_below _ c.in_ok-fields.fields.fields.items c.in_ok-fields.ensures.builds.2.below)

pub union_at-push-requires-clause-sound : goal.union_at-push-requires-clause-sound
union_at-push-requires-clause-sound t c = rw (c.in_ok-alternatives.ensures.ok, c.into_parts-fields.ensures.fields) (
  parts_sound c.in_ok-fields.fields.fields.items c.in_ok-fields.ensures.sound,
  parts_few c.in_ok-fields.fields.fields.items c.args.written.now c.in_ok-fields.ensures.count c.requires.within.0,
)

pub union_at-push-requires-clause-depth : goal.union_at-push-requires-clause-depth
union_at-push-requires-clause-depth t c =
    let e = c.in_ok-fields.ensures.builds in
    let d = e.2.deep in
    rw (
      c.in_ok-alternatives.ensures.ok,
      c.into_parts-fields.ensures.fields,
      parts_opened _ c.in_ok-fields.fields.fields.items,
      e.2.opened,
      union_depth _ _,
    ) (omega arith)

pub union_at-returns-clause-builds : goal.union_at-returns-clause-builds
union_at-returns-clause-builds t c =
    let b = c.args.self.now in
    let m = meaning_union (known_types b) (visible_in b) c.args.levels (bytes_now c.args.title.name) c.args.room
    (fields_tree c.args.written.now) (omega arith) in
    let nonzero : length c.args.written.now ≡ 0 → ⊥ = eqb-false _ _ (sym c.if-is_empty.ensures) in
    let some = some_alternative c.args.written.now (omega arith) in
    let e = c.in_ok-fields.ensures.builds in
    let parts = parts_opened (type_of c.fields_at.new.self.nodes) c.in_ok-fields.fields.fields.items in
    built_then _ _ _ c.push.result _ _ e.2.keeps e.2.seen (rw (
      m,
      some,
      e.1,
      c.in_ok-alternatives.ensures.ok,
      c.into_parts-fields.ensures.fields,
      parts,
      e.2.opened,
      c.in_ok-name.ensures.ok,
    ) refl) c.push.ensures.builds

pub field_at-returns-clause-builds : goal.field_at-returns-clause-builds
field_at-returns-clause-builds t c =
    let b = c.args.self.now in
    let e = c.in_ok-found.ensures.builds in
    let given = rw c.form_in.ensures at e.1 in
    let seen =
    visible_kept b c.type_at.new.self e.2.keeps e.2.seen (c.args.levels + 1) c.requires.seen in
    let g = c.in_ok-field.ensures.gives in
    let h = rw (e.2.keeps.known, seen, e.2.type) at g.1 in
    let same = type_kept c.type_at.new.self.nodes c.field_of.new.self.nodes c.type_at.new.self.table g.2.keeps.grows
    c.in_ok-found.found.node e.2.inside in
    let node = rw c.in_ok-field.ensures.node at g.2.type in (
      g.0,
      rw given h,
      field_on b c.type_at.new.self c.field_of.new.self c.args.place c.args.levels _ _ _ _ e.2.keeps e.2.seen seen g.2,
      e.2.deep ∙ ap depth (sym e.2.type ∙ sym same ∙ node),
    )

pub fields_at-loop-f-init : goal.fields_at-loop-f-init
fields_at-loop-f-init t c = record {
  low = omega arith;
  count = rw c.in_ok-fields.ensures.none refl;
  within = c.requires.within;
  few = omega arith;
  kept = take_all _ _ (omega arith);
  below = λ k d lt. let b = c.requires.seen k d lt in record { node = b.node; level = omega arith };
  list = c.in_ok-fields.ensures.list (words_in c.args.self.now.names);
  sound = rw c.in_ok-fields.ensures.none (λ k d lt. absurd (omega arith));
  so_far = rw c.in_ok-fields.ensures.none (so_far_none c.args.self.now [] _ refl);
  forms = forms_none c.args.self.now (fields_tree c.args.written.now) _ c.in_ok-fields.ensures.none;
}

pub fields_at-field_at-requires : goal.fields_at-field_at-requires
fields_at-field_at-requires t c =
    let i = c.loop-f.invariant in
    let e = drop_item c.args.written.now c.loop-f.f-index c.f-item.result (omega arith) c.f-item.is in
    let before = rw e at i.few in
    -- the measure falls; then what is required
    (
      omega arith,
      (i.below, (c.requires.few, (i.list, ((rw e at i.within).0, omega arith)))),
    )

pub fields_at-loop-f-preserved : goal.fields_at-loop-f-preserved
fields_at-loop-f-preserved t c =
    let a = c.args.self.now in
    let b = c.loop-f.self in
    let n = c.field_at.new.self in
    let m : Builder =
    record {
      alloc = n.alloc;
      names = c.push.new.names;
      nodes = n.nodes;
      seen = n.seen;
      site = n.site;
      table = n.table;
      named = rw c.push.ensures.types n.named;
    } in
    let fields = c.loop-f.fields.fields.items in
    let i = c.loop-f.invariant in
    let h = c.in-Ok.ensures.builds in
    let low = c.in-Ok.ensures.low in
    let e = drop_item c.args.written.now c.loop-f.f-index c.f-item.result (omega arith) c.f-item.is in
    let given = rw i.so_far.keeps.known at h.1 in
    let before = rw e at i.few in
    let added = c.in-Ok.ensures.few in
    let next = fields_next (known_types a) c.args.place (visible_in b) (visible_in n) c.args.levels c.args.room fields
    c.in-Ok.built.0 c.f-item.result (drop (c.loop-f.f-index + 1) c.args.written.now) h.0 given h.2.name h.2.seen in
    let step = ap (λ (l : List tree.Field). fields_meaning (known_types a) c.args.place (visible_in b) c.args.levels
    c.args.room (names_in fields) (fields_tree l)) e ∙ next in
    record {
      low = rw c.max-deepest.ensures (omega arith);
      count = rw c.in_ok-push.ensures.ok (length-append fields (c.in-Ok.built.0 ∷ []) ∙ ap (λ k. k + 1) i.count);
      within = (rw e at i.within).2;
      few = omega arith;
      kept = kept_on c.len-mark.result a.seen b.seen n.seen i.kept (omega arith) h.2.kept;
      below = h.2.below;
      sound = rw c.in_ok-push.ensures.ok (All-append IsSoundField fields (c.in-Ok.built.0 ∷ []) i.sound
          (λ k d lt. let z : k ≡ 0 = omega arith in rw z c.in-Ok.ensures.sound));
      list = c.in_ok-push.ensures.list;
      so_far = rw (c.in_ok-push.ensures.ok, c.max-deepest.ensures) (so_far_as a m _ _ _ _ _
          (so_far_numbered a n m _ _ _ _ (so_far_more a b n fields c.in-Ok.built.0 c.loop-f.deepest c.in-Ok.built.1
          c.args.place c.args.levels _ _ h.0 _ _ _ i.so_far h.2 h.3 step)
          refl c.in_ok-push.ensures.types c.in_ok-push.ensures.kept) refl refl);
      forms = rw c.in_ok-push.ensures.ok (forms_more b n m (fields_tree c.args.written.now) fields c.in-Ok.built.0
          c.f-item.result (drop (c.loop-f.f-index + 1) c.args.written.now) h.2.keeps refl c.in_ok-push.ensures.types
          (rw e at i.forms) c.in-Ok.ensures.node);
    }

pub field_at-returns-in_err-field-clause-builds : goal.field_at-returns-in_err-field-clause-builds
field_at-returns-in_err-field-clause-builds t c =
    let p = err_from_is_err_and c.from_residual-in_err-field.result c.from_residual-in_err-field.ensures.1 in
    let b = c.args.self.now in
    let e = c.in_ok-found.ensures.builds in
    let given = rw c.form_in.ensures at e.1 in
    let seen =
    visible_kept b c.type_at.new.self e.2.keeps e.2.seen (c.args.levels + 1) c.requires.seen in
    let h = rw (e.2.keeps.known, seen, e.2.type) at c.in_err-field.ensures.gives in
    rw (p.1, p.2, given) h

pub fields_at-returns-clause-builds : goal.fields_at-returns-clause-builds
fields_at-returns-clause-builds t c =
    let a = c.args.self.now in
    let b = c.loop-f.self in
    let n : Builder =
    record {
      alloc = b.alloc;
      names = b.names;
      nodes = b.nodes;
      seen = c.truncate.new.self;
      site = b.site;
      table = b.table;
      named = b.named;
    } in
    let i = c.loop-f.invariant in
    let none = drop_all c.loop-f.f-index c.args.written.now (omega arith) in
    let end = fields_end (known_types a) c.args.place (visible_in b) c.args.levels c.args.room _ _ none in
    let all = all_built a b n c.loop-f.fields.fields.items c.loop-f.deepest _ _ i.so_far end refl refl
    (c.truncate.ensures ∙ i.kept) in
    (all.0, all.1, built_as a n _ _ _ _ refl refl refl all.2)

pub integral_at-push-requires-clause-distinct : goal.integral_at-push-requires-clause-distinct
integral_at-push-requires-clause-distinct t c = rw
    (c.in_ok-fields-2.ensures.ok, c.into_parts-fields.ensures.fields, names_of_parts c.in_ok-fields.fields.fields.items)
    (for_any c.into_parts-fields.result.1 c.in_ok-fields.ensures.distinct)

pub union_at-push-requires-clause-distinct : goal.union_at-push-requires-clause-distinct
union_at-push-requires-clause-distinct t c = rw (
  c.in_ok-alternatives.ensures.ok,
  c.into_parts-fields.ensures.fields,
  names_of_parts c.in_ok-fields.fields.fields.items,
) (for_any c.into_parts-fields.result.1 c.in_ok-fields.ensures.distinct)

pub struct_at-push-requires-clause-distinct : goal.struct_at-push-requires-clause-distinct
struct_at-push-requires-clause-distinct t c =
    rw c.into_parts-fields.ensures.fields (for_any c.into_parts-fields.result.1 c.in_ok-fields.ensures.distinct)

pub field_at-field_of-requires-clause-list : goal.field_at-field_of-requires-clause-list
field_at-field_of-requires-clause-list t c =
    list_on _ _ c.args.before.now c.requires.list c.in_ok-found.ensures.builds.2.keeps.numbers

pub fields_at-push-requires-clause-list : goal.fields_at-push-requires-clause-list
fields_at-push-requires-clause-list t c =
    list_on _ _ c.loop-f.fields c.loop-f.invariant.list c.in-Ok.ensures.builds.2.keeps.numbers

pub type_at-returns-in-Reference-clause-node : goal.type_at-returns-in-Reference-clause-node
type_at-returns-in-Reference-clause-node t c =
    let w : form_tree c.args.form.now ≡ Plain (reference_tree c.in-Reference.reference) = ap form_tree c.in-Reference.is
    ∙ reference_form c.in-Reference.reference in
    rw w c.plain_at.ensures.node

pub type_at-returns-in-String-clause-node : goal.type_at-returns-in-String-clause-node
type_at-returns-in-String-clause-node t c =
    let w : form_tree c.args.form.now ≡ StringForm = ap form_tree c.in-String.is ∙ string_form in
    rw w (ok_any c.push.result)

pub type_at-returns-in-Offset-clause-node : goal.type_at-returns-in-Offset-clause-node
type_at-returns-in-Offset-clause-node t c =
    let w : form_tree c.args.form.now ≡ OffsetForm (reference_tree c.in-Offset.reference.value) c.in-Offset.unit =
    ap form_tree c.in-Offset.is ∙ offset_form c.in-Offset.reference c.in-Offset.unit in
    rw w (ok_any c.offset_at.result)

pub array_at-returns-clause-node : goal.array_at-returns-clause-node
array_at-returns-clause-node t c =
    ok_on _ _ c.push.result (λ found last.
    array_node c.type_at.new.self c.push.new.self c.push.ensures.names found.node _ last (form_tree c.args.element.now)
    (boxed_tree c.args.bound.now) c.in-Ok.found.node refl c.in-Ok.ensures.node) c.push.ensures.node

pub struct_at-returns-clause-node : goal.struct_at-returns-clause-node
struct_at-returns-clause-node t c =
    ok_on _ _ c.push.result
    (λ found last. struct_node c.fields_at.new.self c.push.new.self c.push.ensures.names found.node _ last c.args.pinned
    (fields_tree c.args.written.now) (field_nodes c.in_ok-fields.fields.fields.items)
    (ap field_nodes c.into_parts-fields.ensures.fields) c.in_ok-fields.ensures.nodes) c.push.ensures.node

pub integral_at-returns-clause-node : goal.integral_at-returns-clause-node
integral_at-returns-clause-node t c =
    let parts = ap alternative_nodes c.in_ok-fields-2.ensures.ok
    ∙ ap (λ (fs : List Field). alternative_nodes (map part_of fs)) c.into_parts-fields.ensures.fields
    ∙ parts_nodes c.in_ok-fields.fields.fields.items in
    ok_on _ _ c.push.result
    (λ found last. integral_node c.fields_at.new.self c.push.new.self c.push.ensures.names found.node _ last
    (reference_tree c.args.reference.now) (fields_tree c.args.written.now)
    (field_nodes c.in_ok-fields.fields.fields.items) parts c.in_ok-fields.ensures.nodes) c.push.ensures.node

pub union_at-returns-clause-node : goal.union_at-returns-clause-node
union_at-returns-clause-node t c =
    let parts = ap alternative_nodes c.in_ok-alternatives.ensures.ok
    ∙ ap (λ (fs : List Field). alternative_nodes (map part_of fs)) c.into_parts-fields.ensures.fields
    ∙ parts_nodes c.in_ok-fields.fields.fields.items in
    ok_on _ _ c.push.result
    (λ found last. union_node c.fields_at.new.self c.push.new.self c.push.ensures.names found.node _ last
    (fields_tree c.args.written.now) (field_nodes c.in_ok-fields.fields.fields.items) parts
    c.in_ok-fields.ensures.nodes) c.push.ensures.node

pub field_at-returns-clause-node : goal.field_at-returns-clause-node
field_at-returns-clause-node t c =
    let g = c.in_ok-field.ensures.gives in
    rw c.in_ok-field.ensures.node (form_on c.type_at.new.self c.field_of.new.self g.2.keeps.grows g.2.keeps.types
    (field_tree c.args.written.now).form c.in_ok-found.found.node (rw c.form_in.ensures at c.in_ok-found.ensures.node))

pub fields_at-returns-clause-nodes : goal.fields_at-returns-clause-nodes
fields_at-returns-clause-nodes t c =
    let none = drop_all c.loop-f.f-index c.args.written.now (omega arith) in
    forms_end c.loop-f.self (fields_tree c.args.written.now) _ c.loop-f.fields.fields.items
    (ap fields_tree none) c.loop-f.invariant.forms

pub fields_at-invariant_of-self-in-loop-f-clause-named : goal.fields_at-invariant_of-self-in-loop-f-clause-named
fields_at-invariant_of-self-in-loop-f-clause-named t c = rw c.push.ensures.types c.field_at.new.self.named
