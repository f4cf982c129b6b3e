-- The plan of a type of fixed layout is alike whatever the frame has that its constraints avoid: that of the array
-- around it.
use Rattle.std.proofs.Common.{◌≡◌, ℕ, zero, suc, ◌+◌, ◌-◌, max, Bool, true, false, List, [], ◌∷◌, ◌++◌, Option, Some, None, Result, Ok, Err, refl, ap, subst, arith}
use Rattle.std.specs.Prelude.{if◌then◌else◌, nat_eq, nat_le}
use Rattle.bit_space.specs.declared.order.Order.{Order}
use Rattle.pickle_types.specs.declared.integer.IntegerType.{IntegerType}
use Rattle.pickle_types.specs.Types.{Term, PokeType, IntegerOf, OffsetOf, StringOf, ArrayOf, StructOf, IntegralOf, UnionOf, Bound, Fields, NoFields, FieldThen, Parts, NoParts, PartThen}
use Rattle.pickle_types.specs.Bounds.{least_width, count_of}
use Rattle.pickle_meaning.specs.declared.extent.Extent.{Extent}
use Rattle.pickle_meaning.specs.Clauses.{FaultAt, constraint, clause_steps, condition, field_start, extent_of, bound_steps, is_due, is_met, ends_before}
use Rattle.pickle_meaning.specs.Means.{Opened, number_type, width_in, first_digits, ordered, integer_value, offset_value, field_names, part_names, array_value, struct_value}
use Rattle.pickle_meaning.specs.Values.{Value, end_of, Levels, pushed, opened}
use Rattle.value_store.specs.Moves.{Move, Opens, Drops, Places, Packs, Closes}
use Rattle.mapping_plans.specs.Avoids.{ClauseAvoids}
use Rattle.mapping_plans.specs.Plan.{Plan, after, then_ok, framed, as_row}
use Rattle.mapping_plans.specs.Mapping.{from_inside, closes, constrained, number_plan, digits_plan, read_plan, array_move, element_plan, after_element, elements_plan, array_closes, plan, fields_plan}
use Rattle.mapping_plans.specs.Rows.{Row, Numbers, Values, Layout, literal_count, scalar_width, clause_avoids, layout_of, fields_layout, parts_layout, row_of}
use Rattle.mapping_plans.proofs.Alike.{Alike, ended_alike, tick_alike, made_alike, read_alike, Both, Same, then_alike, ok_alike, after_alike, either_alike, framed_alike}
use Rattle.mapping_plans.proofs.Avoiding.{Agree, constrained_alike, steps_alike}
use Rattle.mapping_plans.proofs.Layouts.{struct_laid, integral_laid, array_laid, no_clause, plain_field, part_laid, element_laid}
use Rattle.mapping_plans.proofs.NumberArrays.{literal_extent, literal_steps}

-- one more frame inside
inside_agree : (level : ℕ) (here there : Levels) → Agree level here there → (members : List (Option Value)) →
    Agree (level + 1) (members ∷ here) (members ∷ there)
inside_agree level here there agree members zero place other = refl
inside_agree level here there agree members (suc named) place other =
    agree named place (λ same. other (omega (arith, same)))

-- frames that differ in the innermost one alone
array_agrees : (before before' : List (Option Value)) (outer : Levels) → Agree 0 (before ∷ outer) (before' ∷ outer)
array_agrees before before' outer zero place other = absurd (other refl)
array_agrees before before' outer (suc named) place other = refl

-- the innermost frame of others, on both sides
abbrev InLevels : (here there : Levels) → Levels → Levels → Type 0
InLevels here there r t = (fields : List (Option Value)) × (r ≡ fields ∷ here) × (t ≡ fields ∷ there)

abbrev InOpened : (here there : Levels) → Opened → Opened → Type 0
InOpened here there r t =
    (fields : List (Option Value)) × (r ≡ (fields ∷ here, t.1)) × (t.0 ≡ fields ∷ there)

both_same : {A F : Type 0} (r : Result A F) → Both Same r r
both_same (Ok a) = refl
both_same (Err f) = refl

-- frames that may be paired at a move
module _ (Pair : Move → Levels → Levels → Type 0)
    (takes : (move : Move) (levels levels' : Levels) (v : Option Value) →
    Pair move (pushed levels v) (pushed levels' v))
    (opens : (levels levels' : Levels) → Pair Opens levels levels')
    (drops : (levels levels' : Levels) → Pair Drops levels levels') where
  constrained_unseen : (level : ℕ) (here there : Levels) → Agree level here there → (c : Option Term) →
      ClauseAvoids level c → (place : ℕ) (v : Value) (more more' : Levels) → pushed more (Some v) ≡ here →
      pushed more' (Some v) ≡ there →
      Alike Pair (Both Same) (constrained c more place v) (constrained c more' place v)
  unfolding constrained
  constrained_unseen level here there agree c h place v more more' e e' =
      rw (e, e', steps_alike level here there agree c h, constrained_alike level here there agree c h place)
      (ok_alike {Mid = Same} {Ends = Same} _ _ (after_alike (clause_steps c there) (constraint c there place)
      (constraint c there place) (both_same (constraint c there place))) (λ a b e. ended_alike refl))

  -- a value of a frame that is closed
  closes_unseen : (move : Move) (make : Levels → Value) (here there : Levels) → ((fields : List (Option Value)) →
      make (fields ∷ here) ≡ make (fields ∷ there)) → (r t : Levels) → InLevels here there r t →
      Alike Pair (Both Same) (closes move make r) (closes move make t)
  closes_unseen move make here there same r t (fields, e, e') =
      rw (e, e', same fields) (made_alike (takes move here there (Some (make (fields ∷ there)))) (ended_alike refl))

  -- the same of one that ends where its last member does
  closed : (move : Move) (make : (end : ℕ) → Levels → Value) (here there : Levels) →
      ((end : ℕ) (fields : List (Option Value)) → make end (fields ∷ here) ≡ make end (fields ∷ there)) →
      (r t : Opened) → InOpened here there r t →
      Alike Pair (Both Same) (closes move (make r.1) r.0) (closes move (make t.1) t.0)
  closed move make here there same r t (members, e, e') =
      let ends : r.1 ≡ t.1 = ap (λ (x : Opened). x.1) e in
      let inside : r.0 ≡ members ∷ here = ap (λ (x : Opened). x.0) e in
      rw ends (closes_unseen move (make t.1) here there (same t.1) r.0 t.0 (members, inside, e'))

  mutual
    unfolding number_plan

    number_unseen : (level : ℕ) (ty : PokeType) (l : Layout) → layout_of level ty ≡ Some l → (n : ℕ)
        (here there : Levels) → Agree level here there → (s : ℕ) →
        Alike Pair (Both Same) (number_plan ty n here s) (number_plan ty n there s)
    number_unseen level (IntegerOf type) l h n here there agree s =
        made_alike (takes Places here there (Some (integer_value type n s))) (ended_alike refl)
    number_unseen level (OffsetOf type unit) l h n here there agree s =
        made_alike (takes Places here there (Some (offset_value type unit n s))) (ended_alike refl)
    number_unseen level StringOf l h n here there agree s = ended_alike refl
    number_unseen level (ArrayOf element bound) l h n here there agree s = ended_alike refl
    number_unseen level (StructOf name pinned _) l h n here there agree s = ended_alike refl
    number_unseen level (IntegralOf name type fields) l h n here there agree s =
        framed_alike {Ends = Same} here there opens drops
        (ok_alike {Mid = InLevels here there} {Ends = Same} _ _
        (digits_unseen (level + 1) fields l (integral_laid level type.width fields l h).laid n type.width here there
        (inside_agree level here there agree) [] s)
        (closes_unseen Closes (struct_value name (part_names fields) s (s + type.width)) here there (λ members. refl)))
    number_unseen level (UnionOf name alternatives) l h n here there agree s = ended_alike refl

    digits_unseen : (level : ℕ) (parts : Parts) (l : Layout) → parts_layout level parts ≡ Some l → (n left : ℕ)
        (here there : Levels) →
        ((members : List (Option Value)) → Agree level (members ∷ here) (members ∷ there)) →
        (members : List (Option Value)) (s : ℕ) →
        Alike Pair (Both (InLevels here there)) (digits_plan parts n left (members ∷ here) s)
        (digits_plan parts n left (members ∷ there) s)
    digits_unseen level NoParts l h n left here there agree members s = ended_alike (members, refl, refl)
    digits_unseen level (PartThen name set ty c rest) l h n left here there agree members s =
        let f = part_laid level ty c (parts_layout level rest) l h in
        tick_alike (ok_alike {Mid = Same} {Ends = InLevels here there} _ _
        (ok_alike {Mid = Same} {Ends = Same} _ _
        (tick_alike (number_unseen level ty f.one f.laid (first_digits n left (width_in (number_type ty)))
        (members ∷ here) (members ∷ there) (agree members) s))
        (λ v w e. subst (λ x. Alike Pair (Both Same) (constrained c (members ∷ here) s v)
        (constrained c (members ∷ there) s x)) e
        (constrained_unseen level ((members ++ Some v ∷ []) ∷ here) ((members ++ Some v ∷ []) ∷ there)
        (agree (members ++ Some v ∷ [])) c f.avoids s v (members ∷ here) (members ∷ there) refl refl)))
        (λ v w e. subst (λ x. Alike Pair (Both (InLevels here there))
        (digits_plan rest n (left - width_in (number_type ty)) ((members ++ Some v ∷ []) ∷ here) s)
        (digits_plan rest n (left - width_in (number_type ty)) ((members ++ Some x ∷ []) ∷ there) s)) e
        (digits_unseen level rest f.more f.rest n (left - width_in (number_type ty)) here there agree
        (members ++ Some v ∷ []) s)))

  read_unseen : (m level : ℕ) (ty : PokeType) (l : Layout) → layout_of level ty ≡ Some l → (type : IntegerType)
      (order : Order) (here there : Levels) → Agree level here there → (s : ℕ) →
      Alike Pair (Both Same) (read_plan m ty type order here s) (read_plan m ty type order there s)
  unfolding read_plan
  read_unseen m level ty l h type order here there agree s =
      tick_alike (either_alike (nat_le (s + type.width) m)
      (read_alike (λ n. number_unseen level ty l h n here there agree s)) (ended_alike refl))

  inside_unseen : (m s : ℕ) {p q : Plan (Result Value FaultAt)} → Alike Pair (Both Same) p q →
      Alike Pair (Both Same) (from_inside m s p) (from_inside m s q)
  unfolding from_inside
  inside_unseen m s h = either_alike (nat_le s m) h (ended_alike refl)

  -- ---- arrays of numbers

  either_row : {A : Type 0} {Ends : A → A → Type 0} (row : Row) (t : Bool) (p p' q q' : Plan A) →
      Alike Pair Ends (as_row row p) (as_row row q) → Alike Pair Ends (as_row row p') (as_row row q') →
      Alike Pair Ends (as_row row (if t then p else p')) (as_row row (if t then q else q'))
  either_row row true p p' q q' h g = h
  either_row row false p p' q q' h g = g

  -- a number, as an element of such an array
  packed_unseen : (m : ℕ) (element : PokeType) (width : ℕ) → scalar_width element ≡ Some width → (order : Order)
      (here there : Levels) (s : ℕ) →
      Alike Pair (Both Same) (element_plan element (plan m element order) here s)
      (element_plan element (plan m element order) there s)
  unfolding plan from_inside read_plan number_plan
  packed_unseen m (IntegerOf type) width h order here there s =
      let row = Numbers type.width in
      either_row row (nat_le s m) _ _ _ _ (tick_alike (either_row row (nat_le (s + type.width) m) _ _ _ _
      (read_alike (λ n. made_alike (takes (Packs type.width) here there (Some (integer_value type n s)))
      (ended_alike refl))) (ended_alike refl))) (ended_alike refl)
  packed_unseen m (OffsetOf type unit) width h order here there s =
      let row = Numbers type.width in
      either_row row (nat_le s m) _ _ _ _ (tick_alike (either_row row (nat_le (s + type.width) m) _ _ _ _
      (read_alike (λ n. made_alike (takes (Packs type.width) here there (Some (offset_value type unit n s)))
      (ended_alike refl))) (ended_alike refl))) (ended_alike refl)
  packed_unseen m StringOf width h order here there s = absurd cc
  packed_unseen m (ArrayOf element bound) width h order here there s = absurd cc
  packed_unseen m (StructOf name pinned _) width h order here there s = absurd cc
  packed_unseen m (IntegralOf name type _) width h order here there s = absurd cc
  packed_unseen m (UnionOf name alternatives) width h order here there s = absurd cc

  -- what comes after it
  after_unseen : (extent : Extent) (next : Levels → ℕ → Plan (Result Opened FaultAt)) (here there : Levels) →
      ((members : List (Option Value)) (place : ℕ) →
      Alike Pair (Both (InOpened here there)) (next (members ∷ here) place) (next (members ∷ there) place)) →
      (members : List (Option Value)) (place : ℕ) (r t : Result Value FaultAt) → Both Same r t →
      Alike Pair (Both (InOpened here there)) (after_element extent next (members ∷ here) place r)
      (after_element extent next (members ∷ there) place t)
  unfolding after_element
  after_unseen extent next here there h members place (Ok v) (Ok w) e =
      subst (λ x. Alike Pair (Both (InOpened here there)) (after_element extent next (members ∷ here) place (Ok v))
      (after_element extent next (members ∷ there) place (Ok x))) e
      (either_alike (nat_eq (end_of v) place) (ended_alike refl) (h (members ++ Some v ∷ []) (end_of v)))
  after_unseen extent next here there h members place (Ok v) (Err f) e = absurd e
  after_unseen extent next here there h members place (Err f) (Ok w) e = absurd e
  after_unseen extent next here there h members place (Err f) (Err g) e =
      subst (λ x. Alike Pair (Both (InOpened here there)) (after_element extent next (members ∷ here) place (Err f))
      (after_element extent next (members ∷ there) place (Err x))) e
      (either_alike (ends_before extent f.0) (ended_alike (members, refl, refl)) (ended_alike refl))

  elements_unseen : (m : ℕ) (element : PokeType) (width : ℕ) → scalar_width element ≡ Some width → (order : Order)
      (here there : Levels) (s : ℕ) (extent : Extent) (n i : ℕ) (members : List (Option Value)) (place : ℕ) →
      Alike Pair (Both (InOpened here there))
      (elements_plan (element_plan element (plan m element order)) m s extent n i (members ∷ here) place)
      (elements_plan (element_plan element (plan m element order)) m s extent n i (members ∷ there) place)
  unfolding elements_plan
  elements_unseen m element width h order here there s extent zero i members place = ended_alike refl
  elements_unseen m element width h order here there s extent (suc n) i members place =
      either_alike (is_due extent m s i place)
      (tick_alike (then_alike {Mid = Both Same} {Ends = Both (InOpened here there)} _ _
      (packed_unseen m element width h order (members ∷ here) (members ∷ there) place)
      (after_unseen extent (elements_plan (element_plan element (plan m element order)) m s extent n (i + 1)) here there
      (elements_unseen m element width h order here there s extent n (i + 1)) members place)))
      (either_alike (is_met extent s place) (ended_alike (members, refl, refl)) (ended_alike refl))

  -- its bound is a literal
  bound_unseen : (bound : Bound) (count : ℕ) → literal_count bound ≡ Some count → (here there : Levels) (s : ℕ) →
      Alike Pair (Both Same) (after (bound_steps bound here) (extent_of bound here s))
      (after (bound_steps bound there) (extent_of bound there s))
  bound_unseen bound count h here there s =
      rw (
        literal_steps bound count h here,
        literal_steps bound count h there,
        literal_extent bound count h here s,
        literal_extent bound count h there s,
      ) (tick_alike (ended_alike refl))

  array_unseen : (m : ℕ) (element : PokeType) (width : ℕ) → scalar_width element ≡ Some width → (order : Order)
      (here there : Levels) (s : ℕ) (extent : Extent) →
      Alike Pair (Both Same)
      (framed here (then_ok (elements_plan (element_plan element (plan m element order)) m s extent
      (count_of m (least_width element)) 0 (opened here) s) (array_closes element s)))
      (framed there (then_ok (elements_plan (element_plan element (plan m element order)) m s extent
      (count_of m (least_width element)) 0 (opened there) s) (array_closes element s)))
  array_unseen m element width h order here there s extent =
      framed_alike {Ends = Same} here there opens drops (ok_alike {Mid = InOpened here there} {Ends = Same} _ _
      (elements_unseen m element width h order here there s extent (count_of m (least_width element)) 0 [] s)
      (closed (array_move (row_of element)) (array_value s) here there (λ end ms. refl)))

  mutual
    unfolding plan condition field_start then_ok

    pub plan_unseen : (m level : ℕ) (ty : PokeType) (l : Layout) → layout_of level ty ≡ Some l → (order : Order)
        (here there : Levels) → Agree level here there → (s : ℕ) →
        Alike Pair (Both Same) (plan m ty order here s) (plan m ty order there s)
    plan_unseen m level (IntegerOf type) l h order here there agree s =
        inside_unseen m s (read_unseen m level (IntegerOf type) l h type order here there agree s)
    plan_unseen m level (OffsetOf type unit) l h order here there agree s =
        inside_unseen m s (read_unseen m level (OffsetOf type unit) l h type order here there agree s)
    plan_unseen m level StringOf l h order here there agree s = absurd cc
    plan_unseen m level (ArrayOf element bound) l h order here there agree s =
        let a = array_laid element bound l h in
        inside_unseen m s (tick_alike (ok_alike {Mid = Same} {Ends = Same} _ _
        (bound_unseen bound a.count a.literal here there s)
        (λ x y e. subst (λ extent. Alike Pair (Both Same) (framed here (then_ok (elements_plan (element_plan element
        (plan m element order)) m s x (count_of m (least_width element)) 0 (opened here) s) (array_closes element s)))
        (framed there (then_ok (elements_plan (element_plan element (plan m element order)) m s extent
        (count_of m (least_width element)) 0 (opened there) s) (array_closes element s)))) e
        (array_unseen m element a.width a.scalar order here there s x))))
    plan_unseen m level (StructOf name true _) l h order here there agree s = absurd cc
    plan_unseen m level (StructOf name false fields) l h order here there agree s =
        inside_unseen m s (tick_alike (framed_alike {Ends = Same} here there opens drops
        (ok_alike {Mid = InOpened here there} {Ends = Same} _ _
        (fields_unseen m (level + 1) fields l (struct_laid level name false fields l h).laid s order here there
        (inside_agree level here there agree) [] s s)
        (closed Closes (struct_value name (field_names fields) s) here there (λ end ms. refl)))))
    plan_unseen m level (IntegralOf name type fields) l h order here there agree s =
        inside_unseen m s (read_unseen m level (IntegralOf name type fields) l h type order here there agree s)
    plan_unseen m level (UnionOf name alternatives) l h order here there agree s = absurd cc

    fields_unseen : (m level : ℕ) (fields : Fields) (l : Layout) → fields_layout level fields ≡ Some l → (s : ℕ)
        (order : Order) (here there : Levels) →
        ((members : List (Option Value)) → Agree level (members ∷ here) (members ∷ there)) →
        (members : List (Option Value)) (behind top : ℕ) →
        Alike Pair (Both (InOpened here there)) (fields_plan m false s fields order (members ∷ here) behind top)
        (fields_plan m false s fields order (members ∷ there) behind top)
    fields_unseen m level NoFields l h s order here there agree members behind top = ended_alike (members, refl, refl)
    fields_unseen m level (FieldThen name set ty c (Some label) when rest) l h s order here there agree members behind
        top =
        absurd (no_clause
        (plain_field (clause_avoids level c) (Some label) when (layout_of level ty) (fields_layout level rest) l h).0)
    fields_unseen m level (FieldThen name set ty c None (Some when) rest) l h s order here there agree members behind
        top =
        absurd (no_clause
        (plain_field (clause_avoids level c) None (Some when) (layout_of level ty) (fields_layout level rest) l h).1)
    fields_unseen m level (FieldThen name set ty c None None rest) l h s order here there agree members behind top =
        let f = part_laid level ty c (fields_layout level rest) l h in
        tick_alike (ok_alike {Mid = Same} {Ends = InOpened here there} _ _
        (ok_alike {Mid = Same} {Ends = Same} _ _
        (plan_unseen m level ty f.one f.laid (ordered set order) (members ∷ here) (members ∷ there) (agree members)
        behind)
        (λ v w e. subst (λ x. Alike Pair (Both Same) (constrained c (members ∷ here) behind v)
        (constrained c (members ∷ there) behind x)) e
        (constrained_unseen level ((members ++ Some v ∷ []) ∷ here) ((members ++ Some v ∷ []) ∷ there)
        (agree (members ++ Some v ∷ [])) c f.avoids behind v (members ∷ here) (members ∷ there) refl refl)))
        (λ v w e. subst (λ x. Alike Pair (Both (InOpened here there))
        (fields_plan m false s rest order ((members ++ Some v ∷ []) ∷ here) (end_of v) (max top (end_of v)))
        (fields_plan m false s rest order ((members ++ Some x ∷ []) ∷ there) (end_of x) (max top (end_of x)))) e
        (fields_unseen m level rest f.more f.rest s order here there agree (members ++ Some v ∷ []) (end_of v)
        (max top (end_of v)))))

  -- an element of an array whose elements are kept as values of fixed layout, whatever is in the array's frame
  pub element_unseen : (m : ℕ) (ty : PokeType) (stride : ℕ) → row_of ty ≡ Values stride → (order : Order)
      (before before' : List (Option Value)) (outer : Levels) (s : ℕ) →
      Alike Pair (Both Same) (plan m ty order (before ∷ outer) s) (plan m ty order (before' ∷ outer) s)
  element_unseen m ty stride row order before before' outer s =
      let e = element_laid ty stride row in
      plan_unseen m 0 ty e.layout e.laid order (before ∷ outer) (before' ∷ outer) (array_agrees before before' outer) s
