-- Structs of numbers: their plans as the elements of an array are alike whatever elements are before them.
use Rattle.std.proofs.Common.{◌≡◌, ℕ, zero, suc, ◌+◌, max, true, false, List, [], ◌∷◌, ◌++◌, Option, Some, Result, Ok, Err, refl, sym, ap, subst, ◌∙◌}
use Rattle.std.specs.Prelude.{if◌then◌else◌, nat_le}
use Rattle.bit_space.specs.declared.order.Order.{Order}
use Rattle.pickle_types.specs.Types.{Term, PokeType, IntegerOf, OffsetOf, StringOf, ArrayOf, StructOf, IntegralOf, UnionOf, Fields, NoFields, FieldThen}
use Rattle.pickle_meaning.specs.Clauses.{FaultAt, constraint, clause_steps, condition, field_start}
use Rattle.pickle_meaning.specs.Means.{Opened, ordered, integer_value, offset_value, field_names, struct_value}
use Rattle.pickle_meaning.specs.Values.{Naming, Value, end_of, Levels, pushed, opened, outer_of}
use Rattle.mapping_plans.specs.Plan.{Ended, Tick, Read, after, then_ok, framed, as_row}
use Rattle.mapping_plans.specs.Rows.{Row, Records, stride_of}
use Rattle.pickle_meaning.specs.declared.faults.MapFaultKind.TheVariants.{End}
use Rattle.pickle_map.specs.Records.{struct_packs}
use Rattle.mapping_plans.specs.Mapping.{from_inside, constrained, number_plan, read_plan, plan, fields_plan, struct_closes}
use Rattle.value_store.specs.Moves.{Move, Places}
use Rattle.value_store.specs.Slots.{packs}
use Rattle.value_store.proofs.Fits.{packs_no_more}
use Rattle.value_store.proofs.Taken.{pushed-some}
use Rattle.mapping_plans.specs.Avoids.{ClauseAvoids, IsScalar, AreColumns}
use Rattle.pickle_map.specs.Follows.{World}
use Rattle.mapping_plans.proofs.Alike.{Alike, ended_alike, tick_alike, made_alike, read_alike, Both, Same}
use Rattle.mapping_plans.proofs.Avoiding.{Agree, constrained_alike, steps_alike}
use Rattle.pickle_map.proofs.Alike.{FitsToo, rowed_ok, rowed_after, rowed_either, rowed_framed}

-- the frame of a struct inside that of an array, with other elements in the latter
module _ (world : World) (packing : packs world.room ≡ true) (widths : List ℕ) (before before' : List (Option Value))
    (outer : Levels) where
  abbrev row : Row
  row = Records widths

  abbrev here : List (Option Value) → Levels
  here fields = fields ∷ before ∷ outer

  abbrev there : List (Option Value) → Levels
  there fields = fields ∷ before' ∷ outer

  -- they differ at the array's frame alone
  agree : (fields : List (Option Value)) → Agree 1 (here fields) (there fields)
  agree fields zero place other = refl
  agree fields (suc zero) place other = absurd (other refl)
  agree fields (suc (suc level)) place other = refl

  -- where arrays are packed no slots are counted
  fits_pushed : (move : Move) (levels levels' : Levels) (v : Option Value) →
      FitsToo world move (pushed levels v) (pushed levels' v)
  fits_pushed move levels levels' v =
      λ takes exceeds. packs_no_more world.room (pushed levels' v) (pushed-some levels' v) packing

  -- fields that were read, and the end of the last one
  abbrev InFrames : Opened → Opened → Type 0
  InFrames r t = (fields : List (Option Value)) × (r ≡ (here fields, t.1)) × (t.0 ≡ there fields)

  number_rowed : (m : ℕ) (ty : PokeType) → IsScalar ty → (order : Order) (fields : List (Option Value)) (s : ℕ) →
      Alike (FitsToo world) (Both Same) (plan m ty order (here fields) s)
      (as_row row (plan m ty order (there fields) s))
  unfolding plan from_inside read_plan number_plan
  number_rowed m (IntegerOf type) h order fields s =
      let next = Read s type.width order (λ n. number_plan (IntegerOf type) n (there fields) s) in
      let read = if nat_le (s + type.width) m then next else Ended (Err (End, s)) in
      rowed_either widths (Tick read) (Ended (Err (End, s))) (nat_le s m)
      (tick_alike (rowed_either widths next (Ended (Err (End, s))) (nat_le (s + type.width) m) (read_alike (λ n.
      made_alike (fits_pushed Places (here fields) (there fields) (Some (integer_value type n s))) (ended_alike refl)))
      (ended_alike refl)))
      (ended_alike refl)
  number_rowed m (OffsetOf type unit) h order fields s =
      let next = Read s type.width order (λ n. number_plan (OffsetOf type unit) n (there fields) s) in
      let read = if nat_le (s + type.width) m then next else Ended (Err (End, s)) in
      rowed_either widths (Tick read) (Ended (Err (End, s))) (nat_le s m)
      (tick_alike (rowed_either widths next (Ended (Err (End, s))) (nat_le (s + type.width) m)
      (read_alike (λ n. made_alike (fits_pushed Places (here fields) (there fields) (Some (offset_value type unit n s)))
      (ended_alike refl))) (ended_alike refl)))
      (ended_alike refl)
  number_rowed m StringOf h order fields s = absurd h
  number_rowed m (ArrayOf element bound) h order fields s = absurd h
  number_rowed m (StructOf name pinned _) h order fields s = absurd h
  number_rowed m (IntegralOf name type _) h order fields s = absurd h
  number_rowed m (UnionOf name alternatives) h order fields s = absurd h

  both_same : {A : Type 0} (r : Result A FaultAt) → Both Same r r
  both_same (Ok a) = refl
  both_same (Err f) = refl

  constrained_rowed : (c : Option Term) → ClauseAvoids 1 c → (members : List (Option Value)) (place : ℕ) (v : Value) →
      Alike (FitsToo world) (Both Same) (constrained c (here members) place v)
      (as_row row (constrained c (there members) place v))
  unfolding constrained
  constrained_rowed c h members place v =
      let more = members ++ Some v ∷ [] in
      rw (
        steps_alike 1 (here more) (there more) (agree more) c h,
        constrained_alike 1 (here more) (there more) (agree more) c h place,
      )
      (rowed_ok widths {Mid = Same} {Ends = Same}
      (after (clause_steps c (there more)) (constraint c (there more) place)) (λ u. Ended (Ok v)) (λ u. Ended (Ok v))
      (rowed_after widths (clause_steps c (there more)) (constraint c (there more) place)
      (constraint c (there more) place) (both_same (constraint c (there more) place))) (λ a b e. ended_alike refl))

  fields_rowed : (m s : ℕ) (fs : Fields) → AreColumns fs →
      (order : Order) (members : List (Option Value)) (last_end top : ℕ) →
      Alike (FitsToo world) (Both InFrames) (fields_plan m false s fs order (here members) last_end top)
      (as_row row (fields_plan m false s fs order (there members) last_end top))
  unfolding fields_plan condition field_start then_ok
  fields_rowed m s NoFields h order members last_end top = ended_alike (members, refl, refl)
  fields_rowed m s (FieldThen name set ty c label when rest) h order members last_end top =
      rw (h.2, h.3) (tick_alike
      (rowed_ok widths {Mid = Same} {Ends = InFrames}
      (then_ok (plan m ty (ordered set order) (there members) last_end) (constrained c (there members) last_end)) _ _
      (rowed_ok widths {Mid = Same} {Ends = Same} (plan m ty (ordered set order) (there members) last_end) _ _
      (number_rowed m ty h.0 (ordered set order) members last_end)
      (λ v w e. subst (λ x. Alike (FitsToo world) (Both Same) (constrained c (here members) last_end v)
      (as_row row (constrained c (there members) last_end x))) e (constrained_rowed c h.1 members last_end v)))
      (λ v w e. subst (λ x. Alike (FitsToo world) (Both InFrames)
      (fields_plan m false s rest order (here (members ++ Some v ∷ [])) (end_of v) (max top (end_of v)))
      (as_row row (fields_plan m false s rest order (there (members ++ Some x ∷ [])) (end_of x) (max top (end_of x)))))
      e
      (fields_rowed m s rest h.4 order (members ++ Some v ∷ []) (end_of v) (max top (end_of v))))))

  -- the plan of a packed struct among the structs as they are stored, and that of an element after those that are
  -- mapped
  pub record_rowed : (m : ℕ) (name : Naming) (fs : Fields) → AreColumns fs → (order : Order) (s : ℕ) →
      Alike (FitsToo world) (Both Same) (from_inside m s
      (Tick (framed (before ∷ outer) (then_ok (fields_plan m false s fs order (opened (before ∷ outer)) s s)
      (struct_packs (stride_of widths) name (field_names fs) s)))))
      (as_row row (plan m (StructOf name false fs) order (before' ∷ outer) s))
  unfolding plan from_inside
  record_rowed m name fs h order s =
      let there_fields = fields_plan m false s fs order (opened (before' ∷ outer)) s s in
      let there_struct = then_ok there_fields (struct_closes name (field_names fs) s) in
      rowed_either widths (Tick (framed (before' ∷ outer) there_struct)) (Ended (Err (End, s))) (nat_le s m)
      (tick_alike (rowed_framed widths {Ends = Same} (before ∷ outer) (before' ∷ outer) there_struct
      (λ move levels levels' none takes. absurd (none takes))
      (rowed_ok widths {Mid = InFrames} {Ends = Same} there_fields _ _ (fields_rowed m s fs h order [] s s) closed)))
      (ended_alike refl)
    where
      closed : (r t : Opened) → InFrames r t →
          Alike (FitsToo world) (Both Same) (struct_packs (stride_of widths) name (field_names fs) s r)
          (as_row row (struct_closes name (field_names fs) s t))
      closed r t e =
          let value : struct_value name (field_names fs) s r.1 r.0 ≡ struct_value name (field_names fs) s t.1 t.0 =
          ap (λ (o : Opened). struct_value name (field_names fs) s o.1 o.0) e.1
          ∙ sym (ap (λ l. struct_value name (field_names fs) s t.1 l) e.2) in
          made_alike (λ takes exceeds.
          packs_no_more world.room (pushed (outer_of t.0) (Some (struct_value name (field_names fs) s t.1 t.0)))
          (pushed-some (outer_of t.0) (Some (struct_value name (field_names fs) s t.1 t.0))) packing)
          (ended_alike value)
