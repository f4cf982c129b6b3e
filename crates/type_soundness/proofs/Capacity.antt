-- What a value of a type takes of each vector as a member of a frame, in a store that packs nothing, whatever is read:
-- at most the type's bound.
use Rattle.std.proofs.Common.{◌≡◌, ℕ, zero, suc, ◌+◌, ◌-◌, ◌*◌, ◌/◌, ◌≤◌, max, length, Bool, true, false, List, [], ◌∷◌, ◌++◌, Option, Some, None, Result, Ok, Err, refl, ap, ◌∙◌, arith}
use Rattle.std.specs.Prelude.{if◌then◌else◌, nat_le, nat_eq}
use Rattle.std.proofs.lemmas.Bool.{leb-true}
use Rattle.bit_space.specs.declared.order.Order.{Order}
use Rattle.bit_space.specs.declared.order.Order.TheVariants.{Big}
use Rattle.pickle_types.specs.declared.integer.IntegerType.{IntegerType}
use Rattle.pickle_types.specs.Types.{Term, PokeType, IntegerOf, OffsetOf, StringOf, ArrayOf, StructOf, IntegralOf, UnionOf, Fields, NoFields, FieldThen, Parts, NoParts, PartThen}
use Rattle.pickle_types.specs.Bounds.{least_width, count_of}
use Rattle.pickle_meaning.specs.declared.extent.Extent.{Extent}
use Rattle.pickle_meaning.specs.declared.faults.MapFaultKind.TheVariants as fault
use Rattle.pickle_meaning.specs.Values.{Naming, Label, ArrayLabel, StructLabel, Value, end_of, Levels, pushed, opened, top_of, outer_of}
use Rattle.pickle_meaning.specs.Clauses.{FaultAt, condition, field_start, extent_of, is_due, is_met, ends_before, misses}
use Rattle.pickle_meaning.specs.Means.{Opened, Taken, number_type, width_in, first_digits, ordered, field_names, part_names, value_of, union_value}
use Rattle.mapping_plans.specs.Plan.{Plan, Ended, Read, then_ok}
use Rattle.mapping_plans.specs.Mapping.{makes, closes, constrained, number_plan, digits_plan, read_plan, after_byte, text_plan, after_element, array_move, element_plan, elements_plan, after_attempt, array_closes, plan, fields_plan, alternatives_plan}
use Rattle.mapping_plans.specs.Rows.{row_of}
use Rattle.mapping_plans.proofs.Always.{OfValue}
use Rattle.mapping_plans.proofs.Fitting.{longer}
use Rattle.value_store.specs.Moves.{Move, Closes}
use Rattle.value_store.specs.Takes.{Vector, member_takes, levels_take}
use Rattle.type_soundness.specs.Capacity.{string_bound, family_bound, link_bound, capacity_bound, fields_bound, parts_bound, greatest_bound}
use Rattle.type_soundness.proofs.Yields.{Yields, yields, on_tick, on_made, on_read, weaker, element_yields, then_yields, ok_yields, told_yields, either, inside_yields, framed_yields}
use Rattle.type_soundness.proofs.Taking.{laden, push_laden, outer_push, top_takes, IsFamily, array_family, struct_family, closed_takes, integer_takes, offset_takes, text_takes, union_takes, absent_takes}

-- a fact about a plan's value, whatever it reads
abbrev Keeps : {A : Type 0} → (A → Type 0) → Plan (Result A FaultAt) → Type 0
Keeps Q p = Yields (OfValue Q) p

module _ (vector : Vector) where
  -- a member that takes at most n
  abbrev Light : ℕ → Value → Type 0
  Light n v = member_takes false vector (Some v) ≤ n

  -- a frame that grew by at most n, with the links that it will take
  abbrev Grown : Levels → ℕ → Levels → Type 0
  Grown levels n r = (outer_of r ≡ outer_of levels) × (laden vector r ≤ laden vector levels + n)

  abbrev GrownOpen : Levels → ℕ → Opened → Type 0
  GrownOpen levels n r = Grown levels n r.0

  -- the alternative that matched, with its link
  abbrev TakenLight : ℕ → Taken → Type 0
  TakenLight n t = link_bound vector + member_takes false vector (Some t.value) ≤ n

  member_grown : (levels : Levels) (n : ℕ) (m : Option Value) → link_bound vector + member_takes false vector m ≤ n →
      Grown levels n (pushed levels m)
  member_grown levels n m le = (outer_push levels m, let p = push_laden vector levels m in omega arith)

  grown_more : (levels mid : Levels) (c n : ℕ) → Grown levels c mid → (t : Result Levels FaultAt) →
      OfValue (Grown mid n) t → OfValue (Grown levels (c + n)) t
  grown_more levels mid c n g (Ok u) h = (h.0 ∙ g.0, let l = g.1 in let k = h.1 in omega arith)
  grown_more levels mid c n g (Err f) h = tt

  open_more : (levels mid : Levels) (c n : ℕ) → Grown levels c mid → (t : Result Opened FaultAt) →
      OfValue (GrownOpen mid n) t → OfValue (GrownOpen levels (c + n)) t
  open_more levels mid c n g (Ok u) h = (h.0 ∙ g.0, let l = g.1 in let k = h.1 in omega arith)
  open_more levels mid c n g (Err f) h = tt

  taken_more : (n k : ℕ) → n ≤ k → (r : Result Taken FaultAt) → OfValue (TakenLight n) r → OfValue (TakenLight k) r
  taken_more n k le (Ok t) h = omega arith
  taken_more n k le (Err f) h = tt

  -- ---- short names

  abbrev taken : Levels → ℕ
  taken levels = levels_take false vector levels

  abbrev link : ℕ
  link = link_bound vector

  abbrev family : ℕ
  family = family_bound vector

  module _ (m : ℕ) where
    abbrev most : PokeType → ℕ
    most ty = capacity_bound false vector ty m

    abbrev fields_most : Fields → ℕ
    fields_most fields = fields_bound false vector fields m

    abbrev parts_most : Parts → ℕ
    parts_most parts = parts_bound false vector parts m

    abbrev greatest : Parts → ℕ
    greatest parts = greatest_bound false vector parts m

    abbrev tries : PokeType → ℕ
    tries element = count_of m (least_width element)

    makes_taken : (n : ℕ) (move : Move) (levels : Levels) (v : Value) → Light n v →
        Keeps (Light n) (makes move levels v)
    makes_taken n move levels v light = on_made (yields light)

    -- a frame is closed
    closes_taken : (n : ℕ) (label : Label) (start end : ℕ) (levels r : Levels) (move : Move) → IsFamily label →
        Grown (opened levels) n r → Keeps (Light (family + n)) (closes move (value_of label start end) r)
    closes_taken n label start end levels r move f grown =
        let c = closed_takes vector label start end (top_of r) f in
        let t = top_takes vector r in
        let o : taken (outer_of r) ≡ taken levels = ap taken grown.0 in
        let g = grown.1 in
        makes_taken (family + n) move (outer_of r) (value_of label start end r) (omega arith)

    constrained_taken : (n : ℕ) (c : Option Term) (levels : Levels) (at : ℕ) (v : Value) → Light n v →
        Keeps (Light n) (constrained c levels at v)
    unfolding constrained
    constrained_taken n c levels at v light = told_yields {Q = Light n} _ _ _ (λ u. yields light)

    -- ---- strings

    text_taken : (n : ℕ) (bytes : List ℕ) (levels : Levels) (s place : ℕ) → 8 * length bytes ≤ place →
        Keeps (Light (string_bound vector m)) (text_plan m n bytes levels s place)
    unfolding text_plan after_byte
    text_taken zero bytes levels s place few = yields tt
    text_taken (suc n) bytes levels s place few =
        on_tick (chosen (λ more f. text_taken n more levels s (place + 8) f) (nat_le (place + 8) m) refl)
      where
        byte : ((more : List ℕ) → 8 * length more ≤ place + 8 →
            Keeps (Light (string_bound vector m)) (text_plan m n more levels s (place + 8))) →
            place + 8 ≤ m → (x : ℕ) →
            Keeps (Light (string_bound vector m))
            (after_byte (λ more. text_plan m n more levels s (place + 8)) bytes levels s (place + 8) x)
        byte next inside zero = on_made (yields (text_takes vector m bytes s (place + 8) (omega arith)))
        byte next inside (suc x) = let l = longer bytes (suc x) in on_made (next (bytes ++ suc x ∷ []) (omega arith))

        chosen : ((more : List ℕ) → 8 * length more ≤ place + 8 →
            Keeps (Light (string_bound vector m)) (text_plan m n more levels s (place + 8))) →
            (t : Bool) → nat_le (place + 8) m ≡ t →
            Keeps (Light (string_bound vector m)) (if t then Read place 8 Big
            (after_byte (λ more. text_plan m n more levels s (place + 8)) bytes levels s (place + 8))
            else Ended (Err (fault.End, s)))
        chosen next true e = on_read (λ x. byte next (leb-true (place + 8) m e) x)
        chosen next false e = yields tt

    -- ---- arrays

    after_taken : (n c : ℕ) (extent : Extent) (next : Levels → ℕ → Plan (Result Opened FaultAt)) (levels : Levels) →
        ((l : Levels) (at : ℕ) → Keeps (GrownOpen l n) (next l at)) →
        (at : ℕ) (r : Result Value FaultAt) → OfValue (Light c) r →
        Keeps (GrownOpen levels ((link + c) + n)) (after_element extent next levels at r)
    unfolding after_element
    after_taken n c extent next levels g at (Ok v) light =
        let grown = member_grown levels (link + c) (Some v) (omega arith) in
        either (nat_eq (end_of v) at) (yields tt)
        (weaker (open_more levels (pushed levels (Some v)) (link + c) n grown) (g (pushed levels (Some v)) (end_of v)))
    after_taken n c extent next levels g at (Err f) light =
        either (ends_before extent f.0) (yields (refl, omega arith)) (yields tt)

    elements_taken : (c s : ℕ) (extent : Extent) (element : Levels → ℕ → Plan (Result Value FaultAt)) →
        ((l : Levels) (at : ℕ) → Keeps (Light c) (element l at)) →
        (n i : ℕ) (levels : Levels) (at : ℕ) →
        Keeps (GrownOpen levels (n * (link + c))) (elements_plan element m s extent n i levels at)
    unfolding elements_plan
    elements_taken c s extent element g zero i levels at = yields tt
    elements_taken c s extent element g (suc n) i levels at =
        either (is_due extent m s i at)
        (on_tick (weaker less (then_yields _
        (after_taken (n * (link + c)) c extent (elements_plan element m s extent n (i + 1)) levels
        (elements_taken c s extent element g n (i + 1)) at) (g levels at))))
        (either (is_met extent s at) (yields (refl, omega arith)) (yields tt))
      where
        less : (t : Result Opened FaultAt) → OfValue (GrownOpen levels ((link + c) + n * (link + c))) t →
            OfValue (GrownOpen levels (suc n * (link + c))) t
        less (Ok u) h = (h.0, let l = h.1 in omega arith)
        less (Err f) h = tt

    array_taken : (element : PokeType) (order : Order) →
        ((l : Levels) (at : ℕ) → Keeps (Light (most element)) (plan m element order l at)) →
        (extent : Extent) (levels : Levels) (s : ℕ) →
        Keeps (Light (family + tries element * (link + most element)))
        (then_ok
        (elements_plan (element_plan element (plan m element order)) m s extent (tries element) 0 (opened levels) s)
        (array_closes element s))
    array_taken element order g extent levels s =
        ok_yields {P = GrownOpen (opened levels) (tries element * (link + most element))}
        {Q = Light (family + tries element * (link + most element))} _
        (λ r grown. closes_taken (tries element * (link + most element)) ArrayLabel s r.1 levels r.0
        (array_move (row_of element)) array_family grown)
        (elements_taken (most element) s extent (element_plan element (plan m element order))
        (λ l p. element_yields (row_of element) l (g l p)) (tries element) 0 (opened levels) s)

    -- ---- unions

    attempt_taken : (n c : ℕ) (levels : Levels) (next : Plan (Result Taken FaultAt)) → Keeps (TakenLight n) next →
        link + c ≤ n → (index : ℕ) (name : Naming) (r : Result Value FaultAt) → OfValue (Light c) r →
        Keeps (TakenLight n) (after_attempt levels next index name r)
    unfolding after_attempt
    attempt_taken n c levels next g le index name (Ok v) light = yields (omega arith)
    attempt_taken n c levels next g le index name (Err f) light = either (misses f.0) (on_made g) (yields tt)

    -- ---- types

    mutual
      unfolding number_plan capacity_bound

      number_taken : (ty : PokeType) (n : ℕ) (levels : Levels) (s : ℕ) →
          Keeps (Light (most ty)) (number_plan ty n levels s)
      number_taken (IntegerOf type) n levels s = on_made (yields (integer_takes vector type n s))
      number_taken (OffsetOf type unit) n levels s = on_made (yields (offset_takes vector type unit n s))
      number_taken StringOf n levels s = yields tt
      number_taken (ArrayOf element bound) n levels s = yields tt
      number_taken (StructOf name pinned _) n levels s = yields tt
      number_taken (IntegralOf name type fields) n levels s =
          framed_yields {Q = Light (family + parts_most fields)} levels
          (ok_yields {P = Grown (opened levels) (parts_most fields)} {Q = Light (family + parts_most fields)} _
          (λ r grown. closes_taken (parts_most fields) (StructLabel name (part_names fields)) s (s + type.width) levels
          r Closes (struct_family name (part_names fields)) grown)
          (digits_taken fields n type.width (opened levels) s))
      number_taken (UnionOf name alternatives) n levels s = yields tt

      digits_taken : (parts : Parts) (n left : ℕ) (levels : Levels) (s : ℕ) →
          Keeps (Grown levels (parts_most parts)) (digits_plan parts n left levels s)
      digits_taken NoParts n left levels s = yields (refl, omega arith)
      digits_taken (PartThen name set ty c rest) n left levels s =
          on_tick (ok_yields {P = Light (most ty)} {Q = Grown levels ((link + most ty) + parts_most rest)} _
          (λ v light.
          let g = member_grown levels (link + most ty) (Some v) (omega (arith, light)) in
          weaker (grown_more levels (pushed levels (Some v)) (link + most ty) (parts_most rest) g)
          (digits_taken rest n (left - width_in (number_type ty)) (pushed levels (Some v)) s))
          (ok_yields {P = Light (most ty)} {Q = Light (most ty)} _
          (λ v light. constrained_taken (most ty) c levels s v light)
          (on_tick (number_taken ty (first_digits n left (width_in (number_type ty))) levels s))))

    read_taken : (ty : PokeType) (type : IntegerType) (order : Order) (levels : Levels) (s : ℕ) →
        Keeps (Light (most ty)) (read_plan m ty type order levels s)
    unfolding read_plan
    read_taken ty type order levels s =
        on_tick (either (nat_le (s + type.width) m) (on_read (λ n. number_taken ty n levels s)) (yields tt))

    mutual
      unfolding plan capacity_bound

      plan_taken : (ty : PokeType) (order : Order) (levels : Levels) (s : ℕ) →
          Keeps (Light (most ty)) (plan m ty order levels s)
      plan_taken (IntegerOf type) order levels s = inside_yields m s (read_taken (IntegerOf type) type order levels s)
      plan_taken (OffsetOf type unit) order levels s =
          inside_yields m s (read_taken (OffsetOf type unit) type order levels s)
      plan_taken StringOf order levels s =
          inside_yields m s (on_tick (framed_yields levels (text_taken (m / 8 + 1) [] levels s s (omega arith))))
      plan_taken (ArrayOf element bound) order levels s =
          inside_yields m s
          (on_tick (told_yields {Q = Light (most (ArrayOf element bound))} _ (extent_of bound levels s) _
          (λ extent. framed_yields {Q = Light (most (ArrayOf element bound))} levels
          (array_taken element order (λ l p. plan_taken element order l p) extent levels s))))
      plan_taken (StructOf name pinned fields) order levels s =
          inside_yields m s (on_tick (framed_yields {Q = Light (family + fields_most fields)} levels
          (ok_yields {P = GrownOpen (opened levels) (fields_most fields)} {Q = Light (family + fields_most fields)} _
          (λ r grown. closes_taken (fields_most fields) (StructLabel name (field_names fields)) s r.1 levels r.0 Closes
          (struct_family name (field_names fields)) grown)
          (fields_taken pinned s fields order (opened levels) s s))))
      plan_taken (IntegralOf name type fields) order levels s =
          inside_yields m s (read_taken (IntegralOf name type fields) type order levels s)
      plan_taken (UnionOf name alternatives) order levels s =
          inside_yields m s (on_tick (framed_yields {Q = Light (family + greatest alternatives)} levels
          (ok_yields {P = TakenLight (greatest alternatives)} {Q = Light (family + greatest alternatives)} _
          (λ t light.
          let u = union_takes vector name s t in
          makes_taken (family + greatest alternatives) Closes levels (union_value name s t) (omega (arith, light, u)))
          (alternatives_taken alternatives 0 order (opened levels) s))))

      fields_taken : (pinned : Bool) (s : ℕ) (fields : Fields) (order : Order) (levels : Levels) (behind top : ℕ) →
          Keeps (GrownOpen levels (fields_most fields)) (fields_plan m pinned s fields order levels behind top)
      fields_taken pinned s NoFields order levels behind top = yields (refl, omega arith)
      fields_taken pinned s (FieldThen name set ty c label when rest) order levels behind top =
          on_tick
          (told_yields {Q = GrownOpen levels ((link + most ty) + fields_most rest)} _ (condition when levels s) _
          (λ there. either there
          (told_yields {Q = GrownOpen levels ((link + most ty) + fields_most rest)} _
          (field_start pinned label levels s behind) _
          (λ p. ok_yields {P = Light (most ty)} {Q = GrownOpen levels ((link + most ty) + fields_most rest)} _
          (λ v light.
          let g = member_grown levels (link + most ty) (Some v) (omega (arith, light)) in
          weaker (open_more levels (pushed levels (Some v)) (link + most ty) (fields_most rest) g)
          (fields_taken pinned s rest order (pushed levels (Some v)) (end_of v) (max top (end_of v))))
          (ok_yields {P = Light (most ty)} {Q = Light (most ty)} _
          (λ v light. constrained_taken (most ty) c levels p v light) (plan_taken ty (ordered set order) levels p))))
          (let few = absent_takes vector ty m in
          let g = member_grown levels (link + most ty) None (omega (arith, few)) in
          on_made (weaker (open_more levels (pushed levels None) (link + most ty) (fields_most rest) g)
          (fields_taken pinned s rest order (pushed levels None) behind top)))))

      alternatives_taken : (parts : Parts) (index : ℕ) (order : Order) (levels : Levels) (s : ℕ) →
          Keeps (TakenLight (greatest parts)) (alternatives_plan m parts index order levels s)
      alternatives_taken NoParts index order levels s = yields tt
      alternatives_taken (PartThen name set ty c rest) index order levels s =
          on_tick (then_yields _
          (attempt_taken (max (link + most ty) (greatest rest)) (most ty) levels _
          (weaker (taken_more (greatest rest) _ (omega arith)) (alternatives_taken rest (index + 1) order levels s))
          (omega arith) index name)
          (ok_yields {P = Light (most ty)} {Q = Light (most ty)} _
          (λ v light. constrained_taken (most ty) c levels s v light) (plan_taken ty (ordered set order) levels s)))

-- a value that takes at most the bound, as a member of a frame
pub capacity_enough : (vector : Vector) (m : ℕ) (ty : PokeType) (order : Order) (levels : Levels) (s : ℕ) →
    Yields (OfValue (λ v. member_takes false vector (Some v) ≤ capacity_bound false vector ty m))
    (plan m ty order levels s)
capacity_enough vector m ty order levels s = plan_taken vector m ty order levels s
