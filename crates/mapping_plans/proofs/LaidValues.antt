-- The values of a type of fixed layout are alike but for their numbers, and where they start.
use Rattle.std.proofs.Common.{◌≡◌, ℕ, zero, suc, ◌+◌, ◌-◌, ◌*◌, ◌^◌, ◌<◌, ◌≤◌, max, Bool, true, false, List, [], ◌∷◌, ◌++◌, Option, Some, None, Result, Ok, Err, pos, refl, sym, ap, subst, ◌∙◌, inl, inr, arith}
use Rattle.std.proofs.Math.Nat.{mul-zero, mul-suc}
use Rattle.std.proofs.lemmas.List.{append_assoc, append-nil}
use Rattle.pickle_types.specs.declared.integer.IntegerType.{IntegerType}
use Rattle.pickle_types.specs.Types.{PokeType, IntegerOf, OffsetOf, StringOf, ArrayOf, StructOf, IntegralOf, UnionOf, Bound, Fields, NoFields, FieldThen, Parts, NoParts, PartThen}
use Rattle.pickle_meaning.specs.Values.{Label, IntegerLabel, OffsetLabel, ArrayLabel, StructLabel, Value, Mapped, Members, NoMembers, MemberThen, label_of, start_of, end_of, Levels, pushed, opened, top_of, gathered}
use Rattle.pickle_meaning.specs.declared.extent.Extent.{Extent}
use Rattle.pickle_meaning.specs.declared.extent.Extent.TheVariants.{Open, Count}
use Rattle.pickle_meaning.specs.Clauses.{FaultAt, condition, field_start}
use Rattle.pickle_meaning.specs.Means.{field_names, part_names, integer_value, offset_value, struct_value}
use Rattle.pickle_meaning.specs.Fits.{IsWhole, ElementsFit, no_more_fit, one_more_fits, FitsNumber, DigitsFit, Fits, FieldsFit}
use Rattle.value_store.specs.Layouts.{row_of, row_length, rows_length, template_of, templates_of, IsFixed, AreFixed, IsStructLabel}
use Rattle.value_store.specs.Packed.{bytes_for}
use Rattle.value_store.specs.Records.{instance, instances}
use Rattle.value_store.proofs.Layouts.{instance-of_template}
use Rattle.mapping_plans.specs.Rows.{Layout, sum_of, number_layout, numbers_layout, no_layout, clause_avoids, scalar_width, literal_count, layout_of, fields_layout, parts_layout}
use Rattle.mapping_plans.specs.Rows as rows
use Rattle.mapping_plans.specs.Widths.{HasWidths, HaveWidths, PartsHaveWidths}
use Rattle.mapping_plans.proofs.Basics.{clash}
use Rattle.mapping_plans.proofs.Layouts.{struct_laid, integral_laid, array_laid, no_clause, plain_field, part_laid, element_laid, layout_wide}
use Rattle.mapping_plans.proofs.NumberArrays.{literal_extent}
use Rattle.mapping_plans.proofs.Converted.{converted_again}

-- ---- the template of a type

abbrev known : Option Layout → Layout
known None = no_layout
known (Some own) = own

abbrev bits_at : (level : ℕ) → PokeType → ℕ
bits_at level ty = (known (layout_of level ty)).bits

abbrev bytes_at : (level : ℕ) → PokeType → ℕ
bytes_at level ty = (known (layout_of level ty)).bytes

abbrev number_template : Label → IntegerType → (start : ℕ) → Value
number_template label type start = Mapped label start (start + type.width) NoMembers

-- a number that is there
abbrev given : Option ℕ → ℕ
given None = 0
given (Some n) = n

-- nothing of fixed layout
abbrev no_template : (start : ℕ) → Value
no_template start = Mapped ArrayLabel start start NoMembers

-- the template of an integer or an offset
abbrev scalar_template : PokeType → (start at : ℕ) → Value
scalar_template (IntegerOf type) start at = number_template (IntegerLabel (pos at) type) type start
scalar_template (OffsetOf type unit) start at = number_template (OffsetLabel (pos at) type unit) type start
scalar_template StringOf start at = no_template start
scalar_template (ArrayOf element bound) start at = no_template start
scalar_template (StructOf name pinned _) start at = no_template start
scalar_template (IntegralOf name type _) start at = no_template start
scalar_template (UnionOf name alternatives) start at = no_template start

-- those of `count` of these, each of `width` bits, one after the other
abbrev row_templates : (element : PokeType) → (width count : ℕ) → (start at : ℕ) → Members
row_templates element width zero start at = NoMembers
row_templates element width (suc count) start at =
    MemberThen (scalar_template element start at)
    (row_templates element width count (start + width) (at + bytes_for width))

abbrev mutual
  -- the template of a value of the type that starts at a bit; the bytes of its numbers begin at `at`
  pub type_template : (level : ℕ) → PokeType → (start at : ℕ) → Value
  type_template level (IntegerOf type) start at = number_template (IntegerLabel (pos at) type) type start
  type_template level (OffsetOf type unit) start at = number_template (OffsetLabel (pos at) type unit) type start
  type_template level StringOf start at = no_template start
  type_template level (ArrayOf element bound) start at =
      Mapped ArrayLabel start (start + bits_at level (ArrayOf element bound))
      (row_templates element (given (scalar_width element)) (given (literal_count bound)) start at)
  type_template level (StructOf name pinned fields) start at =
      Mapped (StructLabel name (field_names fields)) start (start + (known (fields_layout (level + 1) fields)).bits)
      (field_templates (level + 1) fields start at)
  type_template level (IntegralOf name type fields) start at =
      Mapped (StructLabel name (part_names fields)) start (start + type.width)
      (part_templates (level + 1) fields start at)
  type_template level (UnionOf name alternatives) start at = no_template start

  -- fields one after the other
  field_templates : (level : ℕ) → Fields → (start at : ℕ) → Members
  field_templates level NoFields start at = NoMembers
  field_templates level (FieldThen name order type constraint label condition rest) start at =
      MemberThen (type_template level type start at)
      (field_templates level rest (start + bits_at level type) (at + bytes_at level type))

  -- fields of an integral struct, which all start where it does
  part_templates : (level : ℕ) → Parts → (start at : ℕ) → Members
  part_templates level NoParts start at = NoMembers
  part_templates level (PartThen name order type constraint rest) start at =
      MemberThen (type_template level type start at) (part_templates level rest start (at + bytes_at level type))

-- ---- it is moved with where the value starts

moved_end : (start shift width : ℕ) → (start + width) + shift ≡ (start + shift) + width
moved_end start shift width = omega arith

moved_none : (n : ℕ) → n + 0 ≡ n
moved_none n = omega arith

none_before : (n : ℕ) → 0 + n ≡ n
none_before n = omega arith

scalar_moved : (element : PokeType) (start at shift : ℕ) (row : List ℕ) →
    instance (scalar_template element start at) shift row ≡ instance (scalar_template element (start + shift) at) 0 row
scalar_moved (IntegerOf type) start at shift row =
    rw (moved_none (start + shift), moved_none ((start + shift) + type.width), moved_end start shift type.width) refl
scalar_moved (OffsetOf type unit) start at shift row =
    rw (moved_none (start + shift), moved_none ((start + shift) + type.width), moved_end start shift type.width) refl
scalar_moved StringOf start at shift row = rw (moved_none (start + shift)) refl
scalar_moved (ArrayOf element bound) start at shift row = rw (moved_none (start + shift)) refl
scalar_moved (StructOf name pinned _) start at shift row = rw (moved_none (start + shift)) refl
scalar_moved (IntegralOf name type _) start at shift row = rw (moved_none (start + shift)) refl
scalar_moved (UnionOf name alternatives) start at shift row = rw (moved_none (start + shift)) refl

row_moved : (element : PokeType) (width count start at shift : ℕ) (row : List ℕ) →
    instances (row_templates element width count start at) shift row
    ≡ instances (row_templates element width count (start + shift) at) 0 row
row_moved element width zero start at shift row = refl
row_moved element width (suc count) start at shift row =
    let first = scalar_moved element start at shift row in
    let others = row_moved element width count (start + width) (at + bytes_for width) shift row in
    let others = rw (moved_end start shift width) at others in
    rw (first, others) refl

mutual
  template_moved : (level : ℕ) (ty : PokeType) (start at shift : ℕ) (row : List ℕ) →
      instance (type_template level ty start at) shift row
      ≡ instance (type_template level ty (start + shift) at) 0 row
  template_moved level (IntegerOf type) start at shift row = scalar_moved (IntegerOf type) start at shift row
  template_moved level (OffsetOf type unit) start at shift row = scalar_moved (OffsetOf type unit) start at shift row
  template_moved level StringOf start at shift row = rw (moved_none (start + shift)) refl
  template_moved level (ArrayOf element bound) start at shift row =
      let bits = bits_at level (ArrayOf element bound) in
      let own = row_moved element (given (scalar_width element)) (given (literal_count bound)) start at shift row in
      rw (moved_none (start + shift), moved_none ((start + shift) + bits), moved_end start shift bits)
      (ap (Mapped ArrayLabel (start + shift) ((start + shift) + bits)) own)
  template_moved level (StructOf name pinned fields) start at shift row =
      let bits = (known (fields_layout (level + 1) fields)).bits in
      rw (moved_none (start + shift), moved_none ((start + shift) + bits), moved_end start shift bits)
      (ap (Mapped (StructLabel name (field_names fields)) (start + shift) ((start + shift) + bits))
      (fields_moved (level + 1) fields start at shift row))
  template_moved level (IntegralOf name type fields) start at shift row =
      rw (moved_none (start + shift), moved_none ((start + shift) + type.width), moved_end start shift type.width)
      (ap (Mapped (StructLabel name (part_names fields)) (start + shift) ((start + shift) + type.width))
      (parts_moved (level + 1) fields start at shift row))
  template_moved level (UnionOf name alternatives) start at shift row = rw (moved_none (start + shift)) refl

  fields_moved : (level : ℕ) (fields : Fields) (start at shift : ℕ) (row : List ℕ) →
      instances (field_templates level fields start at) shift row
      ≡ instances (field_templates level fields (start + shift) at) 0 row
  fields_moved level NoFields start at shift row = refl
  fields_moved level (FieldThen name order type c label when rest) start at shift row =
      let first = template_moved level type start at shift row in
      let others = fields_moved level rest (start + bits_at level type) (at + bytes_at level type) shift row in
      let others = rw (moved_end start shift (bits_at level type)) at others in
      rw (first, others) refl

  parts_moved : (level : ℕ) (parts : Parts) (start at shift : ℕ) (row : List ℕ) →
      instances (part_templates level parts start at) shift row
      ≡ instances (part_templates level parts (start + shift) at) 0 row
  parts_moved level NoParts start at shift row = refl
  parts_moved level (PartThen name order type c rest) start at shift row =
      let first = template_moved level type start at shift row in
      let others = parts_moved level rest start (at + bytes_at level type) shift row in
      rw (first, others) refl

-- ---- a value that fits

-- a value of the layout of a type, at a place
pub record IsLaid (level : ℕ) (ty : PokeType) (l : Layout) (s : ℕ) (v : Value) : Type 0 where
  pub fixed : IsFixed v
  pub starts : start_of v ≡ s
  pub ends : end_of v ≡ s + l.bits
  pub bytes : row_length v ≡ l.bytes
  pub template : (at : ℕ) → template_of v at ≡ type_template level ty s at

-- Members of a frame beyond those of other frames: each ends where the last one may end, or before, and their bytes
-- and templates are those of fields.
record AreLaid (templates : (at : ℕ) → Members) (l : Layout) (s : ℕ) (levels inside : Levels) : Type 0 where
  values : List (Option Value)
  is : top_of inside ≡ top_of levels ++ values
  fixed : (end : ℕ) → s + l.bits ≤ end → AreFixed end (gathered values)
  bytes : rows_length (gathered values) ≡ l.bytes
  laid : (at : ℕ) → templates_of (gathered values) at ≡ templates at

none_laid : (templates : (at : ℕ) → Members) (l : Layout) (s : ℕ) (levels inside : Levels) → Some no_layout ≡ Some l →
    inside ≡ levels → ((at : ℕ) → NoMembers ≡ templates at) → AreLaid templates l s levels inside
none_laid templates l s levels inside e same laid =
    let is : no_layout ≡ l = cc in
    record {
      values = [];
      is = ap top_of same ∙ sym (append-nil (top_of levels));
      fixed = λ end le. tt;
      bytes = ap (λ (x : Layout). x.bytes) is;
      laid = laid;
    }

top_push : (levels : Levels) (v : Value) (values : List (Option Value)) →
    top_of (pushed levels (Some v)) ++ values ≡ top_of levels ++ Some v ∷ values
top_push [] v values = refl
top_push (top ∷ outer) v values = append_assoc top (Some v ∷ []) values

-- one more before others, which start at `next`
one_laid : (level : ℕ) (ty : PokeType) (one more l : Layout) (s next : ℕ) (levels inside : Levels) (v : Value)
    (templates rest : (at : ℕ) → Members) → layout_of level ty ≡ Some one → l ≡ sum_of one more →
    next + more.bits ≤ s + l.bits → IsLaid level ty one s v →
    AreLaid rest more next (pushed levels (Some v)) inside →
    ((at : ℕ) → templates at ≡ MemberThen (type_template level ty s at) (rest (at + bytes_at level ty))) →
    AreLaid templates l s levels inside
one_laid level ty one more l s next levels inside v templates rest known_one sum within own others is =
    let bits = ap (λ (x : Layout). x.bits) sum in
    let bytes = ap (λ (x : Layout). x.bytes) sum in
    let ends = own.ends in
    let few = own.bytes in
    let more_few = others.bytes in
    record {
      values = Some v ∷ others.values;
      is = others.is ∙ top_push levels v others.values;
      fixed = λ end le. (omega (arith, ends, bits, le), (own.fixed, others.fixed end (omega (arith, within, le))));
      bytes = omega (arith, bytes, few, more_few);
      laid = λ at.
          let here : row_length v ≡ bytes_at level ty = few ∙ sym (ap (λ o. (known o).bytes) known_one) in
          ap (λ m. MemberThen m (templates_of (gathered others.values) (at + row_length v))) (own.template at)
          ∙ ap (MemberThen (type_template level ty s at)) (others.laid (at + row_length v)
          ∙ ap (λ n. rest (at + n)) here) ∙ sym (is at);
    }

integer_laid : (level : ℕ) (type : IntegerType) (l : Layout) (s n : ℕ) (v : Value) →
    Some (number_layout type) ≡ Some l →
    HasWidths (IntegerOf type) → n < 2 ^ type.width → v ≡ integer_value type n s → IsLaid level (IntegerOf type) l s v
unfolding HasWidths
integer_laid level type l s n v h w less e =
    let is : number_layout type ≡ l = cc in
    subst (IsLaid level (IntegerOf type) l s) (sym e) (record {
      fixed = (record { width = w; range = converted_again type n w.some less; bits = refl; none = refl }, tt);
      starts = refl;
      ends = ap (λ (x : Layout). s + x.bits) is;
      bytes = moved_none _ ∙ ap (λ (x : Layout). x.bytes) is;
      template = λ at. refl;
    })

offset_laid : (level : ℕ) (type : IntegerType) (unit : ℕ) (l : Layout) (s n : ℕ) (v : Value) →
    Some (number_layout type) ≡ Some l → HasWidths (OffsetOf type unit) → n < 2 ^ type.width →
    v ≡ offset_value type unit n s → IsLaid level (OffsetOf type unit) l s v
unfolding HasWidths
offset_laid level type unit l s n v h w less e =
    let is : number_layout type ≡ l = cc in
    subst (IsLaid level (OffsetOf type unit) l s) (sym e) (record {
      fixed =
          ((record { width = w.0; range = converted_again type n w.0.some less; bits = refl; none = refl }, w.1), tt);
      starts = refl;
      ends = ap (λ (x : Layout). s + x.bits) is;
      bytes = moved_none _ ∙ ap (λ (x : Layout). x.bytes) is;
      template = λ at. refl;
    })

mutual
  unfolding FitsNumber HasWidths

  number_laid : (level : ℕ) (ty : PokeType) (l : Layout) → layout_of level ty ≡ Some l → HasWidths ty →
      (levels : Levels) (s : ℕ) (v : Value) → FitsNumber ty levels s v → IsLaid level ty l s v
  number_laid level (IntegerOf type) l h w levels s v fit = integer_laid level type l s fit.0 v h w fit.1 fit.2
  number_laid level (OffsetOf type unit) l h w levels s v fit =
      offset_laid level type unit l s fit.0 v h w fit.1 fit.2
  number_laid level StringOf l h w levels s v fit = absurd fit
  number_laid level (ArrayOf element bound) l h w levels s v fit = absurd fit
  number_laid level (StructOf name pinned _) l h w levels s v fit = absurd fit
  number_laid level (IntegralOf name type fields) l h w levels s v fit =
      let i = integral_laid level type.width fields l h in
      let ms = digits_laid (level + 1) fields l i.laid w.1 (opened levels) s fit.0 fit.1 in
      let whole = i.whole in
      let ends : s + type.width ≡ s + l.bits = omega (arith, whole) in
      let le : s + l.bits ≤ s + type.width = omega (arith, whole) in
      let inside : top_of fit.0 ≡ ms.values = ms.is in
      let is : v ≡ Mapped (StructLabel name (part_names fields)) s (s + type.width) (gathered ms.values) =
      fit.2 ∙ ap (λ level. Mapped (StructLabel name (part_names fields)) s (s + type.width) (gathered level)) inside in
      subst (IsLaid level (IntegralOf name type fields) l s) (sym is) (record {
        fixed = (tt, ms.fixed (s + type.width) le);
        starts = refl;
        ends = ends;
        bytes = none_before _ ∙ ms.bytes;
        template = λ at. ap (Mapped (StructLabel name (part_names fields)) s (s + type.width)) (ms.laid (at + 0)
            ∙ ap (part_templates (level + 1) fields s) (moved_none at));
      })
  number_laid level (UnionOf name alternatives) l h w levels s v fit = absurd fit

  digits_laid : (level : ℕ) (parts : Parts) (l : Layout) → parts_layout level parts ≡ Some l → PartsHaveWidths parts →
      (levels : Levels) (s : ℕ) (inside : Levels) → DigitsFit parts levels s inside →
      AreLaid (part_templates level parts s) l s levels inside
  digits_laid level NoParts l h w levels s inside fit =
      none_laid (part_templates level NoParts s) l s levels inside h fit (λ at. refl)
  digits_laid level (PartThen name order ty c rest) l h w levels s inside fit =
      let f = part_laid level ty c (parts_layout level rest) l h in
      let own = number_laid level ty f.one f.laid w.0 levels s fit.0 fit.1 in
      let others = digits_laid level rest f.more f.rest w.1 (pushed levels (Some fit.0)) s inside fit.3 in
      let bits = ap (λ (x : Layout). x.bits) f.sum in
      one_laid level ty f.one f.more l s s levels inside fit.0 (part_templates level (PartThen name order ty c rest) s)
      (part_templates level rest s) f.laid f.sum (omega (arith, bits)) own others (λ at. refl)

-- ---- an array

abbrev one_number : (width : ℕ) → Layout
one_number width = record { bits = width; bytes = bytes_for width }

-- an integer or an offset of a width
scalar_known : (level : ℕ) (element : PokeType) (width : ℕ) → scalar_width element ≡ Some width →
    layout_of level element ≡ Some (one_number width)
scalar_known level (IntegerOf type) width e = ap (λ o. Some (one_number (given o))) e
scalar_known level (OffsetOf type unit) width e = ap (λ o. Some (one_number (given o))) e
scalar_known level StringOf width e = absurd cc
scalar_known level (ArrayOf element bound) width e = absurd cc
scalar_known level (StructOf name pinned _) width e = absurd cc
scalar_known level (IntegralOf name type _) width e = absurd cc
scalar_known level (UnionOf name alternatives) width e = absurd cc

scalar_fits : (m : ℕ) (element : PokeType) (width : ℕ) → scalar_width element ≡ Some width → (levels : Levels) (s : ℕ)
    (v : Value) → Fits m element levels s v → FitsNumber element levels s v
unfolding Fits
scalar_fits m (IntegerOf type) width e levels s v fit = fit.0
scalar_fits m (OffsetOf type unit) width e levels s v fit = fit.0
scalar_fits m StringOf width e levels s v fit = absurd cc
scalar_fits m (ArrayOf element bound) width e levels s v fit = absurd cc
scalar_fits m (StructOf name pinned _) width e levels s v fit = absurd cc
scalar_fits m (IntegralOf name type _) width e levels s v fit = absurd cc
scalar_fits m (UnionOf name alternatives) width e levels s v fit = absurd cc

scalar_templates : (level : ℕ) (element : PokeType) (width : ℕ) → scalar_width element ≡ Some width →
    (start at : ℕ) → scalar_template element start at ≡ type_template level element start at
scalar_templates level (IntegerOf type) width e start at = refl
scalar_templates level (OffsetOf type unit) width e start at = refl
scalar_templates level StringOf width e start at = absurd cc
scalar_templates level (ArrayOf element bound) width e start at = absurd cc
scalar_templates level (StructOf name pinned _) width e start at = absurd cc
scalar_templates level (IntegralOf name type _) width e start at = absurd cc
scalar_templates level (UnionOf name alternatives) width e start at = absurd cc

no_numbers : (width : ℕ) → no_layout ≡ numbers_layout width 0
no_numbers width = rw (mul-zero width, mul-zero (bytes_for width)) refl

one_more : (width count : ℕ) →
    numbers_layout width (suc count) ≡ sum_of (one_number width) (numbers_layout width count)
one_more width count =
    let bits : width * suc count ≡ width + width * count = mul-suc width count ∙ omega arith in
    let bytes : bytes_for width * suc count ≡ bytes_for width + bytes_for width * count =
    mul-suc (bytes_for width) count ∙ omega arith in
    rw (bits, bytes) refl

abbrev extent_or : Result Extent FaultAt → Extent
extent_or (Ok extent) = extent
extent_or (Err f) = Open

-- its elements are as many as it says
literal_whole : (extent : Extent) (count s n end : ℕ) → extent ≡ Count count → IsWhole extent s n end → n ≡ count
literal_whole extent count s n end e whole = subst (λ x. IsWhole x s n end) e whole

-- numbers of a width, one after the other
record NumbersLaid (element : PokeType) (width place i n : ℕ) (levels inside : Levels) (end : ℕ) : Type 0 where
  count : ℕ
  counted : n ≡ i + count
  members : AreLaid (row_templates element width count place) (numbers_layout width count) place levels inside
  ends : end ≡ place + width * count

elements_laid : (level m : ℕ) (element : PokeType) (width : ℕ) → scalar_width element ≡ Some width →
    HasWidths element → {inside : Levels} {end n : ℕ} {levels : Levels} {place i : ℕ} →
    ElementsFit (Fits m element) inside end n levels place i →
    NumbersLaid element width place i n levels inside end
elements_laid level m element width scalar w {inside = inside} {end = end} no_more_fit = record {
  count = 0;
  counted = omega arith;
  members = none_laid (row_templates element width 0 end) (numbers_layout width 0) end inside inside
      (ap Some (no_numbers width)) refl (λ at. refl);
  ends = omega arith;
}
elements_laid level m element width scalar w {inside = inside} {levels = levels} {place = place}
    (one_more_fits v fit lt rest) =
    let laid = scalar_known level element width scalar in
    let own = number_laid level element (one_number width) laid w levels place v
    (scalar_fits m element width scalar levels place v fit) in
    let more = elements_laid level m element width scalar w rest in
    let counted = more.counted in
    let ends = more.ends in
    let here : end_of v ≡ place + width = own.ends in
    let bits : width * suc more.count ≡ width * more.count + width = mul-suc width more.count in
    let size : bytes_at level element ≡ bytes_for width = ap (λ o. (known o).bytes) laid in
    record {
      count = suc more.count;
      counted = omega (arith, counted);
      members = one_laid level element (one_number width) (numbers_layout width more.count)
          (numbers_layout width (suc more.count)) place (end_of v) levels inside v
          (row_templates element width (suc more.count) place) (row_templates element width more.count (end_of v))
          laid (one_more width more.count) (omega (arith, here, bits)) own more.members
          (λ at. ap (λ x. MemberThen x (row_templates element width more.count (place + width) (at + bytes_for width)))
          (scalar_templates level element width scalar place at)
          ∙ ap (λ p. MemberThen (type_template level element place at)
          (row_templates element width more.count p (at + bytes_for width))) (sym here)
          ∙ ap (λ b. MemberThen (type_template level element place at)
          (row_templates element width more.count (end_of v) (at + b))) (sym size));
      ends = omega (arith, ends, here, bits);
    }

row_laid : (level m : ℕ) (element : PokeType) (bound : Bound) (l : Layout) →
    layout_of level (ArrayOf element bound) ≡ Some l → HasWidths element → (levels : Levels) (s : ℕ) (v : Value) →
    Fits m (ArrayOf element bound) levels s v → IsLaid level (ArrayOf element bound) l s v
unfolding Fits
row_laid level m element bound l h w levels s v fit =
    let a = array_laid element bound l h in
    let all = elements_laid level m element a.width a.scalar w fit.5 in
    let extent : fit.0 ≡ Count a.count =
    ap extent_or (sym fit.1 ∙ literal_extent bound a.count a.literal levels s) in
    let whole : fit.4 ≡ a.count = literal_whole fit.0 a.count s fit.4 fit.3 extent fit.6 in
    let counted = all.counted in
    let count : all.count ≡ a.count = omega (arith, counted, whole) in
    let is : l ≡ numbers_layout a.width all.count = a.is ∙ ap (numbers_layout a.width) (sym count) in
    let ms = all.members in
    let bits : l.bits ≡ a.width * all.count = ap (λ (x : Layout). x.bits) is in
    let bytes : l.bytes ≡ bytes_for a.width * all.count = ap (λ (x : Layout). x.bytes) is in
    let ends = all.ends in
    let end : fit.3 ≡ s + l.bits = omega (arith, ends, bits) in
    let inside : top_of fit.2 ≡ ms.values = ms.is in
    let value : v ≡ Mapped ArrayLabel s (s + l.bits) (gathered ms.values) =
    fit.8 ∙ ap (λ level. Mapped ArrayLabel s fit.3 (gathered level)) inside
    ∙ ap (λ end. Mapped ArrayLabel s end (gathered ms.values)) end in
    let known_bits : l.bits ≡ bits_at level (ArrayOf element bound) = sym (ap (λ o. (known o).bits) h) in
    let rows : (at : ℕ) → row_templates element a.width all.count s at
    ≡ row_templates element (given (scalar_width element)) (given (literal_count bound)) s at =
    λ at. ap (λ n. row_templates element a.width n s at) (count ∙ sym (ap given a.literal))
    ∙ ap (λ w. row_templates element w (given (literal_count bound)) s at) (sym (ap given a.scalar)) in
    subst (IsLaid level (ArrayOf element bound) l s) (sym value) (record {
      fixed = (tt, ms.fixed (s + l.bits) (omega (arith, bits)));
      starts = refl;
      ends = refl;
      bytes = none_before _ ∙ ms.bytes ∙ sym bytes;
      template = λ at. ap (Mapped ArrayLabel s (s + l.bits)) (ms.laid (at + 0)
          ∙ ap (row_templates element a.width all.count s) (moved_none at) ∙ rows at)
          ∙ ap (λ n. Mapped ArrayLabel s (s + n)
          (row_templates element (given (scalar_width element)) (given (literal_count bound)) s at)) known_bits;
    })

-- ---- a value of each type

abbrev told_or : Result Bool FaultAt → Bool
told_or (Ok b) = b
told_or (Err f) = false

abbrev start_or : Result ℕ FaultAt → ℕ
start_or (Ok n) = n
start_or (Err f) = 0

-- the fields of a struct, which end where the last one does
record FieldsLaid (level : ℕ) (fields : Fields) (l : Layout) (s : ℕ) (levels inside : Levels) (end : ℕ) : Type 0 where
  members : AreLaid (field_templates level fields s) l s levels inside
  ends : end ≡ s + l.bits

mutual
  unfolding Fits HasWidths condition field_start

  pub fits_laid : (level m : ℕ) (ty : PokeType) (l : Layout) → layout_of level ty ≡ Some l → HasWidths ty →
      (levels : Levels) (s : ℕ) (v : Value) → Fits m ty levels s v → IsLaid level ty l s v
  fits_laid level m (IntegerOf type) l h w levels s v fit = number_laid level (IntegerOf type) l h w levels s v fit.0
  fits_laid level m (OffsetOf type unit) l h w levels s v fit =
      number_laid level (OffsetOf type unit) l h w levels s v fit.0
  fits_laid level m StringOf l h w levels s v fit = absurd cc
  fits_laid level m (ArrayOf element bound) l h w levels s v fit =
      row_laid level m element bound l h w levels s v fit
  fits_laid level m (StructOf name true _) l h w levels s v fit = absurd cc
  fits_laid level m (StructOf name false fields) l h w levels s v fit =
      let i = struct_laid level name false fields l h in
      let a = fields_laid (level + 1) m fields l i.laid w s (opened levels) s fit.0 fit.1 fit.2 in
      let ms = a.members in
      let ends = a.ends in
      let bits : (known (fields_layout (level + 1) fields)).bits ≡ l.bits =
      ap (λ o. (known o).bits) i.laid in
      let whole : s + l.bits ≡ s + (known (fields_layout (level + 1) fields)).bits = omega (arith, bits) in
      let inside : top_of fit.0 ≡ ms.values = ms.is in
      let is : v ≡ Mapped (StructLabel name (field_names fields)) s (s + l.bits) (gathered ms.values) =
      fit.4 ∙ ap (λ level. Mapped (StructLabel name (field_names fields)) s fit.1 (gathered level)) inside
      ∙ ap (λ end. Mapped (StructLabel name (field_names fields)) s end (gathered ms.values)) ends in
      subst (IsLaid level (StructOf name false fields) l s) (sym is) (record {
        fixed = (tt, ms.fixed (s + l.bits) (omega arith));
        starts = refl;
        ends = refl;
        bytes = none_before _ ∙ ms.bytes;
        template = λ at. ap (Mapped (StructLabel name (field_names fields)) s (s + l.bits)) (ms.laid (at + 0)
            ∙ ap (field_templates (level + 1) fields s) (moved_none at))
            ∙ ap (λ end. Mapped (StructLabel name (field_names fields)) s end
            (field_templates (level + 1) fields s at)) whole;
      })
  fits_laid level m (IntegralOf name type fields) l h w levels s v fit =
      number_laid level (IntegralOf name type fields) l h w levels s v fit.0
  fits_laid level m (UnionOf name alternatives) l h w levels s v fit = absurd cc

  fields_laid : (level m : ℕ) (fields : Fields) (l : Layout) → fields_layout level fields ≡ Some l → HaveWidths fields →
      (s : ℕ) (levels : Levels) (behind : ℕ) (inside : Levels) (end : ℕ) →
      FieldsFit m false s fields levels behind behind inside end →
      FieldsLaid level fields l behind levels inside end
  fields_laid level m NoFields l h w s levels behind inside end fit =
      let is : no_layout ≡ l = cc in
      let bits = ap (λ (x : Layout). x.bits) is in
      record {
        members = none_laid (field_templates level NoFields behind) l behind levels inside h fit.0 (λ at. refl);
        ends = fit.1 ∙ sym (moved_none behind) ∙ ap (λ n. behind + n) bits;
      }
  fields_laid level m (FieldThen name order ty c (Some label) when rest) l h w s levels behind inside end fit =
      absurd (no_clause (plain_field (clause_avoids level c) (Some label) when (layout_of level ty)
      (fields_layout level rest) l h).0)
  fields_laid level m (FieldThen name order ty c None (Some when) rest) l h w s levels behind inside end fit =
      absurd (no_clause (plain_field (clause_avoids level c) None (Some when) (layout_of level ty)
      (fields_layout level rest) l h).1)
  fields_laid level m (FieldThen name order ty c None None rest) l h w s levels behind inside end (inl fit) =
      clash (ap told_or fit.0)
  fields_laid level m (FieldThen name order ty c None None rest) l h w s levels behind inside end (inr fit) =
      let f = part_laid level ty c (fields_layout level rest) l h in
      let v = fit.4 in
      let here : fit.1 ≡ behind = sym (ap start_or fit.2) in
      let own = fits_laid level m ty f.one f.laid w.0 levels behind v
      (subst (λ p. Fits m ty levels p v) here fit.5) in
      let ends = own.ends in
      let top : max behind (end_of v) ≡ end_of v = omega (arith, ends) in
      let more = subst (λ t. FieldsFit m false s rest (pushed levels (Some v)) (end_of v) t inside end) top fit.7 in
      let others = fields_laid level m rest f.more f.rest w.1 s (pushed levels (Some v)) (end_of v) inside end more in
      let bits = ap (λ (x : Layout). x.bits) f.sum in
      let all = others.ends in
      let own_bits : end_of v ≡ behind + bits_at level ty =
      ends ∙ ap (λ n. behind + n) (sym (ap (λ o. (known o).bits) f.laid)) in
      record {
        members = one_laid level ty f.one f.more l behind (end_of v) levels inside v
            (field_templates level (FieldThen name order ty c None None rest) behind)
            (field_templates level rest (end_of v)) f.laid f.sum (omega (arith, bits, ends)) own others.members
            (λ at. ap (λ n. MemberThen (type_template level ty behind at)
            (field_templates level rest n (at + bytes_at level ty))) (sym own_bits));
        ends = omega (arith, all, ends, bits);
      }

-- ---- two values

-- two values of a type of fixed layout, the second one at the same place or after it: it is the instance of the first
-- one's template with its own bytes
pub values_alike : (level : ℕ) (ty : PokeType) (l : Layout) (s t : ℕ) (w v : Value) → IsLaid level ty l s w →
    IsLaid level ty l t v → s ≤ t → v ≡ instance (template_of w 0) (t - s) (row_of v)
values_alike level ty l s t w v first second le =
    let place : s + (t - s) ≡ t = omega (arith, le) in
    sym (instance-of_template v second.fixed)
    ∙ ap (λ x. instance x 0 (row_of v)) (second.template 0)
    ∙ ap (λ n. instance (type_template level ty n 0) 0 (row_of v)) (sym place)
    ∙ sym (template_moved level ty s 0 (t - s) (row_of v))
    ∙ ap (λ x. instance x (t - s) (row_of v)) (sym (first.template 0))

-- the same of two elements of an array whose elements are kept as values of fixed layout
pub elements_alike : (m : ℕ) (ty : PokeType) (stride : ℕ) → rows.row_of ty ≡ rows.Values stride → HasWidths ty →
    (levels inner : Levels) (s t : ℕ) (w v : Value) → Fits m ty levels s w → Fits m ty inner t v →
    start_of w ≤ start_of v → v ≡ instance (template_of w 0) (start_of v - start_of w) (row_of v)
elements_alike m ty stride row widths levels inner s t w v first second le =
    let e = element_laid ty stride row in
    let one = fits_laid 0 m ty e.layout e.laid widths levels s w first in
    let two = fits_laid 0 m ty e.layout e.laid widths inner t v second in
    let from = one.starts in
    let to = two.starts in
    let shift : t - s ≡ start_of v - start_of w = omega (arith, from, to) in
    values_alike 0 ty e.layout s t w v one two (omega (arith, from, to, le))
    ∙ ap (λ n. instance (template_of w 0) n (row_of v)) shift

label_is : (v w : Value) → v ≡ w → IsStructLabel (label_of w) → IsStructLabel (label_of v)
label_is v w e h = subst (λ x. IsStructLabel (label_of x)) (sym e) h

-- it is a struct
struct_label : (m : ℕ) (ty : PokeType) (stride : ℕ) → rows.row_of ty ≡ rows.Values stride → (levels : Levels) (s : ℕ)
    (v : Value) → Fits m ty levels s v → IsStructLabel (label_of v)
unfolding Fits FitsNumber
struct_label m (IntegerOf type) stride row levels s v fit = absurd cc
struct_label m (OffsetOf type unit) stride row levels s v fit = absurd cc
struct_label m StringOf stride row levels s v fit = absurd cc
struct_label m (ArrayOf element bound) stride row levels s v fit = absurd cc
struct_label m (StructOf name pinned fields) stride row levels s v fit =
    label_is v (struct_value name (field_names fields) s fit.1 fit.0) fit.4 tt
struct_label m (IntegralOf name type fields) stride row levels s v fit =
    label_is v (struct_value name (part_names fields) s (s + type.width) fit.0.0) fit.0.2 tt
struct_label m (UnionOf name alternatives) stride row levels s v fit = absurd cc

-- such an element: it has fixed layout, its numbers take `stride` bytes, and its bits are the same for all
pub record IsElement (ty : PokeType) (stride s : ℕ) (v : Value) : Type 0 where
  pub label : IsStructLabel (label_of v)
  pub layout : Layout
  pub laid : layout_of 0 ty ≡ Some layout
  pub is : IsLaid 0 ty layout s v
  pub bytes : row_length v ≡ stride
  pub some : 1 ≤ stride
  pub few : stride ≤ 512
  pub wide : 1 ≤ layout.bits
  pub narrow : layout.bits ≤ 8 * stride

pub element_is : (m : ℕ) (ty : PokeType) (stride : ℕ) → rows.row_of ty ≡ rows.Values stride → HasWidths ty →
    (levels : Levels) (s : ℕ) (v : Value) → Fits m ty levels s v → IsElement ty stride s v
element_is m ty stride row widths levels s v fit =
    let e = element_laid ty stride row in
    let a = fits_laid 0 m ty e.layout e.laid widths levels s v fit in
    let wide = layout_wide 0 ty e.layout e.laid in
    let bytes = e.bytes in
    let some = e.some in
    let few = e.few in
    record {
      label = struct_label m ty stride row levels s v fit;
      layout = e.layout;
      laid = e.laid;
      is = a;
      bytes = a.bytes ∙ e.bytes;
      some = omega (arith, some, bytes);
      few = omega (arith, few, bytes);
      wide = omega (arith, wide.0, some);
      narrow = omega (arith, wide.1, bytes);
    }
