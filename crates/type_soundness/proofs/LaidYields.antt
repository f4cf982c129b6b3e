-- Each value that a plan of a type of fixed layout yields ends after the bits of the layout, and its arrays take the
-- bytes that the type says, whatever is read.
use Rattle.std.proofs.Common.{◌≡◌, ℕ, zero, suc, ◌+◌, ◌-◌, ◌*◌, ◌≤◌, max, Bool, true, false, List, [], ◌∷◌, ◌++◌, Option, Some, None, Result, Ok, Err, ◌⊎◌, inl, inr, refl, sym, ap, subst, ◌∙◌, arith}
use Rattle.std.specs.Prelude.{if◌then◌else◌, nat_le, nat_lt, nat_eq}
use Rattle.std.proofs.Math.Nat.{mul-add}
use Rattle.std.proofs.lemmas.Bool.{leb-true, ltb-true, ltb-false}
use Rattle.bit_space.specs.declared.order.Order.{Order}
use Rattle.pickle_types.specs.declared.integer.IntegerType.{IntegerType}
use Rattle.pickle_types.specs.Types.{Term, PokeType, IntegerOf, OffsetOf, StringOf, ArrayOf, StructOf, IntegralOf, UnionOf, Bound, Fields, NoFields, FieldThen, Parts, NoParts, PartThen}
use Rattle.pickle_types.specs.Bounds.{least_width, count_of}
use Rattle.pickle_meaning.specs.declared.extent.Extent.TheVariants.{Count}
use Rattle.pickle_meaning.specs.Values.{ArrayLabel, Value, Mapped, NoMembers, label_of, member_count, end_of, Levels, pushed, opened, top_of, gathered}
use Rattle.pickle_meaning.specs.Clauses.{FaultAt, condition, field_start, extent_of}
use Rattle.pickle_meaning.specs.Means.{Opened, number_type, width_in, first_digits, ordered, array_value}
use Rattle.mapping_plans.specs.Plan.{Plan, after, then_ok}
use Rattle.mapping_plans.specs.Mapping.{from_inside, constrained, number_plan, digits_plan, read_plan, after_element, element_plan, elements_plan, plan, fields_plan}
use Rattle.mapping_plans.specs.Rows.{Layout, number_layout, no_layout, scalar_width, literal_count, clause_avoids, layout_of, fields_layout, parts_layout, row_of}
use Rattle.mapping_plans.proofs.Always.{OfValue}
use Rattle.mapping_plans.proofs.Layouts.{struct_laid, integral_laid, array_laid, no_clause, plain_field, part_laid}
use Rattle.mapping_plans.proofs.NumberArrays.{literal_extent, top_more}
use Rattle.value_store.specs.Packed.{bytes_for}
use Rattle.value_store.specs.Takes.{BytesOf, number_width, row_width, value_takes, members_take}
use Rattle.type_soundness.specs.Capacity.{bytes_in, array_bytes, fields_bytes, parts_bytes}
use Rattle.type_soundness.proofs.Yields.{Yields, yields, on_tick, on_made, on_read, weaker, element_yields, then_yields, ok_yields, told_yields, either, framed_yields}

-- ---- plans

-- a fact about a plan's value, whatever it reads
abbrev Keeps : {A : Type 0} → (A → Type 0) → Plan (Result A FaultAt) → Type 0
Keeps Q p = Yields (OfValue Q) p

-- a value that is known
known_yields : {A B F : Type 0} {Q : B → Type 0} (n : ℕ) (r : Result A F) (a : A) (f : A → Plan (Result B F)) →
    r ≡ Ok a → Yields (OfValue Q) (f a) → Yields (OfValue Q) (then_ok (after n r) f)
unfolding then_ok
known_yields {A} {B} {F} {Q} n r a f e h = subst (λ t. Yields (OfValue Q) (then_ok (after n t) f)) (sym e) (steps n)
  where
    steps : (n : ℕ) → Yields (OfValue Q) (then_ok (after n (Ok a)) f)
    steps zero = h
    steps (suc n) = on_tick (steps n)

-- a test, of which one side is known
where_told : {A : Type 0} {Q : A → Type 0} {p q : Plan A} (t : Bool) → (t ≡ true → Yields Q p) →
    (t ≡ false → Yields Q q) → Yields Q (if t then p else q)
where_told true h g = h refl
where_told false h g = g refl

inside_then : {A : Type 0} {Q : A → Type 0} (m s : ℕ) {p : Plan (Result A FaultAt)} → (s ≤ m → Keeps Q p) →
    Keeps Q (from_inside m s p)
unfolding from_inside
inside_then m s h = where_told (nat_le s m) (λ e. h (leb-true s m e)) (λ e. yields tt)

constrained_keeps : {Q : Value → Type 0} (c : Option Term) (levels : Levels) (at : ℕ) (v : Value) → Q v →
    Keeps Q (constrained c levels at v)
unfolding constrained
constrained_keeps {Q} c levels at v h = told_yields {Q = Q} _ _ _ (λ u. yields h)

-- ---- members

bytes_more : (level : List (Option Value)) (v : Value) →
    members_take true BytesOf (gathered (level ++ Some v ∷ []))
    ≡ members_take true BytesOf (gathered level) + value_takes true BytesOf v
bytes_more [] v = omega arith
bytes_more (None ∷ rest) v = bytes_more rest v
bytes_more (Some w ∷ rest) v = let h = bytes_more rest v in omega (arith, h)

count_more : (level : List (Option Value)) (v : Value) →
    member_count (gathered (level ++ Some v ∷ [])) ≡ member_count (gathered level) + 1
count_more [] v = omega arith
count_more (None ∷ rest) v = let h = count_more rest v in omega (arith, h)
count_more (Some w ∷ rest) v = let h = count_more rest v in omega (arith, h)

-- no member yet, or numbers of a width
abbrev IsRow : (width : ℕ) → List (Option Value) → Type 0
IsRow width level = (gathered level ≡ NoMembers) ⊎ (row_width (gathered level) ≡ Some width)

row_more : (width : ℕ) (level : List (Option Value)) (v : Value) → number_width (label_of v) ≡ Some width →
    IsRow width level → row_width (gathered (level ++ Some v ∷ [])) ≡ Some width
row_more width [] v e h = e
row_more width (None ∷ rest) v e (inl h) = absurd cc
row_more width (None ∷ rest) v e (inr h) = absurd cc
row_more width (Some w ∷ rest) v e (inl h) = absurd cc
row_more width (Some w ∷ rest) v e (inr h) = h

-- ---- values

-- a value that starts at a bit has such a layout, and its arrays take so many bytes
record IsWhole (bits bytes s : ℕ) (v : Value) : Type 0 where
  ends : end_of v ≡ s + bits
  few : value_takes true BytesOf v ≡ bytes

-- the same, and it is inside m bits
pub record IsInside (m bits bytes s : ℕ) (v : Value) : Type 0 where
  pub ends : end_of v ≡ s + bits
  pub few : value_takes true BytesOf v ≡ bytes
  pub inside : end_of v ≤ m

-- members of a frame beyond those of another, whose arrays take so many bytes
abbrev TakesMore : (bytes : ℕ) → Levels → Levels → Type 0
TakesMore bytes levels inside =
    members_take true BytesOf (gathered (top_of inside)) ≡ members_take true BytesOf (gathered (top_of levels)) + bytes

one_more : (bytes more all : ℕ) (levels inside : Levels) (v : Value) → all ≡ bytes + more →
    value_takes true BytesOf v ≡ bytes → TakesMore more (pushed levels (Some v)) inside → TakesMore all levels inside
one_more bytes more all levels inside v sum own h =
    let top = ap (λ level. members_take true BytesOf (gathered level)) (top_more levels v) in
    let one = bytes_more (top_of levels) v in
    omega (arith, sum, own, h, top, one)

none_more : (levels : Levels) → TakesMore 0 levels levels
none_more levels = omega arith

layout_bits : (l given : Layout) → Some given ≡ Some l → given.bits ≡ l.bits
layout_bits l given e = let same : given ≡ l = cc in ap (λ (x : Layout). x.bits) same

-- ---- numbers

mutual
  unfolding number_plan

  number_whole : (level : ℕ) (ty : PokeType) (l : Layout) → layout_of level ty ≡ Some l → (n : ℕ) (levels : Levels)
      (s : ℕ) → Keeps (IsWhole l.bits (array_bytes ty) s) (number_plan ty n levels s)
  number_whole level (IntegerOf type) l h n levels s =
      let bits = layout_bits l (number_layout type) h in
      on_made (yields (record { ends = omega (arith, bits); few = refl }))
  number_whole level (OffsetOf type unit) l h n levels s =
      let bits = layout_bits l (number_layout type) h in
      on_made (yields (record { ends = omega (arith, bits); few = refl }))
  number_whole level StringOf l h n levels s = absurd cc
  number_whole level (ArrayOf element bound) l h n levels s = yields tt
  number_whole level (StructOf name pinned _) l h n levels s = yields tt
  number_whole level (IntegralOf name type fields) l h n levels s =
      let i = integral_laid level type.width fields l h in
      let whole = i.whole in
      framed_yields {Q = IsWhole l.bits (parts_bytes fields) s} levels
      (ok_yields {P = TakesMore (parts_bytes fields) (opened levels)} {Q = IsWhole l.bits (parts_bytes fields) s} _
      (λ r more. on_made (yields (record { ends = omega (arith, whole); few = omega (arith, more) })))
      (digits_whole (level + 1) fields l i.laid n type.width (opened levels) s))
  number_whole level (UnionOf name alternatives) l h n levels s = absurd cc

  digits_whole : (level : ℕ) (parts : Parts) (l : Layout) → parts_layout level parts ≡ Some l → (n left : ℕ)
      (levels : Levels) (s : ℕ) → Keeps (TakesMore (parts_bytes parts) levels) (digits_plan parts n left levels s)
  digits_whole level NoParts l h n left levels s = yields (none_more levels)
  digits_whole level (PartThen name set ty c rest) l h n left levels s =
      let f = part_laid level ty c (parts_layout level rest) l h in
      on_tick (ok_yields {P = IsWhole f.one.bits (array_bytes ty) s}
      {Q = TakesMore (array_bytes ty + parts_bytes rest) levels} _
      (λ v own. weaker (told v own.few)
      (digits_whole level rest f.more f.rest n (left - width_in (number_type ty)) (pushed levels (Some v)) s))
      (ok_yields {P = IsWhole f.one.bits (array_bytes ty) s} {Q = IsWhole f.one.bits (array_bytes ty) s} _
      (λ v own. constrained_keeps c levels s v own)
      (on_tick (number_whole level ty f.one f.laid (first_digits n left (width_in (number_type ty))) levels s))))
    where
      told : (v : Value) → value_takes true BytesOf v ≡ array_bytes ty → (r : Result Levels FaultAt) →
          OfValue (TakesMore (parts_bytes rest) (pushed levels (Some v))) r →
          OfValue (TakesMore (array_bytes ty + parts_bytes rest) levels) r
      told v own (Ok inside) more = one_more (array_bytes ty) (parts_bytes rest) _ levels inside v refl own more
      told v own (Err f) more = tt

module _ (m : ℕ) where
  read_inside : (level : ℕ) (ty : PokeType) (l : Layout) → layout_of level ty ≡ Some l → (type : IntegerType)
      (order : Order) (levels : Levels) (s : ℕ) → l.bits ≡ type.width →
      Keeps (IsInside m l.bits (array_bytes ty) s) (read_plan m ty type order levels s)
  unfolding read_plan
  read_inside level ty l h type order levels s wide =
      on_tick (where_told (nat_le (s + type.width) m)
      (λ e. on_read (λ n. weaker (told (leb-true (s + type.width) m e)) (number_whole level ty l h n levels s)))
      (λ e. yields tt))
    where
      told : s + type.width ≤ m → (r : Result Value FaultAt) → OfValue (IsWhole l.bits (array_bytes ty) s) r →
          OfValue (IsInside m l.bits (array_bytes ty) s) r
      told le (Ok v) own =
          let ends = own.ends in
          record { ends = ends; few = own.few; inside = omega (arith, ends, wide, le) }
      told le (Err f) own = tt

  -- ---- arrays of numbers

  -- a number of a width
  record IsNumber (width s : ℕ) (v : Value) : Type 0 where
    wide : number_width (label_of v) ≡ Some width
    ends : end_of v ≡ s + width
    inside : end_of v ≤ m

  scalar_yields : (ty : PokeType) (width : ℕ) → scalar_width ty ≡ Some width → (order : Order) (levels : Levels)
      (s : ℕ) → Keeps (IsNumber width s) (plan m ty order levels s)
  unfolding plan read_plan number_plan
  scalar_yields (IntegerOf type) width e order levels s =
      let same : type.width ≡ width = cc in
      inside_then m s (λ le. on_tick (where_told (nat_le (s + type.width) m)
      (λ e. let up = leb-true (s + type.width) m e in
      on_read (λ n. on_made (yields (record { wide = ap Some same; ends = omega (arith, same); inside = up }))))
      (λ e. yields tt)))
  scalar_yields (OffsetOf type unit) width e order levels s =
      let same : type.width ≡ width = cc in
      inside_then m s (λ le. on_tick (where_told (nat_le (s + type.width) m)
      (λ e. let up = leb-true (s + type.width) m e in
      on_read (λ n. on_made (yields (record { wide = ap Some same; ends = omega (arith, same); inside = up }))))
      (λ e. yields tt)))
  scalar_yields StringOf width e order levels s = absurd cc
  scalar_yields (ArrayOf element bound) width e order levels s = absurd cc
  scalar_yields (StructOf name pinned _) width e order levels s = absurd cc
  scalar_yields (IntegralOf name type _) width e order levels s = absurd cc
  scalar_yields (UnionOf name alternatives) width e order levels s = absurd cc

  -- so many numbers of a width in the innermost frame, from a bit up to another
  record HasNumbers (width s i at : ℕ) (levels : Levels) : Type 0 where
    row : IsRow width (top_of levels)
    count : member_count (gathered (top_of levels)) ≡ i
    ends : at ≡ s + width * i
    inside : at ≤ m

  one_number : (width s i at : ℕ) (levels : Levels) (v : Value) → HasNumbers width s i at levels →
      IsNumber width at v → HasNumbers width s (i + 1) (end_of v) (pushed levels (Some v))
  one_number width s i at levels v h own =
      let top = top_more levels v in
      let count = h.count in
      let one = count_more (top_of levels) v in
      let all = ap (λ level. member_count (gathered level)) top in
      let before = h.ends in
      let ends = own.ends in
      let sum = mul-add width i 1 in
      record {
        row = inr (ap (λ level. row_width (gathered level)) top ∙ row_more width (top_of levels) v own.wide h.row);
        count = omega (arith, count, one, all);
        ends = omega (arith, before, ends, sum);
        inside = own.inside;
      }

  -- all of them
  abbrev AllNumbers : (width s count : ℕ) → Opened → Type 0
  AllNumbers width s count r = HasNumbers width s count r.1 r.0

  number_after : (width s count i : ℕ) (next : Levels → ℕ → Plan (Result Opened FaultAt)) (levels : Levels) (at : ℕ) →
      HasNumbers width s i at levels →
      ((l : Levels) (p : ℕ) → HasNumbers width s (i + 1) p l → Keeps (AllNumbers width s count) (next l p)) →
      (r : Result Value FaultAt) → OfValue (IsNumber width at) r →
      Keeps (AllNumbers width s count) (after_element (Count count) next levels at r)
  unfolding after_element
  number_after width s count i next levels at h g (Ok v) own =
      either (nat_eq (end_of v) at) (yields tt)
      (g (pushed levels (Some v)) (end_of v) (one_number width s i at levels v h own))
  number_after width s count i next levels at h g (Err f) own = yields tt

  numbers_yield : (element : Levels → ℕ → Plan (Result Value FaultAt)) (width s count : ℕ) →
      ((l : Levels) (at : ℕ) → Keeps (IsNumber width at) (element l at)) →
      (n i : ℕ) (levels : Levels) (at : ℕ) → i ≤ count → HasNumbers width s i at levels →
      Keeps (AllNumbers width s count) (elements_plan element m s (Count count) n i levels at)
  unfolding elements_plan
  numbers_yield element width s count each zero i levels at le h = yields tt
  numbers_yield element width s count each (suc n) i levels at le h =
      where_told (nat_lt i count)
      (λ e. let lt = ltb-true i count e in
      on_tick (then_yields _
      (number_after width s count i (elements_plan element m s (Count count) n (i + 1)) levels at h
      (λ l p more. numbers_yield element width s count each n (i + 1) l p (omega (arith, lt)) more)) (each levels at)))
      (λ e. let last = ltb-false i count e in
      let all : i ≡ count = omega (arith, last, le) in
      yields (subst (λ k. HasNumbers width s k at levels) all h))

  -- the array of them
  array_inside : (width s count : ℕ) (r : Opened) → HasNumbers width s count r.1 r.0 →
      IsInside m (width * count) (bytes_for width * count) s (array_value s r.1 r.0)
  array_inside width s count r h = record { ends = h.ends; few = told h.row; inside = h.inside }
    where
      told : IsRow width (top_of r.0) → value_takes true BytesOf (array_value s r.1 r.0) ≡ bytes_for width * count
      told (inl none) =
          let no : 0 ≡ count = sym (ap member_count none) ∙ h.count in
          ap (λ ms. value_takes true BytesOf (Mapped ArrayLabel s r.1 ms)) none
          ∙ subst (λ k. 0 ≡ bytes_for width * k) no (omega arith)
      told (inr row) = rw (row, h.count) refl

  array_yields : (element : PokeType) (bound : Bound) (width count : ℕ) → scalar_width element ≡ Some width →
      literal_count bound ≡ Some count → (order : Order) (levels : Levels) (s : ℕ) →
      Keeps (IsInside m (width * count) (bytes_for width * count) s) (plan m (ArrayOf element bound) order levels s)
  unfolding plan
  array_yields element bound width count scalar literal order levels s =
      inside_then m s (λ le.
      let none : s ≡ s + width * 0 = omega arith in
      on_tick (known_yields {Q = IsInside m (width * count) (bytes_for width * count) s} _ (extent_of bound levels s)
      (Count count) _ (literal_extent bound count literal levels s)
      (framed_yields {Q = IsInside m (width * count) (bytes_for width * count) s} levels
      (ok_yields {P = AllNumbers width s count} {Q = IsInside m (width * count) (bytes_for width * count) s} _
      (λ r all. on_made (yields (array_inside width s count r all)))
      (numbers_yield (element_plan element (plan m element order)) width s count
      (λ l p. element_yields (row_of element) l (scalar_yields element width scalar order l p))
      (count_of m (least_width element)) 0 (opened levels) s (omega arith)
      (record { row = inl refl; count = refl; ends = none; inside = le }))))))

  -- ---- types

  -- the members of fields, and where the last one ends
  record FieldsInside (bits bytes behind : ℕ) (levels : Levels) (r : Opened) : Type 0 where
    more : TakesMore bytes levels r.0
    ends : r.1 ≡ behind + bits
    inside : r.1 ≤ m

  mutual
    unfolding plan condition field_start

    pub laid_yields : (level : ℕ) (ty : PokeType) (l : Layout) → layout_of level ty ≡ Some l → (order : Order)
        (levels : Levels) (s : ℕ) → Keeps (IsInside m l.bits (array_bytes ty) s) (plan m ty order levels s)
    laid_yields level (IntegerOf type) l h order levels s =
        let bits = layout_bits l (number_layout type) h in
        inside_then m s (λ le. read_inside level (IntegerOf type) l h type order levels s (sym bits))
    laid_yields level (OffsetOf type unit) l h order levels s =
        let bits = layout_bits l (number_layout type) h in
        inside_then m s (λ le. read_inside level (OffsetOf type unit) l h type order levels s (sym bits))
    laid_yields level StringOf l h order levels s = absurd cc
    laid_yields level (ArrayOf element bound) l h order levels s =
        let a = array_laid element bound l h in
        let bits = ap (λ (x : Layout). x.bits) a.is in
        let bytes : array_bytes (ArrayOf element bound) ≡ bytes_for a.width * a.count =
        ap bytes_in h ∙ ap (λ (x : Layout). x.bytes) a.is in
        subst (λ k. Keeps (IsInside m l.bits k s) (plan m (ArrayOf element bound) order levels s)) (sym bytes)
        (subst (λ k. Keeps (IsInside m k (bytes_for a.width * a.count) s)
        (plan m (ArrayOf element bound) order levels s)) (sym bits)
        (array_yields element bound a.width a.count a.scalar a.literal order levels s))
    laid_yields level (StructOf name true _) l h order levels s = absurd cc
    laid_yields level (StructOf name false fields) l h order levels s =
        inside_then m s (λ le. on_tick (framed_yields {Q = IsInside m l.bits (fields_bytes fields) s} levels
        (ok_yields {P = FieldsInside l.bits (fields_bytes fields) s (opened levels)}
        {Q = IsInside m l.bits (fields_bytes fields) s} _
        (λ r all. let more = all.more in
        on_made (yields (record { ends = all.ends; few = omega (arith, more); inside = all.inside })))
        (fields_yield (level + 1) fields l (struct_laid level name false fields l h).laid s order (opened levels) s s
        refl le))))
    laid_yields level (IntegralOf name type fields) l h order levels s =
        let i = integral_laid level type.width fields l h in
        inside_then m s (λ le. read_inside level (IntegralOf name type fields) l h type order levels s i.whole)
    laid_yields level (UnionOf name alternatives) l h order levels s = absurd cc

    fields_yield : (level : ℕ) (fields : Fields) (l : Layout) → fields_layout level fields ≡ Some l → (s : ℕ)
        (order : Order) (levels : Levels) (behind top : ℕ) → top ≡ behind → behind ≤ m →
        Keeps (FieldsInside l.bits (fields_bytes fields) behind levels)
        (fields_plan m false s fields order levels behind top)
    fields_yield level NoFields l h s order levels behind top same le =
        let bits = layout_bits l no_layout h in
        yields (record {
          more = none_more levels;
          ends = omega (arith, bits, same);
          inside = omega (arith, same, le);
        })
    fields_yield level (FieldThen name set ty c (Some label) when rest) l h s order levels behind top same le =
        absurd (no_clause
        (plain_field (clause_avoids level c) (Some label) when (layout_of level ty) (fields_layout level rest) l h).0)
    fields_yield level (FieldThen name set ty c None (Some when) rest) l h s order levels behind top same le =
        absurd (no_clause
        (plain_field (clause_avoids level c) None (Some when) (layout_of level ty) (fields_layout level rest) l h).1)
    fields_yield level (FieldThen name set ty c None None rest) l h s order levels behind top same le =
        let f = part_laid level ty c (fields_layout level rest) l h in
        let bits = ap (λ (x : Layout). x.bits) f.sum in
        let all = fields_bytes (FieldThen name set ty c None None rest) in
        on_tick (known_yields {Q = FieldsInside l.bits all behind levels} 0 (Ok true) true _ refl
        (known_yields {Q = FieldsInside l.bits all behind levels} 0 (Ok behind) behind _ refl
        (ok_yields {P = IsInside m f.one.bits (array_bytes ty) behind} {Q = FieldsInside l.bits all behind levels} _
        (λ v own. let ends = own.ends in
        weaker (told f.one.bits f.more.bits l.bits bits v own)
        (fields_yield level rest f.more f.rest s order (pushed levels (Some v)) (end_of v) (max top (end_of v))
        (omega (arith, same, ends)) own.inside))
        (ok_yields {P = IsInside m f.one.bits (array_bytes ty) behind}
        {Q = IsInside m f.one.bits (array_bytes ty) behind} _
        (λ v own. constrained_keeps c levels behind v own)
        (laid_yields level ty f.one f.laid (ordered set order) levels behind)))))
      where
        told : (one more bits : ℕ) → bits ≡ one + more → (v : Value) → IsInside m one (array_bytes ty) behind v →
            (r : Result Opened FaultAt) →
            OfValue (FieldsInside more (fields_bytes rest) (end_of v) (pushed levels (Some v))) r →
            OfValue (FieldsInside bits (array_bytes ty + fields_bytes rest) behind levels) r
        told one more bits sum v own (Ok r) others =
            let first = own.ends in
            let last = others.ends in
            record {
              more = one_more (array_bytes ty) (fields_bytes rest) _ levels r.0 v refl own.few others.more;
              ends = omega (arith, sum, first, last);
              inside = others.inside;
            }
        told one more bits sum v own (Err f) others = tt
