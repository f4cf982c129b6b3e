-- A value that fits a type is no larger than the type's size.
use Rattle.std.proofs.Common.{◌≡◌, ℕ, suc, ◌+◌, ◌-◌, ◌*◌, ◌/◌, ◌<◌, ◌≤◌, max, Bool, true, false, List, [], ◌∷◌, ◌++◌, Option, Some, None, length, codes, refl, sym, ap, subst, ◌∙◌, inl, inr, arith, length-append, get_or}
use Rattle.std.proofs.Math.Nat.{add-mul, mul-le-mul_left, le-div_iff_mul-le}
use Rattle.std.proofs.Math.Seq.{get_or-append_seam}
use Rattle.std.proofs.lemmas.Nat.{mul-le}
use Rattle.std.proofs.lemmas.List.{append_assoc, append-nil}
use Rattle.std.proofs.lemmas.Option.{unwrap_or-slice_get}
use Rattle.std.proofs.lemmas.Bool.{cases_Bool}
use Rattle.std.specs.Prelude.{min}
use Rattle.pickle_types.specs.Types.{PokeType, IntegerOf, OffsetOf, StringOf, ArrayOf, StructOf, IntegralOf, UnionOf, Fields, NoFields, FieldThen, Parts, NoParts, PartThen}
use Rattle.pickle_types.specs.Bounds.{least_width, count_of}
use Rattle.pickle_meaning.specs.Values.{Naming, Label, ArrayLabel, StructLabel, Value, Members, member_count, start_of, end_of, Levels, pushed, opened, top_of, gathered}
use Rattle.value_store.specs.Labels.{member_name}
use Rattle.pickle_meaning.specs.Means.{field_names, part_names, array_value, struct_value, Taken, union_value}
use Rattle.pickle_meaning.specs.Fits.{ElementsFit, no_more_fit, one_more_fits, FitsNumber, DigitsFit, Fits, FieldsFit, AlternativeFits}
use Rattle.mapping_plans.proofs.Fitting.{fits_wide, fits_inside}
use Rattle.text_output.specs.declared.style.Style.{Style}
use Rattle.poke_batch.proofs.UnderTerms.{fits_start}
use Rattle.value_text.specs.CutArrays.{is_past}
use Rattle.text_bounds.specs.declared.form.Form.{Form}
use Rattle.text_bounds.specs.TextRoom.{Size, Rooms, rooms_in, integer_room, offset_room, string_room, with_parts, moved, no_size, both, repeated, more_size, elements_size, text_size, array_size, size_of, fields_size, parts_size, greatest_size}
use Rattle.text_bounds.proofs.ModeRooms.{are_rooms}
use Rattle.text_bounds.proofs.Within.{Within, AreRooms, quoted_short, parts_within, moved_within, both_within, same_within, then_within, later_within, first_within, rest_within, array_within, or_within}
use Rattle.text_bounds.proofs.PartSizes.{AllWithin, PartsWithin, all_more, parts_more, IsBounded, all_of}
use Rattle.text_bounds.proofs.Sizes.{size_by, members_by, size_in, members_in}

-- ---- scalars

-- a string's bytes, and the 0 after them, end in the file
few_bytes : (m s n : ℕ) → s + 8 * (n + 1) ≤ m → n ≤ m / 8 - 1
few_bytes m s n le = omega (arith, le)

text_within : {rooms : Rooms} → AreRooms rooms → (m s : ℕ) (bytes : List ℕ) → s + 8 * (length bytes + 1) ≤ m →
    length (rooms.notation.string bytes) ≤ string_room rooms m
text_within known m s bytes le = quoted_short known bytes (m / 8 - 1) (few_bytes m s (length bytes) le)

-- ---- members

top_pushed : (levels : Levels) (v : Option Value) → top_of (pushed levels v) ≡ top_of levels ++ v ∷ []
top_pushed [] v = refl
top_pushed (top ∷ outer) v = refl

-- what a frame has gathered beyond what it had
pub record Gains (before after : Levels) (P : List (Option Value) → Type 0) : Type 0 where
  pub more : List (Option Value)
  pub is : top_of after ≡ top_of before ++ more
  pub holds : P more

gains_one : {P Q : List (Option Value) → Type 0} (levels inside : Levels) (v : Option Value) →
    ((more : List (Option Value)) → P more → Q (v ∷ more)) → Gains (pushed levels v) inside P → Gains levels inside Q
gains_one levels inside v f g = record {
  more = v ∷ g.more;
  is = g.is ∙ ap (λ t. t ++ g.more) (top_pushed levels v) ∙ append_assoc (top_of levels) (v ∷ []) g.more;
  holds = f g.more g.holds;
}

-- the names of the fields from a place on
pub record NamesFrom (all : List Naming) (place : ℕ) (names : List Naming) : Type 0 where
  pub before : List Naming
  pub is : all ≡ before ++ names
  pub count : length before ≡ place

names_whole : (all : List Naming) → NamesFrom all 0 all
names_whole all = record { before = []; is = refl; count = refl }

names_next : {all : List Naming} {place : ℕ} (name : Naming) (names : List Naming) →
    NamesFrom all place (name ∷ names) → NamesFrom all (place + 1) names
names_next name names h = record {
  before = h.before ++ name ∷ [];
  is = h.is ∙ sym (append_assoc h.before (name ∷ []) names);
  count = omega (arith, h.count, length-append h.before (name ∷ []));
}

name_there : (title : Naming) {all : List Naming} {place : ℕ} (name : Naming) (names : List Naming) →
    NamesFrom all place (name ∷ names) → member_name (StructLabel title all) place ≡ name
name_there title {all} {place} name names h =
    unwrap_or-slice_get all place None
    ∙ ap (λ l. get_or l place None) h.is
    ∙ ap (λ k. get_or (h.before ++ name ∷ names) k None) (sym h.count)
    ∙ get_or-append_seam h.before name names None

suc_place : (place : ℕ) → suc place ≡ place + 1
suc_place place = omega arith

-- members within a size, whose parts have no more bytes
record AreBounded (form : Form) (limit : Option ℕ) (label : Label) (start end place : ℕ) (members : Members)
    (room : Size) : Type 0 where
  size : Within (members_in form limit label start end place members) room
  parts : PartsWithin form room.text members

-- a field of this name, and those after it
field_within : (style : Style) (rooms : Rooms) (title : Naming) (all : List Naming) (start end place : ℕ)
    (name : Naming) (v : Value) (more : List (Option Value)) {one rest : Size}
    → member_name (StructLabel title all) place ≡ name → Within (size_by style rooms v) one
    → Within (members_by style rooms None (StructLabel title all) start end (place + 1) (gathered more)) rest
    → Within (members_by style rooms None (StructLabel title all) start end place (gathered (Some v ∷ more)))
    (both (moved (rooms.field_before name place) (rooms.field_moves name place) one) rest)
field_within style rooms title all start end place name v more {one} {rest} named fit later =
    let after = members_by style rooms None (StructLabel title all) start end (suc place) (gathered more) in
    let more_fits : Within after rest = rw (suc_place place) later in
    subst (λ n. Within
    (both (moved (rooms.field_before n place) (rooms.field_moves n place) (size_by style rooms v)) after)
    (both (moved (rooms.field_before name place) (rooms.field_moves name place) one) rest)) (sym named)
    (both_within (moved_within _ _ _ _ (omega arith) (omega arith) fit) more_fits)

module _ (form : Form) where
  field_bounded : (title : Naming) (all : List Naming) (start end place : ℕ) (name : Naming) (names : List Naming)
      (v : Value) (more : List (Option Value)) {one rest : Size}
      → NamesFrom all place (name ∷ names) → IsBounded form v one
      → AreBounded form None (StructLabel title all) start end (place + 1) (gathered more) rest
      → AreBounded form None (StructLabel title all) start end place (gathered (Some v ∷ more))
      (both (moved ((rooms_in form).field_before name place) ((rooms_in form).field_moves name place) one) rest)
  field_bounded title all start end place name names v more {one} {rest} h fit later =
      let named = name_there title name names h in
      record {
        size = field_within form.style (rooms_in form) title all start end place name v more named fit.size later.size;
        parts = (
          all_more form one.text _ (omega arith) v (all_of form v fit),
          parts_more form rest.text _ (omega arith) (gathered more) later.parts,
        );
      }

  absent_bounded : (title : Naming) (all : List Naming) (start end place : ℕ) (more : List (Option Value)) (one : Size)
      {rest : Size} → AreBounded form None (StructLabel title all) start end (place + 1) (gathered more) rest
      → AreBounded form None (StructLabel title all) start end place (gathered (None ∷ more)) (both one rest)
  absent_bounded title all start end place more one {rest} later = record {
    size = rw (suc_place place) (later_within one later.size);
    parts = parts_more form rest.text _ (omega arith) (gathered more) later.parts;
  }

-- a frame begins empty: what it has gained since then is all that it has
struct_bounded : (form : Form) (m widest : ℕ) (name : Naming) (names : List Naming) (s end : ℕ) (levels inside : Levels)
    {size : Size} → s ≤ m → end - s ≤ widest
    → Gains (opened levels) inside (λ more. AreBounded form None (StructLabel name names) s end 0 (gathered more) size)
    → IsBounded form (struct_value name names s end inside)
    (with_parts (rooms_in form) ((rooms_in form).titled (codes "struct") name + (rooms_in form).line m widest) size)
struct_bounded form m widest name names s end levels inside {size} le wide g =
    let is = g.is in
    let known = are_rooms form.mode in
    let line = known.line s (end - s) m widest le wide in
    rw is (record {
      size = parts_within known _ _ (omega (arith, line)) g.holds.size;
      parts = parts_more form size.text _ (known.parts _ size.text) (gathered g.more) g.holds.parts;
    })

-- ---- elements

-- so many members of one size, of which none is absent
elements_more : (count : ℕ) {a b rest : Size} → Within a b → Within rest (repeated count b) →
    Within (both a rest) (repeated (suc count) b)
elements_more count {a} {b} {rest} h g = record {
  text = omega (arith, h.text, g.text, add-mul 1 count b.text);
  lines = omega (arith, h.lines, g.lines, add-mul 1 count b.lines);
}

repeated_within : (n count : ℕ) (a : Size) → n ≤ count → Within (repeated n a) (repeated count a)
repeated_within n count a le = record {
  text = mul-le n a.text count a.text le (omega arith);
  lines = mul-le n a.lines count a.lines le (omega arith);
}

more_within : {rooms : Rooms} → AreRooms rooms → (left place from bits count m : ℕ) → left ≤ count → place ≤ count
    → from ≤ m → bits ≤ m → Within (more_size rooms left place from bits) (more_size rooms count count m m)
more_within known left place from bits count m l p f b =
    record { text = known.more left place from bits count m l p f b; lines = omega arith }

-- the size of so many elements from a place on
abbrev left_size : (limit : Option ℕ) → (i n : ℕ) → (each more : Size) → Size
left_size None i n each more = repeated n each
left_size (Some most) i n each more = both (repeated (min (most - i) n) each) more

none_left : (limit : Option ℕ) (i : ℕ) (each more : Size) → Within no_size (left_size limit i 0 each more)
none_left None i each more = record { text = omega arith; lines = omega arith }
none_left (Some most) i each more = record { text = omega arith; lines = omega arith }

past_left : (limit : Option ℕ) (i n : ℕ) (each : Size) {a more : Size} → is_past limit i ≡ true → Within a more →
    Within a (left_size limit i n each more)
past_left None i n each past h = absurd (clash past)
  where
    clash : false ≡ true → ⊥
    clash e = cc
past_left (Some most) i n each past h = later_within (repeated (min (most - i) n) each) h

one_left : (limit : Option ℕ) (i n : ℕ) (more : Size) {a each rest : Size} → is_past limit i ≡ false → Within a each →
    Within rest (left_size limit (i + 1) n each more) → Within (both a rest) (left_size limit i (suc n) each more)
one_left None i n more before h g = elements_more n h g
one_left (Some most) i n more {a} {each} {rest} before h g =
    let some : i < most = grind (arith, before) in
    let k = min (most - (i + 1)) n in
    let same : min (most - i) (suc n) ≡ suc k = omega (arith, some) in
    rw same (record {
      text = omega (arith, h.text, g.text, add-mul 1 k each.text);
      lines = omega (arith, h.lines, g.lines, add-mul 1 k each.lines);
    })

left_within : (rooms : Rooms) (limit : Option ℕ) (m n count : ℕ) (each : Size) → n ≤ count →
    Within (left_size limit 0 n each (more_size rooms count count m m)) (elements_size rooms limit m count each)
left_within rooms None m n count each le = repeated_within n count each le
left_within rooms (Some most) m n count each le =
    let all : most - 0 ≡ most = omega arith in
    rw all (both_within (repeated_within (min most n) (min (max 1 most) count) each (omega (arith, le)))
    (same_within {a = more_size rooms count count m m}))

-- elements from a number on of an array: how many there are, the least bits that they take, and their size
record AreElements (form : Form) (limit : Option ℕ) (m width count from to i place end : ℕ) (element : Size)
    (more : List (Option Value)) : Type 0 where
  n : ℕ
  counted : member_count (gathered more) ≡ n
  wide : place + n * width ≤ end
  size : Within (members_in form limit ArrayLabel from to i (gathered more))
      (left_size limit i n (moved ((rooms_in form).element_before count) ((rooms_in form).element_moves count) element)
      (more_size (rooms_in form) count count m m))
  parts : PartsWithin form element.text (gathered more)

-- n elements, each of at least so many bits
few_elements : (m width n place : ℕ) → 0 < width → place + n * width ≤ m → n ≤ m / width
few_elements m width n place some le = (le-div_iff_mul-le {k = width} {x = n} {y = m} some).1 (omega (arith, le))

-- what is known of an element at a bit
record IsElement (form : Form) (least at : ℕ) (v : Value) (element : Size) : Type 0 where
  starts : start_of v ≡ at
  wide : at + least ≤ end_of v
  bounded : IsBounded form v element

abbrev each_size : Form → (count : ℕ) → Size → Size
each_size form count element =
    moved ((rooms_in form).element_before count) ((rooms_in form).element_moves count) element

-- an element at a place and those after it
element_then : (form : Form) (limit : Option ℕ) (m count from to i n : ℕ) (v : Value) (more : List (Option Value))
    {element : Size}
    → member_count (gathered more) ≡ n → i + suc n ≤ count → start_of v ≤ m → to ≤ m → Within (size_in form v) element
    → Within (members_in form limit ArrayLabel from to (i + 1) (gathered more))
    (left_size limit (i + 1) n (each_size form count element) (more_size (rooms_in form) count count m m))
    → Within (members_in form limit ArrayLabel from to i (gathered (Some v ∷ more)))
    (left_size limit i (suc n) (each_size form count element) (more_size (rooms_in form) count count m m))
element_then form limit m count from to i n v more {element} counted few starts short size later =
    elim (cases_Bool (is_past limit i)) [
      | inl past ↦ rw past (past_left limit i (suc n) (each_size form count element) past
          (more_within (are_rooms form.mode) (suc (member_count (gathered more))) i (start_of v)
          (to - from - (start_of v - from)) count m
          (omega (arith, counted, few)) (omega (arith, few)) starts (omega (arith, short))))
      | inr miss ↦
          let one = moved_within _ _ _ _ ((are_rooms form.mode).before i count (omega (arith, few)))
          ((are_rooms form.mode).moves i count (omega (arith, few))) size in
          let same = suc_place i in
          rw (miss, same) (one_left limit i n (more_size (rooms_in form) count count m m) miss one later)
    ]

elements_within : (form : Form) (limit : Option ℕ) (m least width count from to : ℕ) (element : Size)
    (Fit : Levels → ℕ → Value → Type 0) → max 1 least ≡ width → m / width < count → to ≤ m
    → ((levels : Levels) (at : ℕ) (v : Value) → Fit levels at v → IsElement form least at v element)
    → {inside : Levels} {end n : ℕ} {levels : Levels} {place i : ℕ} → end ≤ m → i * width ≤ place
    → ElementsFit Fit inside end n levels place i
    → Gains levels inside (AreElements form limit m width count from to i place end element)
elements_within form limit m least width count from to element Fit is most short each {levels = levels} {i = i} le
    before no_more_fit = record {
      more = [];
      is = sym (append-nil (top_of levels));
      holds = record { n = 0; counted = refl; wide = omega arith; size = none_left limit i _ _; parts = tt };
    }
elements_within form limit m least width count from to element Fit is most short each {inside = inside} {end = end}
    {levels = levels} {place = place} {i = i} le before (one_more_fits v fit lt rest) =
    let own = each levels place v fit in
    let wide : place + width ≤ end_of v = omega (arith, is, own.wide, lt) in
    let next : (i + 1) * width ≤ end_of v = omega (arith, before, wide, add-mul i 1 width) in
    let later = elements_within form limit m least width count from to element Fit is most short each le next rest in
    gains_one levels inside (Some v) (λ more h. one_more more h wide own) later
  where
    one_more : (more : List (Option Value))
        → AreElements form limit m width count from to (i + 1) (end_of v) end element more → place + width ≤ end_of v
        → IsElement form least place v element
        → AreElements form limit m width count from to i place end element (Some v ∷ more)
    one_more more h wide own =
        let all : (i + suc h.n) * width ≤ m =
        omega (arith, before, wide, h.wide, le, add-mul i (suc h.n) width, add-mul 1 h.n width) in
        let below : i + suc h.n ≤ m / width =
        few_elements m width (i + suc h.n) 0 (omega (arith, is)) (omega (arith, all)) in
        record {
          n = suc h.n;
          counted = omega (arith, h.counted);
          wide = omega (arith, wide, h.wide, add-mul 1 h.n width);
          size = element_then form limit m count from to i h.n v more h.counted (omega (arith, below, most))
              (omega (arith, own.starts, wide, h.wide, le)) short own.bounded.size h.size;
          parts = (all_of form v own.bounded, h.parts);
        }

-- ---- the types

scalar_bounded : (form : Form) (m widest own room : ℕ) {size : Size} → room ≤ own →
    Within size (with_parts (rooms_in form) (room + (rooms_in form).line m widest) no_size) →
    Within size (with_parts (rooms_in form) (own + (rooms_in form).line m widest) no_size)
scalar_bounded form m widest own room le h =
    then_within h (parts_within (are_rooms form.mode) _ _ (omega (arith, le)) same_within)

scalar_line : (form : Form) (m widest room start end : ℕ) → start ≤ m → end - start ≤ widest
    → Within (with_parts (rooms_in form) (room + (rooms_in form).line start (end - start)) no_size)
    (with_parts (rooms_in form) (room + (rooms_in form).line m widest) no_size)
scalar_line form m widest room start end le wide =
    let known = are_rooms form.mode in
    parts_within known _ _ (omega (arith, known.line start (end - start) m widest le wide)) same_within

-- a union with the alternative that matched
union_bounded : (form : Form) (m : ℕ) (title : Naming) (s : ℕ) (t : Taken) {size : Size} → s ≤ m → end_of t.value ≤ m
    → Within
    (moved ((rooms_in form).field_before t.name 0) ((rooms_in form).field_moves t.name 0) (size_in form t.value)) size
    → AllWithin form size.text t.value
    → IsBounded form (union_value title s t)
    (with_parts (rooms_in form) ((rooms_in form).titled (codes "union") title + (rooms_in form).line m m) size)
union_bounded form m title s t {size} le lt h all =
    let known = are_rooms form.mode in
    let line = known.line s (end_of t.value - s) m m le (omega (arith, lt)) in
    record {
      size = parts_within known _ _ (omega (arith, line))
          (record { text = omega (arith, h.text); lines = omega (arith, h.lines) });
      parts = (all_more form size.text _ (known.parts _ size.text) t.value all, tt);
    }

texts_longer : (form : Form) (n count s bits m : ℕ) → n ≤ count → s ≤ m → bits ≤ m →
    Within (text_size (rooms_in form) n s bits) (text_size (rooms_in form) count m m)
texts_longer form n count s bits m le from wide =
    let known = are_rooms form.mode in
    parts_within known _ _ (omega (
      arith,
      mul-le-mul_left {m = n} {n = count} (rooms_in form).escape le,
      known.line s bits m m from wide,
    )) same_within

-- an array has at least as many bytes as an element
some_element : (rooms : Rooms) (limit : Option ℕ) (m count : ℕ) (each : Size) → 1 ≤ count →
    each.text ≤ (elements_size rooms limit m count each).text
some_element rooms None m count each some = omega (arith, (repeated_within 1 count each some).text)
some_element rooms (Some most) m count each some =
    omega (arith, (repeated_within 1 (min (max 1 most) count) each (omega (arith, some))).text)

element_inside : (form : Form) (m count : ℕ) (element : Size) → 1 ≤ count →
    element.text ≤ (array_size form m count element).text
element_inside form m count element some =
    let rooms = rooms_in form in
    let each = each_size form count element in
    let all = elements_size rooms form.style.elements m count each in
    let own = rooms.array count + rooms.line m m in
    let array = array_within form.style.chars (text_size rooms count m m) (with_parts rooms own all) in
    omega (
      arith,
      some_element rooms form.style.elements m count each some,
      (are_rooms form.mode).parts own all.text,
      array.text,
    )

array_bounded : (form : Form) (m width s end : ℕ) (element : Size) (levels inside : Levels) → s ≤ m → end ≤ m
    → Gains (opened levels) inside
    (AreElements form form.style.elements m (max 1 width) (count_of m width) s end 0 s end element)
    → IsBounded form (array_value s end inside) (array_size form m (count_of m width) element)
array_bounded form m width s end element levels inside from le g =
    let is = g.is in
    let h = g.holds in
    let few : h.n ≤ m / max 1 width = few_elements m (max 1 width) h.n s (omega arith) (omega (arith, h.wide, le)) in
    let count : member_count (gathered g.more) ≤ count_of m width = omega (arith, few, h.counted) in
    let known = are_rooms form.mode in
    let own = known.array (member_count (gathered g.more)) (count_of m width) count in
    let line = known.line s (end - s) m m from (omega (arith, le)) in
    rw is (record {
      size = or_within form.style.chars (texts_longer form (member_count (gathered g.more)) (count_of m width) s
          (end - s) m count from (omega (arith, le)))
          (parts_within known _ _ (omega (arith, own, line)) (then_within h.size
          (left_within (rooms_in form) form.style.elements m h.n (count_of m width) _ (omega (arith, few)))));
      parts = parts_more form element.text _ (element_inside form m (count_of m width) element (omega arith))
          (gathered g.more) h.parts;
    })

mutual
  unfolding FitsNumber size_of

  number_bounded : (form : Form) (m : ℕ) (ty : PokeType) (levels : Levels) (s : ℕ) (v : Value) → s ≤ m →
      FitsNumber ty levels s v → IsBounded form v (size_of form ty m)
  number_bounded form m (IntegerOf type) levels s v le h =
      let is = h.2 in
      let own = (are_rooms form.mode).texts.integer form.style.numbers type h.0 h.1 in
      rw is (record {
        size = scalar_bounded form m type.width (integer_room form.style.numbers (rooms_in form) type) _ own
            (scalar_line form m type.width _ s (s + type.width) le (omega arith));
        parts = tt;
      })
  number_bounded form m (OffsetOf type unit) levels s v le h =
      let is = h.2 in
      let own = (are_rooms form.mode).texts.offset form.style.numbers type unit h.0 h.1 in
      rw is (record {
        size = scalar_bounded form m type.width (offset_room form.style.numbers (rooms_in form) type unit) _ own
            (scalar_line form m type.width _ s (s + type.width) le (omega arith));
        parts = tt;
      })
  number_bounded form m StringOf levels s v le h = absurd h
  number_bounded form m (ArrayOf element bound) levels s v le h = absurd h
  number_bounded form m (StructOf name pinned _) levels s v le h = absurd h
  number_bounded form m (IntegralOf name type fields) levels s v le h =
      let is = h.2 in
      rw is (struct_bounded form m type.width name (part_names fields) s (s + type.width) levels h.0 le (omega arith)
      (digits_bounded form m name (part_names fields) s (s + type.width) 0 fields (opened levels) s h.0 le
      (names_whole (part_names fields)) h.1))
  number_bounded form m (UnionOf name alternatives) levels s v le h = absurd h

  digits_bounded : (form : Form) (m : ℕ) (title : Naming) (all : List Naming) (start end place : ℕ) (parts : Parts)
      (levels : Levels) (s : ℕ) (inside : Levels)
      → s ≤ m → NamesFrom all place (part_names parts) → DigitsFit parts levels s inside
      → Gains levels inside (λ more.
      AreBounded form None (StructLabel title all) start end place (gathered more) (parts_size form place parts m))
  digits_bounded form m title all start end place NoParts levels s inside le names h = record {
    more = [];
    is = ap top_of h ∙ sym (append-nil (top_of levels));
    holds = record { size = same_within; parts = tt };
  }
  digits_bounded form m title all start end place (PartThen name order ty c rest) levels s inside le names h =
      let one = number_bounded form m ty levels s h.0 le h.1 in
      let later = digits_bounded form m title all start end (place + 1) rest (pushed levels (Some h.0)) s inside le
      (names_next name (part_names rest) names) h.3 in
      gains_one levels inside (Some h.0)
      (λ more g. field_bounded form title all start end place name (part_names rest) h.0 more names one g) later

mutual
  unfolding Fits size_of

  pub value_bounded : (form : Form) (m : ℕ) (ty : PokeType) (levels : Levels) (s : ℕ) (v : Value) →
      Fits m ty levels s v → IsBounded form v (size_of form ty m)
  value_bounded form m (IntegerOf type) levels s v h =
      number_bounded form m (IntegerOf type) levels s v (omega (arith, h.1)) h.0
  value_bounded form m (OffsetOf type unit) levels s v h =
      number_bounded form m (OffsetOf type unit) levels s v (omega (arith, h.1)) h.0
  value_bounded form m StringOf levels s v h =
      let is = h.2 in
      let own = text_within (are_rooms form.mode) m s h.0 h.3 in
      rw is (record {
        size = scalar_bounded form m m (string_room (rooms_in form) m) _ own
            (scalar_line form m m _ s (s + 8 * (length h.0 + 1)) (omega (arith, h.3)) (omega (arith, h.3)));
        parts = tt;
      })
  value_bounded form m (ArrayOf element bound) levels s v h =
      let is = h.8 in
      let from : s ≤ m = omega
      (arith, fits_wide m (ArrayOf element bound) levels s v h, fits_inside m (ArrayOf element bound) levels s v h) in
      rw is (array_bounded form m (least_width element) s h.3 (size_of form element m) levels h.2 from h.7
      (elements_within form form.style.elements m (least_width element) (max 1 (least_width element))
      (count_of m (least_width element)) s h.3 (size_of form element m) (Fits m element) refl (omega arith) h.7
      (λ l at u fit. record {
        starts = fits_start m element l at u fit;
        wide = fits_wide m element l at u fit;
        bounded = value_bounded form m element l at u fit;
      }) h.7 (omega arith) h.5))
  value_bounded form m (StructOf name pinned fields) levels s v h =
      let is = h.4 in
      let from : s ≤ m = omega (
        arith,
        fits_wide m (StructOf name pinned fields) levels s v h,
        fits_inside m (StructOf name pinned fields) levels s v h,
      ) in
      rw is (struct_bounded form m m name (field_names fields) s h.1 levels h.0 from (omega (arith, h.3))
      (fields_bounded form m name (field_names fields) s h.1 0 pinned s fields (opened levels) s s h.0 h.1
      (names_whole (field_names fields)) h.2))
  value_bounded form m (IntegralOf name type fields) levels s v h =
      number_bounded form m (IntegralOf name type fields) levels s v (omega (arith, h.1)) h.0
  value_bounded form m (UnionOf name alternatives) levels s v h =
      let is = h.2 in
      let inside = fits_inside m (UnionOf name alternatives) levels s v h in
      let from : s ≤ m = omega (arith, fits_wide m (UnionOf name alternatives) levels s v h, inside) in
      let one = alternative_bounded form m alternatives 0 (opened levels) s h.0 h.1 in
      rw is (union_bounded form m name s h.0 from (omega (arith, inside, ap end_of is)) one.0 one.1)

  fields_bounded : (form : Form) (m : ℕ) (title : Naming) (all : List Naming) (start stop place : ℕ) (pinned : Bool)
      (s : ℕ) (fields : Fields) (levels : Levels) (behind top : ℕ) (inside : Levels) (end : ℕ)
      → NamesFrom all place (field_names fields)
      → FieldsFit m pinned s fields levels behind top inside end
      → Gains levels inside (λ more.
      AreBounded form None (StructLabel title all) start stop place (gathered more) (fields_size form place fields m))
  fields_bounded form m title all start stop place pinned s NoFields levels behind top inside end names h = record {
    more = [];
    is = ap top_of h.0 ∙ sym (append-nil (top_of levels));
    holds = record { size = same_within; parts = tt };
  }
  fields_bounded form m title all start stop place pinned s (FieldThen name order ty c label when rest) levels behind
      top inside end names (inl h) =
      let later = fields_bounded form m title all start stop (place + 1) pinned s rest (pushed levels None) behind top
      inside end (names_next name (field_names rest) names) h.1 in
      gains_one levels inside None (λ more g. absent_bounded form title all start stop place more _ g) later
  fields_bounded form m title all start stop place pinned s (FieldThen name order ty c label when rest) levels behind
      top inside end names (inr h) =
      let one = value_bounded form m ty levels h.1 h.4 h.5 in
      let later = fields_bounded form m title all start stop (place + 1) pinned s rest (pushed levels (Some h.4))
      (end_of h.4) (max top (end_of h.4)) inside end (names_next name (field_names rest) names) h.7 in
      gains_one levels inside (Some h.4)
      (λ more g. field_bounded form title all start stop place name (field_names rest) h.4 more names one g) later

  alternative_bounded : (form : Form) (m : ℕ) (parts : Parts) (index : ℕ) (levels : Levels) (s : ℕ) (t : Taken)
      → AlternativeFits m parts index levels s t
      → Within
      (moved ((rooms_in form).field_before t.name 0) ((rooms_in form).field_moves t.name 0) (size_in form t.value))
      (greatest_size form parts m) × AllWithin form (greatest_size form parts m).text t.value
  alternative_bounded form m NoParts index levels s t h = absurd h
  alternative_bounded form m (PartThen name order ty c rest) index levels s t (inl h) =
      let is = h.1 in
      let one = value_bounded form m ty levels s t.value h.2 in
      let more : (size_of form ty m).text ≤ (greatest_size form (PartThen name order ty c rest) m).text =
      omega arith in (
        first_within _ (rw is (moved_within _ _ _ _ (omega arith) (omega arith) one.size)),
        all_more form (size_of form ty m).text _ more t.value (all_of form t.value one),
      )
  alternative_bounded form m (PartThen name order ty c rest) index levels s t (inr h) =
      let one = alternative_bounded form m rest (index + 1) levels s t h in
      let more : (greatest_size form rest m).text ≤ (greatest_size form (PartThen name order ty c rest) m).text =
      omega arith in
      (rest_within _ one.0, all_more form (greatest_size form rest m).text _ more t.value one.1)
