-- The path to where the fault of a type arises, step by step.
use Rattle.std.proofs.Common.{◌≡◌, ℕ, suc, ◌+◌, ◌<◌, ◌≤◌, length, get_or, Bool, true, false, List, [], ◌∷◌, ◌++◌, Option, Some, Result, Ok, Err, refl, sym, ap, ◌∙◌, subst, arith}
use Rattle.std.proofs.lemmas.Bool.{le-leb, eq-eqb}
use Rattle.std.proofs.lemmas.List.{append-nil, append_assoc}
use Rattle.std.specs.Prelude.{nat_eq, IfOk, Vec}
use Rattle.std.specs.declared.alloc.Global.{Global}
use Rattle.bit_space.specs.Bits.{bits_of}
use Rattle.bit_space.specs.SpaceView.{SpaceView}
use Rattle.bit_space.specs.declared.order.Order.{Order}
use Rattle.pickle_types.specs.declared.integer.IntegerType.{IntegerType}
use Rattle.pickle_types.specs.declared.node.Extent.{Extent as Extents}
use Rattle.pickle_types.specs.declared.node.Field.{Field}
use Rattle.pickle_types.specs.declared.name.Name.{Name}
use Rattle.pickle_types.specs.declared.node.Node.{Node}
use Rattle.pickle_types.specs.declared.node.Shape.{Shape}
use Rattle.pickle_types.specs.declared.node.Shape.TheVariants as shape
use Rattle.pickle_types.specs.declared.node.Part.{Part as Alternative}
use Rattle.pickle_types.specs.Types.{Bound, PokeType, ArrayOf, StructOf, UnionOf, Fields, NoFields, Parts, NoParts}
use Rattle.pickle_types.specs.Table.{IsTable, type_of, optional_term, bound_of}
use Rattle.pickle_meaning.specs.declared.extent.Extent.{Extent}
use Rattle.pickle_meaning.specs.declared.faults.MapFault.{MapFault}
use Rattle.pickle_meaning.specs.Numbers.{number_at}
use Rattle.pickle_meaning.specs.Values.{Naming, Value, end_of, Levels, opened}
use Rattle.pickle_meaning.specs.Clauses.{FaultAt, condition, field_start, extent_of, is_due, ends_before, misses}
use Rattle.pickle_meaning.specs.Means.{ordered, number_type, width_in, first_digits, Means, NumberMeans, part, part_refused, part_fault}
use Rattle.pickle_map.specs.declared.mapper.stop.Stop.{Stop}
use Rattle.pickle_map.specs.declared.mapper.stop.Stop.TheVariants.{Fault}
use Rattle.pickle_map.specs.Stops.{stop_ends}
use Rattle.pickle_map.proofs.Shapes.{opened_as}
use Rattle.mapping_plans.specs.Mapping.{plan}
use Rattle.mapping_plans.specs.Plan.{result_of}
use Rattle.mapping_plans.proofs.Exists.{plan_means}
use Rattle.mapping_plans.proofs.Outcomes.{one_outcome, values_wide}
use Rattle.fault_parts.specs.Arises.{Path, Arises, DigitsBefore, FieldsBefore, value_before, MissesBefore, miss_before}
use Rattle.fault_parts.specs.Paths.{path_of, number_path, fields_path, alternatives_path, elements_path, digits_path}
use Rattle.fault_parts.specs.Somehow.{Somehow}
use Rattle.fault_parts.proofs.Faults.{faults_arise}
use Rattle.fault_parts.proofs.Once as once
use Rattle.fault_location.specs.declared.site.Tried.{Tried}
use Rattle.fault_location.specs.declared.site.Tried.TheVariants as tried
use Rattle.fault_location.specs.Digits.{RefusesNumber}
use Rattle.fault_location.specs.Elements.{ElementsTo}
use Rattle.fault_location.specs.declared.part.Array.{Array}
use Rattle.fault_location.specs.declared.part.Elements.{Elements}
use Rattle.fault_location.specs.declared.site.Inner.{Inner}
use Rattle.fault_location.specs.declared.site.Site.{Site}
use Rattle.fault_location.specs.declared.site.Site.TheVariants as site
use Rattle.fault_location.specs.Parts.{IsArrayAt}
use Rattle.fault_location.specs.Sites.{TriesAs, TriesFieldAs, IsRefused, IsFaulty, IsSite, path_in, path_among, ReadsSite, IsSmallSite}
use Rattle.fault_location.specs.Ways.{Meaning, Comes, Misses, OnBits, field_then, part_then, fault_of}

-- what a type means is the result of its plan
pub result_is : {bits : List ℕ} {ty : PokeType} {order : Order} {levels : Levels} {s : ℕ} {r : Result Value FaultAt} →
    Somehow (Means bits ty order levels s r) → result_of bits (plan (length bits) ty order levels s) ≡ r
result_is {bits} m = once.result_is one_outcome plan_means values_wide bits m.holds

-- a fault that a type means arises at the end of its path
pub located : (bits : List ℕ) (ty : PokeType) (order : Order) (levels : Levels) (s : ℕ) (path : Path) →
    path ≡ path_of bits ty order levels s → (f : FaultAt) → Somehow (Means bits ty order levels s (Err f)) →
    Arises bits ty order levels s f path
located bits ty order levels s path e f m =
    let a = faults_arise bits ty order levels s f m.steps m.made m.holds in
    let same = once.type_once one_outcome plan_means values_wide bits a.arises in
    subst (λ p. Arises bits ty order levels s f p) (sym (e ∙ same)) a.arises

-- ---- fields

module _ (bits : List ℕ) (nodes : List Node) (pinned : Bool) (s : ℕ) (order : Order) (f : Field)
    (levels : Levels) (behind : ℕ) where
  pub condition_beside : {x : FaultAt} → condition (optional_term f.condition) levels s ≡ Err x → (rest : Fields) →
      fields_path bits pinned s (field_then nodes f rest) order levels behind ≡ 0 ∷ []
  condition_beside c rest = rw c refl

  pub label_beside : {x : FaultAt} → condition (optional_term f.condition) levels s ≡ Ok true
      → field_start pinned (optional_term f.label) levels s behind ≡ Err x → (rest : Fields)
      → fields_path bits pinned s (field_then nodes f rest) order levels behind ≡ 0 ∷ []
  label_beside c st rest = rw (c, st) refl

  pub field_tried : (levels' : Levels) (p : ℕ) → condition (optional_term f.condition) levels s ≡ Ok true
      → field_start pinned (optional_term f.label) levels s behind ≡ Ok p → (found : Tried)
      → TriesAs bits (type_of nodes f.node) (optional_term f.constraint) (ordered f.order order) levels levels' p found
      → TriesFieldAs bits nodes pinned s order f levels levels' behind found
  field_tried levels' p c st (tried.Passed end) h =
      λ fields rest first i before. rw (h.keeps, ← h.ends) (value_before before c st (part h.means.holds h.holds))
  field_tried levels' p c st (tried.Beside fault) h = λ rest. rw (c, st, result_is h.means, h.refused) refl
  field_tried levels' p c st (tried.Inside at fault) h = λ rest. rw (h.keeps, h.there, c, st, result_is h.means) refl

-- the same of a call, over a space whose bytes may be known
pub fields_tried : {E : Type 0} (space : SpaceView) (nodes : List Node) (pinned : Bool) (s : ℕ) (order : Order)
    (f : Field) (levels : Levels) (behind : ℕ) (levels' : Levels) (p : ℕ)
    → condition (optional_term f.condition) levels s ≡ Ok true
    → field_start pinned (optional_term f.label) levels s behind ≡ Ok p → (result : Result Tried E)
    → IfOk result (λ found. OnBits space (λ bits.
    TriesAs bits (type_of nodes f.node) (optional_term f.constraint) (ordered f.order order) levels levels' p found))
    → IfOk result (λ found. OnBits space (λ bits. TriesFieldAs bits nodes pinned s order f levels levels' behind found))
fields_tried space nodes pinned s order f levels behind levels' p c st (Ok found) h =
    λ bytes known. field_tried (bits_of bytes) nodes pinned s order f levels behind levels' p c st found (h bytes known)
fields_tried space nodes pinned s order f levels behind levels' p c st (Err x) h = tt

pub field_found : {bits : List ℕ} {pinned : Bool} {s : ℕ} {order : Order} {fields rest : Fields}
    {levels inside : Levels} {i behind : ℕ} (path : Path)
    → FieldsBefore bits pinned s order fields levels i rest inside behind
    → fields_path bits pinned s rest order inside behind ≡ 0 ∷ path
    → fields_path bits pinned s fields order levels s ≡ i ∷ path
field_found {bits} {i = i} path before here =
    once.fields_along one_outcome plan_means values_wide bits before ∙ ap (once.nexts i) here ∙ once.nexts_here i path

pub fields_passed : {bits : List ℕ} {pinned : Bool} {s : ℕ} {order : Order} {fields : Fields} {levels inside : Levels}
    {i behind : ℕ} → FieldsBefore bits pinned s order fields levels i NoFields inside behind
    → fields_path bits pinned s fields order levels s ≡ []
fields_passed {bits} before = once.fields_along one_outcome plan_means values_wide bits before

-- ---- alternatives

module _ (bits : List ℕ) (nodes : List Node) (p : Alternative) (order : Order) (levels levels' : Levels) (s : ℕ) where
  abbrev Its : Tried → Type 0
  Its found =
      TriesAs bits (type_of nodes p.node) (optional_term p.constraint) (ordered p.order order) levels levels' s found

  abbrev alternatives_from : Parts → Path
  alternatives_from rest = alternatives_path bits (part_then nodes p rest) order levels s

  pub alternative_fits : (end : ℕ) → Its (tried.Passed end) → (rest : Parts) → alternatives_from rest ≡ []
  alternative_fits end h rest = rw (result_is h.means, h.holds) refl

  module _ (x : FaultAt) where
    pub refused_misses : IsRefused bits (type_of nodes p.node) (optional_term p.constraint) (ordered p.order order)
        levels s x → misses x.0 ≡ true → Misses bits nodes p order levels s
    refused_misses h missed =
        λ alternatives rest i before. miss_before before (part_refused h.means.holds h.refused) missed

    pub faulty_misses : (at : ℕ) → IsFaulty bits (type_of nodes p.node) (ordered p.order order) levels levels' s at x →
        misses x.0 ≡ true → Misses bits nodes p order levels s
    faulty_misses at h missed = λ alternatives rest i before. miss_before before (part_fault h.means.holds) missed

    pub refused_beside : IsRefused bits (type_of nodes p.node) (optional_term p.constraint) (ordered p.order order)
        levels s x → misses x.0 ≡ false → (rest : Parts) → alternatives_from rest ≡ 0 ∷ []
    refused_beside h other rest = rw (result_is h.means, h.refused, other) refl

    pub faulty_inside : (at : ℕ) → IsFaulty bits (type_of nodes p.node) (ordered p.order order) levels levels' s at x
        → misses x.0 ≡ false → (rest : Parts)
        → alternatives_from rest ≡ 0 ∷ path_of bits (type_of nodes p.node) (ordered p.order order) levels' s
    faulty_inside at h other rest = rw (h.keeps, result_is h.means, other) refl

pub alternative_found : {bits : List ℕ} {order : Order} {alternatives rest : Parts} {levels : Levels} {s i : ℕ}
    (path : Path) → MissesBefore bits order alternatives levels s i rest
    → alternatives_path bits rest order levels s ≡ 0 ∷ path
    → alternatives_path bits alternatives order levels s ≡ i ∷ path
alternative_found {bits} {i = i} path before here =
    once.alternatives_along one_outcome plan_means values_wide bits before ∙ ap (once.nexts i) here
    ∙ once.nexts_here i path

-- the rest of the alternatives have no fault
pub alternatives_end : {bits : List ℕ} {order : Order} {alternatives rest : Parts} {levels : Levels} {s i : ℕ}
    → MissesBefore bits order alternatives levels s i rest
    → alternatives_path bits rest order levels s ≡ [] → alternatives_path bits alternatives order levels s ≡ []
alternatives_end {bits} {i = i} before none =
    once.alternatives_along one_outcome plan_means values_wide bits before ∙ ap (once.nexts i) none

-- ---- elements

module _ (bits : List ℕ) (ty : PokeType) (order : Order) (s : ℕ) (extent : Extent) (levels inside : Levels) (n pn : ℕ)
    (here : s ≤ length bits) (es : ElementsTo bits ty order s extent levels inside n pn) where
  abbrev elements_from : Path
  elements_from = elements_path (λ inside p. result_of bits (plan (length bits) ty order inside p))
      (path_of bits ty order) (length bits) s extent (suc (length bits)) 0 levels s

  abbrev rest_from : (left : ℕ) → Path
  rest_from left = once.along one_outcome plan_means values_wide bits ty order s extent (suc left) n inside pn

  reached : (path : Path) → ((left : ℕ) → rest_from left ≡ path) → elements_from ≡ path
  reached path rest =
      let w =
      once.elements_along one_outcome plan_means values_wide bits es.holds (suc (length bits)) (omega arith) here in
      w.1 ∙ rest w.0

  pub elements_over : is_due extent (length bits) s n pn ≡ false → elements_from ≡ []
  elements_over over = reached [] (λ left. rw over refl)

  pub elements_empty : is_due extent (length bits) s n pn ≡ true → (v : Value) →
      Somehow (Means bits ty order inside pn (Ok v)) → end_of v ≡ pn → elements_from ≡ n ∷ []
  elements_empty due v m e =
      let same : nat_eq (end_of v) pn ≡ true = eq-eqb (end_of v) pn e in
      reached (n ∷ []) (λ left. rw (due, result_is m, same) refl)

  pub elements_ended : is_due extent (length bits) s n pn ≡ true → (x : FaultAt) →
      Somehow (Means bits ty order inside pn (Err x)) → ends_before extent x.0 ≡ true → elements_from ≡ []
  elements_ended due x m ends = reached [] (λ left. rw (due, result_is m, ends) refl)

  pub elements_inside : is_due extent (length bits) s n pn ≡ true → (x : FaultAt) →
      Somehow (Means bits ty order inside pn (Err x)) → ends_before extent x.0 ≡ false →
      elements_from ≡ n ∷ path_of bits ty order inside pn
  elements_inside due x m goes =
      reached (n ∷ path_of bits ty order inside pn) (λ left. rw (due, result_is m, goes) refl)

-- ---- numbers

pub digits_found : {n s : ℕ} {fields rest : Parts} {width : ℕ} {levels inside : Levels} {i left : ℕ} (path : Path)
    → DigitsBefore n s fields width levels i rest left inside
    → digits_path rest n left inside s ≡ 0 ∷ path → digits_path fields n width levels s ≡ i ∷ path
digits_found {i = i} path before here = once.digits_along before ∙ ap (once.nexts i) here ∙ once.nexts_here i path

pub digits_passed : {n s : ℕ} {fields : Parts} {width : ℕ} {levels inside : Levels} {i left : ℕ} →
    DigitsBefore n s fields width levels i NoParts left inside → digits_path fields n width levels s ≡ []
digits_passed before = once.digits_along before

module _ (nodes : List Node) (n s left cut w : ℕ) (p : Alternative) (rest : Parts) (inside : Levels)
    (ew : w ≡ width_in (number_type (type_of nodes p.node))) (ec : cut ≡ first_digits n left w) where
  pub digits_beside : {x : FaultAt} → RefusesNumber nodes cut s p inside x →
      digits_path (part_then nodes p rest) n left inside s ≡ 0 ∷ []
  digits_beside h =
      let means = rw (ec, ew) at h.means.holds in
      rw (once.number_result means, h.refused) refl

  pub digits_inside : {x : FaultAt} (inside' : Levels)
      → Somehow (NumberMeans (type_of nodes p.node) cut inside s (Err x)) → inside' ≡ inside
      → digits_path (part_then nodes p rest) n left inside s ≡ 0 ∷ number_path (type_of nodes p.node) cut inside' s
  digits_inside inside' m e =
      let means = rw (ec, ew) at m.holds in
      rw (e, ec, ew, once.number_result means) refl

-- a type that isn't an integral struct has no fields that are cut from a number
pub no_fields : (nodes : List Node) → IsTable nodes → (at : ℕ) → at < length nodes → (other : Node) (s : Shape)
    → (get_or nodes at other).shape ≡ s
    → ((name : Option Name) (number : IntegerType) (fields : Vec Alternative Global)
    → (get_or nodes at other).shape ≡ shape.Integral name number fields → ⊥)
    → (n start : ℕ) (levels : Levels)
    → number_path (type_of nodes at) n levels start ≡ []
no_fields nodes table at inside other (shape.Integer type) e not n start levels =
    rw (opened_as nodes table at inside other _ e) refl
no_fields nodes table at inside other (shape.Offset type unit) e not n start levels =
    rw (opened_as nodes table at inside other _ e) refl
no_fields nodes table at inside other shape.String e not n start levels =
    rw (opened_as nodes table at inside other _ e) refl
no_fields nodes table at inside other (shape.Array element bound) e not n start levels =
    rw (opened_as nodes table at inside other _ e) refl
no_fields nodes table at inside other (shape.Struct name pinned fields) e not n start levels =
    rw (opened_as nodes table at inside other _ e) refl
no_fields nodes table at inside other (shape.Integral name number fields) e not n start levels =
    absurd (not name number fields e)
no_fields nodes table at inside other (shape.Union name alternatives) e not n start levels =
    rw (opened_as nodes table at inside other _ e) refl

-- ---- types

module _ (bits : List ℕ) (order : Order) (levels : Levels) (s : ℕ) (here : s ≤ length bits) where
  pub struct_path : (name : Naming) (pinned : Bool) (all : Fields) →
      path_of bits (StructOf name pinned all) order levels s ≡ fields_path bits pinned s all order (opened levels) s
  struct_path name pinned all = rw (le-leb s (length bits) here) refl

  pub union_path : (name : Naming) (alternatives : Parts) → path_of bits (UnionOf name alternatives) order levels s
      ≡ alternatives_path bits alternatives order (opened levels) s
  union_path name alternatives = rw (le-leb s (length bits) here) refl

  pub array_path : (ty : PokeType) (bound : Bound) (extent : Extent) → extent_of bound levels s ≡ Ok extent →
      path_of bits (ArrayOf ty bound) order levels s
      ≡ elements_path (λ inside p. result_of bits (plan (length bits) ty order inside p)) (path_of bits ty order)
      (length bits) s extent (suc (length bits)) 0 (opened levels) s
  array_path ty bound extent e = rw (le-leb s (length bits) here, e) refl

  pub bound_path : (ty : PokeType) (bound : Bound) (x : FaultAt) → extent_of bound levels s ≡ Err x →
      path_of bits (ArrayOf ty bound) order levels s ≡ []
  bound_path ty bound x e = rw (le-leb s (length bits) here, e) refl

-- an array that is a type of a table
pub array_in : (bits : List ℕ) (nodes : List Node) (levels : Levels) (inner : Inner) (element : ℕ) (bound : Extents)
    (array : Array)
    → IsArrayAt inner element bound array → type_of nodes inner.node ≡ ArrayOf (type_of nodes element) (bound_of bound)
    → path_in bits nodes levels inner
    ≡ path_of bits (ArrayOf (type_of nodes array.element) (bound_of array.bound.now)) array.order levels array.start
array_in bits nodes levels inner element bound array is e =
    let same : type_of nodes inner.node ≡ ArrayOf (type_of nodes array.element) (bound_of array.bound.now) =
    rw (is.element_is, is.bound_is) e in
    ap (λ order. path_of bits (type_of nodes inner.node) order levels inner.start) (sym is.order_is)
    ∙ ap (λ start. path_of bits (type_of nodes inner.node) array.order levels start) (sym is.start_is)
    ∙ ap (λ ty. path_of bits ty array.order levels array.start) same

-- an array, by its elements
pub array_among : (bits : List ℕ) (nodes : List Node) (levels inside : Levels) (all now : Elements) → all ≡ now
    → inside ≡ opened levels → now.start ≤ length bits → (bound : Bound)
    → extent_of bound levels now.start ≡ Ok now.extent
    → path_of bits (ArrayOf (type_of nodes now.element) bound) now.order levels now.start
    ≡ path_among bits nodes inside all
array_among bits nodes levels inside all now are opens here bound e =
    let path = path_of bits (ArrayOf (type_of nodes now.element) bound) now.order levels now.start in
    subst (λ (a : Elements). path ≡ path_among bits nodes inside a) (sym are)
    (subst (λ (l : Levels). path ≡ path_among bits nodes l now) (sym opens)
    (array_path bits now.order levels now.start here (type_of nodes now.element) bound now.extent e))

-- a number that ends past the last bit, one whose bits are all there, and a type that starts past the last bit
pub short_is : (bits : List ℕ) (ty : PokeType) (type : IntegerType) (order : Order) (levels : Levels) (s : ℕ) →
    number_type ty ≡ Some type → length bits < s + type.width → path_of bits ty order levels s ≡ []
short_is = once.short_path

pub whole_is : (bits : List ℕ) (ty : PokeType) (type : IntegerType) (order : Order) (levels : Levels) (s : ℕ)
    → number_type ty ≡ Some type → s + type.width ≤ length bits
    → path_of bits ty order levels s ≡ number_path ty (number_at bits order s type.width) levels s
whole_is = once.whole_path

pub past_is : (bits : List ℕ) (ty : PokeType) (order : Order) (levels : Levels) (s : ℕ) → length bits < s →
    path_of bits ty order levels s ≡ []
past_is = once.past_path

-- ---- paths that grow

pub grown_none : (path more : Path) → more ≡ [] → path ≡ path ++ more
grown_none path more e = rw e (sym (append-nil path))

pub grown_one : (path path' more : Path) (place : ℕ) → path' ≡ path ++ place ∷ [] → more ≡ place ∷ [] →
    path' ≡ path ++ more
grown_one path path' more place e m = e ∙ ap (λ p. path ++ p) (sym m)

pub grown_more : (path path' path'' more rest : Path) (place : ℕ) → path' ≡ path ++ place ∷ [] →
    path'' ≡ path' ++ rest → more ≡ place ∷ rest → path'' ≡ path ++ more
grown_more path path' path'' more rest place e f m =
    f ∙ ap (λ p. p ++ rest) e ∙ append_assoc path (place ∷ []) rest ∙ ap (λ p. path ++ p) (sym m)

-- ---- what a call says

pub of_each : {A E : Type 0} {P Q : A → Type 0} (result : Result A E) → IfOk result P →
    ((x : A) → P x → Q x) → IfOk result Q
of_each (Ok x) h each = each x h
of_each (Err e) h each = tt

-- the fault with which a part stopped
pub says_fault : (Says : Meaning) (levels levels' : Levels) (stop : Stop) (f : MapFault) → stop ≡ Fault f.kind f.at →
    Comes Says levels levels' (Err stop) → Somehow (Says (Err (fault_of f)))
says_fault Says levels levels' stop f e h = rw e at h

-- whether an array ends before it
pub comes_as : (stop : Stop) (f : MapFault) → stop ≡ Fault f.kind f.at → (extent : Extent) (b : Bool) →
    stop_ends extent stop ≡ b → ends_before extent (fault_of f).0 ≡ b
comes_as stop f e extent b h = rw e at h

-- a value ends where it starts, or after it
pub no_less : {bits : List ℕ} {ty : PokeType} {order : Order} {levels : Levels} {s : ℕ} {v : Value} →
    Somehow (Means bits ty order levels s (Ok v)) → s ≤ end_of v
no_less {bits} {ty} {order} {levels} {s} {v} m =
    let w = values_wide bits ty order levels s v _ _ m.holds in omega (arith, w.0)

-- ---- what a call found, carried over

module _ {E : Type 0} where
  pub if_site : (space now : SpaceView) (nodes : List Node) (levels : Levels) (path path' : (bits : List ℕ) → Path)
      → now.bytes ≡ space.bytes
      → ((bytes : List ℕ) → space.bytes ≡ Some bytes → path' (bits_of bytes) ≡ path (bits_of bytes))
      → (result : Result Site E)
      → IfOk result (λ found. OnBits now (λ bits. IsSite bits nodes levels (path bits) found))
      → IfOk result (λ found. OnBits space (λ bits. IsSite bits nodes levels (path' bits) found))
  if_site space now nodes levels path path' same e (Ok found) h = λ bytes known.
      subst (λ p. IsSite (bits_of bytes) nodes levels p found) (sym (e bytes known)) (h bytes (same ∙ known))
  if_site space now nodes levels path path' same e (Err x) h = tt

-- an integral struct that was read as a number
site_read : (bits : List ℕ) (nodes : List Node) (levels : Levels) (whole : Inner) (number : IntegerType)
    → number_type (type_of nodes whole.node) ≡ Some number → (found : Site)
    → IsSmallSite whole found → ReadsSite whole number found bits
    → IsSite bits nodes levels (path_in bits nodes levels whole) found
site_read bits nodes levels whole number kind site.Itself small h =
    short_is bits (type_of nodes whole.node) number whole.order levels whole.start kind h
site_read bits nodes levels whole number kind (site.Beside place) small h = absurd h
site_read bits nodes levels whole number kind (site.Inside place inner) small h = absurd h
site_read bits nodes levels whole number kind (site.Number cut) small h =
    rw (small.0, small.1, h.1) (whole_is bits (type_of nodes whole.node) number whole.order levels whole.start kind h.0)

pub if_read : {E : Type 0} (space : SpaceView) (nodes : List Node) (levels : Levels) (whole : Inner)
    (number : IntegerType) → number_type (type_of nodes whole.node) ≡ Some number → (result : Result Site E)
    → IfOk result (IsSmallSite whole) → IfOk result (λ found. OnBits space (ReadsSite whole number found))
    → IfOk result (λ found. OnBits space (λ bits. IsSite bits nodes levels (path_in bits nodes levels whole) found))
if_read space nodes levels whole number kind (Ok found) small h =
    λ bytes known. site_read (bits_of bytes) nodes levels whole number kind found small (h bytes known)
if_read space nodes levels whole number kind (Err x) small h = tt
