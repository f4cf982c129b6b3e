-- The least width of a type's values in bits, and bounds on the steps and slots that a mapping of it takes on m bits.
use Rattle.std.specs.Prelude.{◌≡◌, ℕ, ◌+◌, ◌*◌, ◌/◌, ◌≤◌, ◌^◌, min, max, Bool, true, false, ◌||◌, if◌then◌else◌, Option, Some, None}
use Rattle.pickle_types.specs.Types.{Term, PokeType, IntegerOf, OffsetOf, StringOf, ArrayOf, StructOf, IntegralOf, UnionOf, Fields, NoFields, FieldThen, Parts, NoParts, PartThen, optional_weight, bound_weight}

abbrev pub is_some : {A : Type 0} → Option A → Bool
is_some None = false
is_some (Some x) = true

-- whether a field has a label
abbrev pub has_label : Fields → Bool
has_label NoFields = false
has_label (FieldThen name order type constraint label condition rest) = is_some label || has_label rest

-- the least width of a field in bits: 0 if it has a condition, which may leave it absent
abbrev pub where_present : Option Term → ℕ → ℕ
where_present None w = w
where_present (Some condition) w = 0

unfoldable mutual
  -- how many bits a value of the type has at least
  pub least_width : PokeType → ℕ
  least_width (IntegerOf type) = type.width
  least_width (OffsetOf type unit) = type.width
  least_width StringOf = 8
  least_width (ArrayOf element bound) = 0
  least_width (StructOf name pinned fields) =
      if pinned || has_label fields then greatest_width fields else sum_of_widths fields
  least_width (IntegralOf name type fields) = type.width
  least_width (UnionOf name alternatives) = least_of_widths alternatives

  -- the widths of fields that follow one another, in bits
  pub sum_of_widths : Fields → ℕ
  sum_of_widths NoFields = 0
  sum_of_widths (FieldThen name order type constraint label condition rest) =
      where_present condition (least_width type) + sum_of_widths rest

  -- the greatest width of fields that may overlap, in bits
  pub greatest_width : Fields → ℕ
  greatest_width NoFields = 0
  greatest_width (FieldThen name order type constraint label condition rest) =
      max (where_present condition (least_width type)) (greatest_width rest)

  pub least_of_widths : Parts → ℕ
  least_of_widths NoParts = 0
  least_of_widths (PartThen name order type constraint NoParts) = least_width type
  least_of_widths (PartThen name order type constraint (PartThen name' order' type' constraint' rest)) =
      min (least_width type) (least_of_widths (PartThen name' order' type' constraint' rest))

-- how many elements of a least width a mapping tries on m bits
abbrev pub count_of : ℕ → ℕ → ℕ
count_of m w = m / max 1 w + 1

unfoldable mutual
  -- a bound on the steps on m bits: no mapping takes more, and perhaps none takes as many
  pub cost : PokeType → ℕ → ℕ
  cost (IntegerOf type) m = 1
  cost (OffsetOf type unit) m = 1
  cost StringOf m = m / 8 + 2
  cost (ArrayOf element bound) m = 1 + bound_weight bound + count_of m (least_width element) * (1 + cost element m)
  cost (StructOf name pinned fields) m = 1 + fields_cost fields m
  cost (IntegralOf name type fields) m = 1 + parts_cost fields m
  cost (UnionOf name alternatives) m = 1 + parts_cost alternatives m

  pub fields_cost : Fields → ℕ → ℕ
  fields_cost NoFields m = 0
  fields_cost (FieldThen name order type constraint label condition rest) m =
      (1 + (optional_weight condition + optional_weight label + optional_weight constraint) + cost type m)
      + fields_cost rest m

  pub parts_cost : Parts → ℕ → ℕ
  parts_cost NoParts m = 0
  parts_cost (PartThen name order type constraint rest) m =
      (1 + optional_weight constraint + cost type m) + parts_cost rest m

unfoldable mutual
  -- a bound on the slots of each kind that are filled at once on m bits
  pub room : PokeType → ℕ → ℕ
  room (IntegerOf type) m = 1
  room (OffsetOf type unit) m = 1
  room StringOf m = m / 8 + 2
  room (ArrayOf element bound) m = 1 + count_of m (least_width element) * (1 + room element m)
  room (StructOf name pinned fields) m = 1 + fields_room fields m
  room (IntegralOf name type fields) m = 1 + parts_room fields m
  room (UnionOf name alternatives) m = 1 + greatest_room alternatives m

  pub fields_room : Fields → ℕ → ℕ
  fields_room NoFields m = 0
  fields_room (FieldThen name order type constraint label condition rest) m = (1 + room type m) + fields_room rest m

  pub parts_room : Parts → ℕ → ℕ
  parts_room NoParts m = 0
  parts_room (PartThen name order type constraint rest) m = (1 + room type m) + parts_room rest m

  pub greatest_room : Parts → ℕ → ℕ
  greatest_room NoParts m = 0
  greatest_room (PartThen name order type constraint rest) m = max (1 + room type m) (greatest_room rest m)

-- a number as it is returned: None from 2^128 on
abbrev pub IsBound : Option ℕ → ℕ → Type 0
IsBound None n = 2 ^ 128 ≤ n
IsBound (Some x) n = x ≡ n
