-- Faults that arise in a type itself.
use Rattle.std.proofs.Common.{◌≡◌, ℕ, ◌+◌, ◌<◌, length, List, [], Err, true, refl, sym, ◌∙◌, arith}
use Rattle.std.proofs.lemmas.Bool.{false≢true}
use Rattle.bit_space.specs.declared.order.Order.{Order}
use Rattle.pickle_types.specs.declared.integer.IntegerType.{IntegerType}
use Rattle.pickle_types.specs.Types.{PokeType, IntegerOf, OffsetOf, StringOf, IntegralOf, UnionOf, Parts}
use Rattle.pickle_meaning.specs.Values.{Naming, Levels}
use Rattle.pickle_meaning.specs.Clauses.{FaultAt, misses}
use Rattle.pickle_meaning.specs.Means.{Means}
use Rattle.fault_parts.specs.Arises.{Path, is_no_number, Arises, starts_past_end, number_past_end, string_past_end, bound_of_array, in_array, in_struct, in_number, in_union, none_fits, in_alternative}
use Rattle.fault_parts.specs.Somehow.{Somehow}
use Rattle.fault_parts.proofs.Faults.{faults_arise}

-- ---- types in which a fault arises at no other path

integer_path : {bits : List ℕ} {type : IntegerType} {order : Order} {levels : Levels} {s : ℕ} {f : FaultAt}
    {path : Path} → Arises bits (IntegerOf type) order levels s f path → path ≡ []
integer_path (starts_past_end lt) = refl
integer_path (number_past_end le e lt) = refl
integer_path (in_number le e inside (is_no_number none)) = refl

offset_path : {bits : List ℕ} {type : IntegerType} {unit : ℕ} {order : Order} {levels : Levels} {s : ℕ} {f : FaultAt}
    {path : Path} → Arises bits (OffsetOf type unit) order levels s f path → path ≡ []
offset_path (starts_past_end lt) = refl
offset_path (number_past_end le e lt) = refl
offset_path (in_number le e inside (is_no_number none)) = refl

string_path : {bits : List ℕ} {order : Order} {levels : Levels} {s : ℕ} {f : FaultAt} {path : Path} →
    Arises bits StringOf order levels s f path → path ≡ []
string_path (starts_past_end lt) = refl
string_path (number_past_end le e lt) = refl
string_path (string_past_end le run lt) = refl
string_path (in_number le e inside (is_no_number none)) = refl

union_path : {bits : List ℕ} {name : Naming} {alternatives : Parts} {order : Order} {levels : Levels} {s : ℕ}
    {f : FaultAt} {path : Path} →
    misses f.0 ≡ true → Arises bits (UnionOf name alternatives) order levels s f path → path ≡ []
union_path k (starts_past_end lt) = refl
union_path k (number_past_end le e lt) = refl
union_path k (in_number le e inside (is_no_number none)) = refl
union_path k (in_union le (none_fits before)) = refl
union_path k (in_union le (in_alternative before e h)) = absurd (false≢true (sym e ∙ k))

integral_path : {bits : List ℕ} {name : Naming} {type : IntegerType} {fields : Parts} {order : Order} {levels : Levels}
    {s : ℕ} {f : FaultAt} {path : Path} → length bits < s + type.width →
    Arises bits (IntegralOf name type fields) order levels s f path → path ≡ []
integral_path beyond (starts_past_end lt) = refl
integral_path beyond (number_past_end le e lt) = refl
integral_path {type} beyond (in_number {type = type'} le e inside h) =
    let same : type ≡ type' = cc in let inside = rw (← same) at inside in absurd (omega (arith, inside, beyond))

past_path : {bits : List ℕ} {ty : PokeType} {order : Order} {levels : Levels} {s : ℕ} {f : FaultAt} {path : Path} →
    length bits < s → Arises bits ty order levels s f path → path ≡ []
past_path past (starts_past_end lt) = refl
past_path past (number_past_end le e lt) = refl
past_path past (string_past_end le run lt) = refl
past_path past (bound_of_array le e) = refl
past_path past (in_array le e h) = absurd (omega (arith, past, le))
past_path past (in_struct le h) = absurd (omega (arith, past, le))
past_path past (in_number le e inside h) = absurd (omega (arith, past, le))
past_path past (in_union le h) = absurd (omega (arith, past, le))

-- ---- a fault that such a type means

module _ {bits : List ℕ} {order : Order} {levels : Levels} {s : ℕ} {f : FaultAt} where
  own : (ty : PokeType) → ((path : Path) → Arises bits ty order levels s f path → path ≡ []) →
      Somehow (Means bits ty order levels s (Err f)) → Arises bits ty order levels s f []
  own ty only m =
      let a = faults_arise bits ty order levels s f m.steps m.made m.holds in
      let arises = a.arises in rw (only a.path arises) at arises

  pub own_integer : (type : IntegerType) → Somehow (Means bits (IntegerOf type) order levels s (Err f)) →
      Arises bits (IntegerOf type) order levels s f []
  own_integer type m = own (IntegerOf type) (λ path h. integer_path h) m

  pub own_offset : (type : IntegerType) (unit : ℕ) → Somehow (Means bits (OffsetOf type unit) order levels s (Err f)) →
      Arises bits (OffsetOf type unit) order levels s f []
  own_offset type unit m = own (OffsetOf type unit) (λ path h. offset_path h) m

  pub own_string : Somehow (Means bits StringOf order levels s (Err f)) → Arises bits StringOf order levels s f []
  own_string m = own StringOf (λ path h. string_path h) m

  pub own_union : (name : Naming) (alternatives : Parts) → misses f.0 ≡ true →
      Somehow (Means bits (UnionOf name alternatives) order levels s (Err f)) →
      Arises bits (UnionOf name alternatives) order levels s f []
  own_union name alternatives k m = own (UnionOf name alternatives) (λ path h. union_path k h) m

  pub own_integral : (name : Naming) (type : IntegerType) (fields : Parts) → length bits < s + type.width →
      Somehow (Means bits (IntegralOf name type fields) order levels s (Err f)) →
      Arises bits (IntegralOf name type fields) order levels s f []
  own_integral name type fields beyond m = own (IntegralOf name type fields) (λ path h. integral_path beyond h) m

  pub own_past : (ty : PokeType) → length bits < s → Somehow (Means bits ty order levels s (Err f)) →
      Arises bits ty order levels s f []
  own_past ty past m = own ty (λ path h. past_path past h) m
