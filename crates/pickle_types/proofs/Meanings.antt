-- The types of forms and pickles are found exactly where the rules give them.
use Rattle.std.proofs.Common.{◌≡◌, ℕ, zero, suc, ◌+◌, ◌≤◌, length, List, [], ◌∷◌, ◌++◌, Option, Some, None, Result, Ok, Err, Bool, true, false, refl, sym, ap, subst, ◌∙◌, arith, eqb-true}
use Rattle.std.specs.Prelude.{IfOk, nat_le, nat_eq, ◌||◌, if◌then◌else◌}
use Rattle.std.proofs.lemmas.Bool.{and_parts, leb-true, le-leb, eq-eqb}
use Rattle.pickle_tree.specs.declared.tree.ByteOrder.{ByteOrder}
use Rattle.pickle_tree.specs.Tree.{Tree, TreeReference, Int, Uint, Called, FieldParts, FormTree, Plain, StringForm, OffsetForm, ArrayForm, StructForm, IntegralForm, UnionForm, FieldTrees, DeclarationTree}
use Rattle.pickle_tree.specs.Tree as tree
use Rattle.pickle_types.specs.declared.integer.IntegerType.{IntegerType}
use Rattle.pickle_types.specs.declared.fault.FaultKind.{FaultKind}
use Rattle.pickle_types.specs.declared.fault.FaultKind.TheVariants.{UnknownType, Mismatch, IntegralWidths, TooDeep}
use Rattle.pickle_types.specs.declared.check.operators.Scalar.{Scalar}
use Rattle.pickle_types.specs.declared.check.operators.Scalar.TheVariants.{Integer, Offset}
use Rattle.pickle_types.specs.declared.check.enclosing.Enclosing.{Enclosing}
use Rattle.pickle_types.specs.declared.check.enclosing.Enclosing.TheVariants as enclosing
use Rattle.pickle_types.specs.Types.{Term, Bound, PokeType, IntegerOf, OffsetOf, StringOf, ArrayOf, StructOf, IntegralOf, UnionOf, Fields, NoFields, FieldThen, depth, fields_depth, parts_depth}
use Rattle.pickle_types.specs.Scopes.{Visible}
use Rattle.pickle_types.specs.Names.{Names, find_type}
use Rattle.pickle_types.specs.Operators.{number_in}
use Rattle.pickle_types.specs.Expressions.{◌>>=◌, or_wrong, scalar_sort, operand_of, integer_or_wrong, in_range, integer_referred, offset_referred, Meant, typed}
use Rattle.pickle_types.specs.Meaning.{limited, plain, integer_expression, offset_in, offset_expression, bound_by, bound_expression, unless_found, has_name, fresh, bit_width, has_some, has_none, may_stand, if_here, after_field, with_itself, FieldMeaning, field_meaning, parts_of, total_width, integral_type, struct_place, meaning, fields_meaning, unless_declared, declared_type, declared}
use Rattle.pickle_types.specs.WellTyped.{Refers, HasSort, IsTruth, IsLabel, IsBound, IsFresh, HasWidth, IsPrefixed, MayStand, Means, FieldsMean, Declares}
use Rattle.pickle_types.proofs.Rules.{bind_if, some_is, in_range_whole, number_is, integer_is, integer_referred_sound, integer_referred_whole, offset_referred_sound, offset_referred_whole, referred_sound, typed_sound, typed_whole}

module _ (names : Names) (seen : List Visible) (levels : ℕ) where
  abbrev IsMeant : Tree → Meant → Type 0
  IsMeant e x = HasSort names seen levels e x.0 x.1

  integer_sound : (e : Option Tree) → IfOk (integer_expression names seen levels e) (IsTruth names seen levels e)
  unfolding integer_expression
  integer_sound None = IsTruth.without
  integer_sound (Some e) =
      bind_if (IsMeant e) _ (typed names seen levels e) _ (typed_sound names seen levels e) (λ x h.
      bind_if _ (IsTruth names seen levels (Some e)) (integer_or_wrong x.1) _ (integer_is x.1)
      (λ w is. IsTruth.of_integer w (rw is at h)))

  integer_whole : (e : Option Tree) (c : Option Term) → IsTruth names seen levels e c →
      integer_expression names seen levels e ≡ Ok c
  unfolding integer_expression
  integer_whole _ _ IsTruth.without = refl
  integer_whole _ _ (IsTruth.of_integer w h) = rw (typed_whole names seen levels _ _ _ h) refl

  of_scalar : (e : Tree) (x : Term) (s : Scalar) → HasSort names seen levels e x (scalar_sort s) →
      IfOk (offset_in s >>= λ u. Ok (Some x)) (IsLabel names seen levels (Some e))
  of_scalar e x (Integer t) h = tt
  of_scalar e x (Offset t n) h = IsLabel.of_offset t n h

  offset_sound : (e : Option Tree) → IfOk (offset_expression names seen levels e) (IsLabel names seen levels e)
  unfolding offset_expression
  offset_sound None = IsLabel.without
  offset_sound (Some e) =
      bind_if (IsMeant e) _ (typed names seen levels e) _ (typed_sound names seen levels e) (λ x h.
      bind_if _ (IsLabel names seen levels (Some e)) (or_wrong Mismatch (number_in (operand_of x.1))) _ (number_is x.1)
      (λ s is. of_scalar e x.0 s (rw is at h)))

  offset_whole : (e : Option Tree) (c : Option Term) → IsLabel names seen levels e c →
      offset_expression names seen levels e ≡ Ok c
  unfolding offset_expression
  offset_whole _ _ IsLabel.without = refl
  offset_whole _ _ (IsLabel.of_offset w n h) = rw (typed_whole names seen levels _ _ _ h) refl

  of_bound : (e : Tree) (x : Term) (s : Scalar) → HasSort names seen levels e x (scalar_sort s) →
      IsBound names seen levels (Some e) (bound_by s x)
  of_bound e x (Integer t) h = IsBound.by_count t h
  of_bound e x (Offset t n) h = IsBound.by_size t n h

  bound_sound : (e : Option Tree) → IfOk (bound_expression names seen levels e) (IsBound names seen levels e)
  unfolding bound_expression
  bound_sound None = IsBound.without
  bound_sound (Some e) =
      bind_if (IsMeant e) _ (typed names seen levels e) _ (typed_sound names seen levels e) (λ x h.
      bind_if _ (IsBound names seen levels (Some e)) (or_wrong Mismatch (number_in (operand_of x.1))) _ (number_is x.1)
      (λ s is. of_bound e x.0 s (rw is at h)))

  bound_whole : (e : Option Tree) (b : Bound) → IsBound names seen levels e b →
      bound_expression names seen levels e ≡ Ok b
  unfolding bound_expression
  bound_whole _ _ IsBound.without = refl
  bound_whole _ _ (IsBound.by_count w h) = rw (typed_whole names seen levels _ _ _ h) refl
  bound_whole _ _ (IsBound.by_size w n h) = rw (typed_whole names seen levels _ _ _ h) refl

unless_sound : (b : Bool) → IfOk (unless_found b) (λ u. b ≡ false)
unless_sound false = refl
unless_sound true = tt

fresh_sound : (name : Option (List ℕ)) (names : List (Option (List ℕ))) →
    IfOk (fresh name names) (λ u. IsFresh name names)
unfolding fresh
fresh_sound None names = tt
fresh_sound (Some word) names = unless_sound (has_name word names)

fresh_whole : (name : Option (List ℕ)) (names : List (Option (List ℕ))) → IsFresh name names → fresh name names ≡ Ok tt
unfolding fresh
fresh_whole None names h = refl
fresh_whole (Some word) names h = rw h refl

width_sound : (t : PokeType) → has_some (bit_width t) ≡ true → HasWidth t
width_sound (IntegerOf t) h = HasWidth.of_integer
width_sound (OffsetOf t n) h = HasWidth.of_offset
width_sound StringOf h = cc
width_sound (ArrayOf e b) h = cc
width_sound (StructOf name pinned fs) h = cc
width_sound (IntegralOf name t ps) h = HasWidth.of_integral
width_sound (UnionOf name ps) h = cc

width_whole : (t : PokeType) → HasWidth t → has_some (bit_width t) ≡ true
width_whole _ HasWidth.of_integer = refl
width_whole _ HasWidth.of_offset = refl
width_whole _ HasWidth.of_integral = refl

prefixed_sound : (o : Option ByteOrder) (t : PokeType) → (has_none o || has_some (bit_width t)) ≡ true → IsPrefixed o t
prefixed_sound None t h = IsPrefixed.plain
prefixed_sound (Some o) t h = IsPrefixed.ordered (width_sound t h)

prefixed_whole : (o : Option ByteOrder) (t : PokeType) → IsPrefixed o t → (has_none o || has_some (bit_width t)) ≡ true
prefixed_whole _ _ IsPrefixed.plain = refl
prefixed_whole _ _ (IsPrefixed.ordered h) = width_whole _ h

none_is : {A : Type 0} (o : Option A) → has_none o ≡ true → o ≡ None
none_is None h = refl
none_is (Some x) h = cc

named_is : (o : Option (List ℕ)) → has_some o ≡ true → (word : List ℕ) × (o ≡ Some word)
named_is None h = cc
named_is (Some word) h = (word, refl)

stand_sound : (here : Enclosing) (t : PokeType) (parts : FieldParts) →
    may_stand here (has_some (bit_width t)) parts ≡ true → MayStand here t parts
stand_sound enclosing.Struct t parts h = MayStand.in_struct (prefixed_sound parts.order t h)
stand_sound enclosing.Pinned t parts h =
    let p = and_parts _ _ h in MayStand.in_pinned (prefixed_sound parts.order t p.0) (none_is parts.label p.1)
stand_sound enclosing.Integral t parts h =
    let p = and_parts _ _ h in
    let q = and_parts _ _ p.0 in
    let r = and_parts _ _ q.0 in
    MayStand.in_integral (width_sound t r.0) (none_is parts.order r.1) (none_is parts.label q.1)
    (none_is parts.condition p.1)
stand_sound enclosing.Union t parts h =
    let p = and_parts _ _ h in
    let q = and_parts _ _ p.0 in
    let r = and_parts _ _ q.0 in
    let name = named_is parts.name r.1 in
    MayStand.in_union name.0 (prefixed_sound parts.order t r.0) name.1 (none_is parts.label q.1)
    (none_is parts.condition p.1)

stand_whole : (here : Enclosing) (t : PokeType) (parts : FieldParts) → MayStand here t parts →
    may_stand here (has_some (bit_width t)) parts ≡ true
stand_whole _ t parts (MayStand.in_struct h) = prefixed_whole parts.order t h
stand_whole _ t parts (MayStand.in_pinned h l) = rw (prefixed_whole parts.order t h, l) refl
stand_whole _ t parts (MayStand.in_integral h o l d) = rw (width_whole t h, o, l, d) refl
stand_whole _ t parts (MayStand.in_union word h n l d) = rw (prefixed_whole parts.order t h, n, l, d) refl

here_is : (b : Bool) → IfOk (if_here b) (λ u. b ≡ true)
here_is true = refl
here_is false = tt

-- the rules hold, and the type is no deeper than allowed
record Sound (names : Names) (seen : List Visible) (levels : ℕ) (title : Option (List ℕ)) (room : ℕ) (f : FormTree)
    (t : PokeType) : Type 0 where
  means : Means names seen levels title f t
  low : depth t ≤ room

record FieldsSound (names : Names) (here : Enclosing) (seen : List Visible) (levels room : ℕ)
    (before : List (Option (List ℕ))) (f : FieldTrees) (fs : Fields) : Type 0 where
  means : FieldsMean names here seen levels before f fs
  low : fields_depth fs ≤ room

record FieldSound (names : Names) (here : Enclosing) (seen : List Visible) (levels room : ℕ)
    (before : List (Option (List ℕ))) (form : FormTree) (parts : FieldParts) (f : FieldMeaning) : Type 0 where
  means : Means names seen (levels + 1) None form f.type
  low : depth f.type ≤ room
  stands : MayStand here f.type parts
  new : IsFresh parts.name before
  label : IsLabel names seen (levels + 1) parts.label f.label
  condition : IsTruth names seen (levels + 1) parts.condition f.condition
  constraint : IsTruth names (with_itself here seen levels (length before) parts f.type)
      (levels + 1) parts.constraint f.constraint

limited_sound : (room : ℕ) (t : PokeType) (b : Bool) → nat_le (depth t) room ≡ b →
    IfOk (if b then Ok t else Err TooDeep) (λ u. (u ≡ t) × (depth u ≤ room))
limited_sound room t true e = (refl, leb-true _ _ e)
limited_sound room t false e = tt

limited_low : (room : ℕ) (t : PokeType) → IfOk (limited room t) (λ u. (u ≡ t) × (depth u ≤ room))
limited_low room t = limited_sound room t (nat_le (depth t) room) refl

if_weaker : {A : Type 0} (P Q : A → Type 0) (r : Result A FaultKind) → ((a : A) → P a → Q a) → IfOk r P → IfOk r Q
if_weaker P Q (Ok a) f h = f a h
if_weaker P Q (Err e) f h = tt

in_range_refers : (names : Names) (r : TreeReference) (t : Result IntegerType FaultKind) →
    IfOk (t >>= λ w. Ok (IntegerOf w)) (Refers names r) →
    (seen : List Visible) (levels : ℕ) (title : Option (List ℕ)) (room : ℕ) →
    IfOk (t >>= λ w. Ok (IntegerOf w)) (Sound names seen levels title (suc room) (Plain r))
unfolding depth
in_range_refers names r (Ok w) h seen levels title room = record { means = Means.plain h; low = omega arith }
in_range_refers names r (Err e) h seen levels title room = tt

plain_sound : (names : Names) (seen : List Visible) (levels : ℕ) (title : Option (List ℕ)) (room : ℕ)
    (r : TreeReference) → IfOk (plain (suc room) names r) (Sound names seen levels title (suc room) (Plain r))
plain_sound names seen levels title room (Int n) =
    in_range_refers names (Int n) (in_range true n.value) (referred_sound names (Int n)) seen levels title room
plain_sound names seen levels title room (Uint n) =
    in_range_refers names (Uint n) (in_range false n.value) (referred_sound names (Uint n)) seen levels title room
plain_sound names seen levels title room (Called word) =
    bind_if (λ t. find_type word names ≡ Some t) (Sound names seen levels title (suc room) (Plain (Called word)))
    (or_wrong UnknownType (find_type word names)) _ (some_is UnknownType (find_type word names)) (λ t is.
    let P : PokeType → Type 0 = λ u. (u ≡ t) × (depth u ≤ suc room) in
    if_weaker P (Sound names seen levels title (suc room) (Plain (Called word))) (limited (suc room) t)
    (λ u h. record { means = Means.plain (Refers.called (is ∙ ap Some (sym h.0))); low = h.1 })
    (limited_low (suc room) t))

positive : (t : PokeType) → 1 ≤ depth t
unfolding depth
positive (IntegerOf w) = omega arith
positive (OffsetOf w n) = omega arith
positive StringOf = omega arith
positive (ArrayOf e b) = omega arith
positive (StructOf name pinned fs) = omega arith
positive (IntegralOf name number ps) = omega arith
positive (UnionOf name ps) = omega arith

pub parts_depth_is : (fs : Fields) → parts_depth (parts_of fs) ≡ fields_depth fs
unfolding depth fields_depth parts_depth
parts_depth_is NoFields = refl
parts_depth_is (FieldThen name order type constraint label condition rest) = rw (parts_depth_is rest) refl

widths_sound : (title : Option (List ℕ)) (t : IntegerType) (fs : Fields) (b : Bool) →
    nat_eq (total_width fs) t.width ≡ b →
    IfOk (if b then Ok (IntegralOf title t (parts_of fs)) else Err IntegralWidths)
    (λ u. (u ≡ IntegralOf title t (parts_of fs)) × (total_width fs ≡ t.width))
widths_sound title t fs true e = (refl, eqb-true _ _ e)
widths_sound title t fs false e = tt

integral_sound : (title : Option (List ℕ)) (t : IntegerType) (fs : Fields) →
    IfOk (integral_type title t fs) (λ u. (u ≡ IntegralOf title t (parts_of fs)) × (total_width fs ≡ t.width))
integral_sound title t fs = widths_sound title t fs _ refl

field_sound : (names : Names) (here : Enclosing) (seen : List Visible) (levels room : ℕ)
    (before : List (Option (List ℕ)))
    (form : FormTree) (parts : FieldParts) (r : Result PokeType FaultKind) →
    IfOk r (Sound names seen (levels + 1) None room form) → IfOk (field_meaning names here seen levels before parts r)
    (FieldSound names here seen levels room before form parts)
field_sound names here seen levels room before form parts r h =
    bind_if (Sound names seen (levels + 1) None room form) _ r _ h (λ t s.
    bind_if _ (FieldSound names here seen levels room before form parts)
    (if_here (may_stand here (has_some (bit_width t)) parts)) _
    (here_is (may_stand here (has_some (bit_width t)) parts)) (λ u stands.
    bind_if (λ v. IsFresh parts.name before) _ (fresh parts.name before) _ (fresh_sound parts.name before) (λ v new.
    bind_if (IsLabel names seen (levels + 1) parts.label) _ (offset_expression names seen (levels + 1) parts.label) _
    (offset_sound names seen (levels + 1) parts.label) (λ l label.
    bind_if (IsTruth names seen (levels + 1) parts.condition) _
    (integer_expression names seen (levels + 1) parts.condition) _
    (integer_sound names seen (levels + 1) parts.condition) (λ d condition.
    bind_if (IsTruth names (with_itself here seen levels (length before) parts t) (levels + 1) parts.constraint) _
    (integer_expression names (with_itself here seen levels (length before) parts t) (levels + 1) parts.constraint) _
    (integer_sound names (with_itself here seen levels (length before) parts t) (levels + 1) parts.constraint)
    (λ c constraint.
    record {
      means = s.means;
      low = s.low;
      stands = stand_sound here t parts stands;
      new = new;
      label = label;
      condition = condition;
      constraint = constraint;
    }))))))

module _ (names : Names) where
  mutual
    unfolding meaning fields_meaning depth fields_depth

    meaning_sound : (f : FormTree) (seen : List Visible) (levels : ℕ) (title : Option (List ℕ)) (room : ℕ) →
        IfOk (meaning names seen levels title room f) (Sound names seen levels title room f)
    meaning_sound (Plain r) seen levels title zero = tt
    meaning_sound StringForm seen levels title zero = tt
    meaning_sound (OffsetForm r u) seen levels title zero = tt
    meaning_sound (ArrayForm element bound) seen levels title zero = tt
    meaning_sound (StructForm pinned forms) seen levels title zero = tt
    meaning_sound (IntegralForm r forms) seen levels title zero = tt
    meaning_sound (UnionForm alternatives) seen levels title zero = tt
    meaning_sound (Plain r) seen levels title (suc room) = plain_sound names seen levels title room r
    meaning_sound StringForm seen levels title (suc room) = record { means = Means.string; low = omega arith }
    meaning_sound (OffsetForm r u) seen levels title (suc room) =
        bind_if _ (Sound names seen levels title (suc room) (OffsetForm r u)) (offset_referred names r u) _
        (offset_referred_sound names r u) (λ s h.
        rw h.2 (record { means = Means.offset h.3 h.4; low = omega arith }))
    meaning_sound (ArrayForm element bound) seen levels title (suc room) =
        bind_if (Sound names seen (levels + 1) None room element) _ (meaning names seen (levels + 1) None room element)
        _ (meaning_sound element seen (levels + 1) None room) (λ t h.
        bind_if (IsBound names seen levels bound) _ (bound_expression names seen levels bound) _
        (bound_sound names seen levels bound) (λ b g.
        let low = h.low in record { means = Means.array h.means g; low = omega arith }))
    meaning_sound (StructForm pinned forms) seen levels title (suc room) =
        bind_if (FieldsSound names (struct_place pinned) seen levels room [] forms) _
        (fields_meaning names (struct_place pinned) seen levels room [] forms) _
        (fields_sound forms (struct_place pinned) seen levels room []) (λ fs h.
        let low = h.low in record { means = Means.struct h.means; low = omega arith })
    meaning_sound (IntegralForm r forms) seen levels title (suc room) =
        bind_if (λ t. Refers names r (IntegerOf t)) _ (integer_referred names r) _
        (integer_referred_sound names r) (λ t g.
        bind_if (FieldsSound names enclosing.Integral seen levels room [] forms) _
        (fields_meaning names enclosing.Integral seen levels room [] forms) _
        (fields_sound forms enclosing.Integral seen levels room []) (λ fs h.
        let low = h.low in
        let same = parts_depth_is fs in
        if_weaker (λ u. (u ≡ IntegralOf title t (parts_of fs)) × (total_width fs ≡ t.width))
        (Sound names seen levels title (suc room) (IntegralForm r forms)) (integral_type title t fs)
        (λ u is. rw is.0 (record { means = Means.integral g h.means is.1; low = omega arith }))
        (integral_sound title t fs)))
    meaning_sound (UnionForm tree.NoFields) seen levels title (suc room) = tt
    meaning_sound (UnionForm (tree.FieldThen form parts rest)) seen levels title (suc room) =
        bind_if (FieldsSound names enclosing.Union seen levels room [] (tree.FieldThen form parts rest)) _
        (fields_meaning names enclosing.Union seen levels room [] (tree.FieldThen form parts rest)) _
        (fields_sound (tree.FieldThen form parts rest) enclosing.Union seen levels room []) (λ fs h.
        let low = h.low in
        let same = parts_depth_is fs in
        record { means = Means.union h.means; low = omega arith })

    fields_sound : (f : FieldTrees) (here : Enclosing) (seen : List Visible) (levels room : ℕ)
        (before : List (Option (List ℕ))) →
        IfOk (fields_meaning names here seen levels room before f) (FieldsSound names here seen levels room before f)
    fields_sound tree.NoFields here seen levels room before = record { means = FieldsMean.done; low = omega arith }
    fields_sound (tree.FieldThen form parts rest) here seen levels room before =
        bind_if (FieldSound names here seen levels room before form parts) _
        (field_meaning names here seen levels before parts (meaning names seen (levels + 1) None room form)) _
        (field_sound names here seen levels room before form parts _ (meaning_sound form seen (levels + 1) None room))
        (λ x h.
        bind_if
        (FieldsSound names here (after_field here seen (with_itself here seen levels (length before) parts x.type))
        levels room (before ++ parts.name ∷ []) rest) _
        (fields_meaning names here (after_field here seen (with_itself here seen levels (length before) parts x.type))
        levels room (before ++ parts.name ∷ []) rest) _
        (fields_sound rest here (after_field here seen (with_itself here seen levels (length before) parts x.type))
        levels room (before ++ parts.name ∷ [])) (λ fs g.
        let a = h.low in
        let b = g.low in
        record {
          means = FieldsMean.field h.means h.stands h.new h.label h.condition h.constraint g.means;
          low = omega arith;
        }))

  plain_whole : (room : ℕ) (r : TreeReference) (t : PokeType) → Refers names r t → depth t ≤ room →
      plain room names r ≡ Ok t
  plain_whole room _ _ (Refers.signed some most) low = rw (in_range_whole _ _ some most) refl
  plain_whole room _ _ (Refers.unsigned some most) low = rw (in_range_whole _ _ some most) refl
  plain_whole room _ _ (Refers.called is) low = rw (is, le-leb _ _ low) refl

  mutual
    unfolding meaning fields_meaning depth fields_depth

    meaning_whole : (f : FormTree) (t : PokeType) (seen : List Visible) (levels : ℕ) (title : Option (List ℕ))
        (room : ℕ) → Means names seen levels title f t → depth t ≤ room → meaning names seen levels title room f ≡ Ok t
    meaning_whole f t seen levels title zero h low = let p = positive t in absurd (omega arith)
    meaning_whole _ _ _ _ _ (suc room) (Means.plain h) low = plain_whole (suc room) _ _ h low
    meaning_whole _ _ _ _ _ (suc room) Means.string low = refl
    meaning_whole _ _ _ _ _ (suc room) (Means.offset h g) low = rw (offset_referred_whole names _ _ _ _ h g) refl
    meaning_whole _ _ _ _ _ (suc room) (Means.array h g) low =
        rw (meaning_whole _ _ _ _ _ room h (omega arith), bound_whole names _ _ _ _ g) refl
    meaning_whole _ _ _ _ _ (suc room) (Means.struct h) low = rw (fields_whole _ _ _ _ _ room _ h (omega arith)) refl
    meaning_whole _ _ _ _ _ (suc room) (Means.integral {fs = fs} g h w) low =
        let same = parts_depth_is fs in
        rw (integer_referred_whole names _ _ g, fields_whole _ _ _ _ _ room _ h (omega arith), eq-eqb _ _ w) refl
    meaning_whole _ _ _ _ _ (suc room) (Means.union {fs = fs} h) low =
        let same = parts_depth_is fs in
        rw (fields_whole _ _ _ _ _ room _ h (omega arith)) refl

    fields_whole : (f : FieldTrees) (fs : Fields) (here : Enclosing) (seen : List Visible) (levels room : ℕ)
        (before : List (Option (List ℕ))) → FieldsMean names here seen levels before f fs → fields_depth fs ≤ room →
        fields_meaning names here seen levels room before f ≡ Ok fs
    fields_whole _ _ _ _ _ room _ FieldsMean.done low = refl
    fields_whole _ _ _ _ _ room _ (FieldsMean.field h stands new label condition constraint g) low =
        rw (
          meaning_whole _ _ _ _ _ room h (omega arith),
          stand_whole _ _ _ stands,
          fresh_whole _ _ new,
          offset_whole names _ _ _ _ label,
          integer_whole names _ _ _ _ condition,
          integer_whole names _ _ _ _ constraint,
          fields_whole _ _ _ _ _ room _ g (omega arith),
        ) refl

declares_one : (names : Names) (d : DeclarationTree) (ds : List DeclarationTree) →
    ((t : PokeType) → IfOk (declared (names ++ (d.name, t) ∷ []) ds) (Declares (names ++ (d.name, t) ∷ []) ds)) →
    (o : Option PokeType) → find_type d.name names ≡ o →
    IfOk ((unless_declared o >>= λ u. meaning names [] 0 (Some d.name) 64 d.form) >>= λ t.
    declared (names ++ (d.name, t) ∷ []) ds) (Declares names (d ∷ ds))
declares_one names d ds rest (Some t) e = tt
declares_one names d ds rest None e =
    bind_if (Sound names [] 0 (Some d.name) 64 d.form) _ (meaning names [] 0 (Some d.name) 64 d.form) _
    (meaning_sound names d.form [] 0 (Some d.name) 64) (λ t h.
    if_weaker (Declares (names ++ (d.name, t) ∷ []) ds) (Declares names (d ∷ ds))
    (declared (names ++ (d.name, t) ∷ []) ds) (λ all g. Declares.more e h.means h.low g) (rest t))

declared_sound : (ds : List DeclarationTree) (names : Names) → IfOk (declared names ds) (Declares names ds)
unfolding declared declared_type
declared_sound [] names = Declares.none
declared_sound (d ∷ ds) names =
    declares_one names d ds (λ t. declared_sound ds (names ++ (d.name, t) ∷ [])) (find_type d.name names) refl

pub declared_whole : (ds : List DeclarationTree) (names all : Names) → Declares names ds all →
    declared names ds ≡ Ok all
unfolding declared declared_type
declared_whole _ _ _ Declares.none = refl
declared_whole _ _ _ (Declares.more new h low g) =
    rw (new, meaning_whole _ _ _ _ _ _ _ h low, declared_whole _ _ _ g) refl

pub rules_sound : (ds : List DeclarationTree) (names all : Names) → declared names ds ≡ Ok all → Declares names ds all
rules_sound ds names all e = subst (λ r. IfOk r (Declares names ds)) e (declared_sound ds names)
