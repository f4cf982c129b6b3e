-- The bytes of a struct of numbers, as the mapper sums them up.
use Rattle.std.proofs.Common.{◌≡◌, ℕ, zero, suc, ◌+◌, ◌<◌, ◌≤◌, List, [], ◌∷◌, Option, Some, None, drop, length, get_or, refl, sym, ap, subst, ◌∙◌, arith}
use Rattle.std.proofs.lemmas.Bool.{le-leb, lt-leb}
use Rattle.std.proofs.lemmas.List.{drop_more}
use Rattle.pickle_types.specs.declared.node.Field.{Field}
use Rattle.pickle_types.specs.declared.node.Node.{Node}
use Rattle.pickle_types.specs.Table.{type_of, open_fields}
use Rattle.value_store.specs.Packed.{bytes_for}
use Rattle.mapping_plans.specs.Rows.{Apart, column_then, column_widths, records_of, stride_of}
use Rattle.pickle_map.specs.Columns.{IsStride, field_width}
use Rattle.pickle_map.specs.Packings.{AreColumnsOf}

none_more : (width : Option ℕ) (widths : Option (List ℕ)) → IsStride None widths →
    IsStride None (column_then width widths)
none_more None widths h = tt
none_more (Some w) None h = tt
none_more (Some w) (Some ws) h = omega (arith, h)

sum_not : (all width : ℕ) (widths : Option (List ℕ)) → IsStride (Some all) widths → 512 < all + bytes_for width →
    IsStride None (column_then (Some width) widths)
sum_not all width None h beyond = absurd h
sum_not all width (Some ws) h beyond = omega (arith, h.0, beyond)

sum_is : (all width : ℕ) (widths : Option (List ℕ)) → IsStride (Some all) widths → all + bytes_for width ≤ 512 →
    IsStride (Some (all + bytes_for width)) (column_then (Some width) widths)
sum_is all width None h few = absurd h
sum_is all width (Some ws) h few = (omega (arith, h.0), few)

module _ (nodes : List Node) where
  abbrev widths_of : List Field → Option (List ℕ)
  widths_of fs = column_widths (open_fields (type_of nodes) fs)

  -- what holds of the fields from a place on
  none_from : (fs : List Field) (n : ℕ) → IsStride None (widths_of (drop n fs)) → IsStride None (widths_of fs)
  none_from fs zero h = h
  none_from [] (suc n) h = h
  none_from (f ∷ fs) (suc n) h = none_more (field_width nodes f) (widths_of fs) (none_from fs n h)

  -- the field at a place, and those after it
  module _ (fs : List Field) (n m : ℕ) (f : Field) (step : m ≡ n + 1) (inside : n < length fs)
      (is : f ≡ get_or fs n f) where
    from_here : widths_of (drop n fs) ≡ column_then (field_width nodes f) (widths_of (drop m fs))
    from_here =
        ap widths_of (drop_more fs n f inside) ∙ ap (λ g. widths_of (g ∷ drop (n + 1) fs)) (sym is)
        ∙ ap (λ k. column_then (field_width nodes f) (widths_of (drop k fs))) (sym step)

    pub no_column : field_width nodes f ≡ None → IsStride None (widths_of fs)
    no_column e =
        none_from fs n
        (subst (IsStride None) (sym (from_here ∙ ap (λ w. column_then w (widths_of (drop m fs))) e)) tt)

    module _ (all width : ℕ) (e : field_width nodes f ≡ Some width)
        (so_far : IsStride (Some all) (widths_of (drop m fs)))
      where
        here : column_then (Some width) (widths_of (drop m fs)) ≡ widths_of (drop n fs)
        here = sym (from_here ∙ ap (λ w. column_then w (widths_of (drop m fs))) e)

        pub columns_beyond : 512 < all + bytes_for width → IsStride None (widths_of fs)
        columns_beyond beyond = none_from fs n (subst (IsStride None) here (sum_not all width _ so_far beyond))

        pub columns_more : all + bytes_for width ≤ 512 → IsStride (Some (all + bytes_for width)) (widths_of (drop n fs))
        columns_more few = subst (IsStride (Some (all + bytes_for width))) here (sum_is all width _ so_far few)

-- ---- how structs of such widths are kept

pub none_packed : (widths : Option (List ℕ)) → IsStride None widths → records_of widths ≡ Apart
none_packed None h = refl
none_packed (Some ws) h =
    rw (le-leb 1 (stride_of ws) (omega (arith, h)), lt-leb (stride_of ws) 512 h) refl

pub empty_packed : (stride : ℕ) (widths : Option (List ℕ)) → stride < 1 → IsStride (Some stride) widths →
    records_of widths ≡ Apart
empty_packed stride None none h = absurd h
empty_packed stride (Some ws) none h = rw (lt-leb 1 (stride_of ws) (omega (arith, none, h.0))) refl

pub columns_packed : (stride count : ℕ) (widths : Option (List ℕ)) → 1 ≤ stride → IsStride (Some stride) widths →
    ((ws : List ℕ) → widths ≡ Some ws → length ws ≡ count) → AreColumnsOf (records_of widths) count stride
columns_packed stride count None some h counted = absurd h
columns_packed stride count (Some ws) some h counted = record {
  widths = ws;
  is = rw (
    le-leb 1 (stride_of ws) (omega (arith, some, h.0)),
    le-leb (stride_of ws) 512 (omega (arith, h.0, h.1)),
  ) refl;
  count = counted ws refl;
  bytes = sym h.0;
}

-- a struct has as many columns as fields
one_column_more : (width : Option ℕ) (widths : Option (List ℕ)) (count : ℕ) →
    ((ws : List ℕ) → widths ≡ Some ws → length ws ≡ count) → (ws : List ℕ) →
    column_then width widths ≡ Some ws → length ws ≡ suc count
one_column_more None None count so_far ws e = absurd cc
one_column_more None (Some vs) count so_far ws e = absurd cc
one_column_more (Some w) None count so_far ws e = absurd cc
one_column_more (Some w) (Some vs) count so_far ws e =
    let all : w ∷ vs ≡ ws = cc in ap length (sym all) ∙ ap suc (so_far vs refl)

pub column_count : (nodes : List Node) (fs : List Field) (ws : List ℕ) →
    column_widths (open_fields (type_of nodes) fs) ≡ Some ws → length ws ≡ length fs
column_count nodes [] ws e = let none : [] ≡ ws = cc in ap length (sym none)
column_count nodes (f ∷ fs) ws e =
    one_column_more (field_width nodes f) (column_widths (open_fields (type_of nodes) fs)) (length fs)
    (column_count nodes fs) ws e
