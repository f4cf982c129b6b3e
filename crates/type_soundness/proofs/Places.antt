-- The bound of a type has a place for its value in a frame.
use Rattle.std.proofs.Common.{ℕ, ◌≤◌, Bool, false, arith}
use Rattle.pickle_types.specs.Types.{PokeType, IntegerOf, OffsetOf, StringOf, ArrayOf, StructOf, IntegralOf, UnionOf}
use Rattle.pickle_types.specs.Bounds.{least_width, count_of}
use Rattle.mapping_plans.specs.Rows.{Row, Apart, Numbers, Records, Values, layout_of, row_of}
use Rattle.value_store.specs.Takes.{PendingOf}
use Rattle.type_soundness.specs.Capacity.{array_bytes, fit_bytes, array_bound, where_rows, capacity_bound}

array_place : (row : Row) (count apart each fit : ℕ) → 1 ≤ array_bound row PendingOf count apart each fit
array_place Apart count apart each fit = omega arith
array_place (Numbers width) count apart each fit = omega arith
array_place (Records widths) count apart each fit = omega arith
array_place (Values stride) count apart each fit = omega arith

-- a value has a place in its frame
pub place_bound : (packing : Bool) (ty : PokeType) (m : ℕ) → 1 ≤ capacity_bound packing PendingOf ty m
unfolding capacity_bound
place_bound packing (IntegerOf type) m = omega arith
place_bound packing (OffsetOf type unit) m = omega arith
place_bound packing StringOf m = omega arith
place_bound packing (ArrayOf element bound) m = array_place (where_rows packing (row_of element))
    (count_of m (least_width element)) (capacity_bound false PendingOf element m)
    (capacity_bound packing PendingOf element m) (fit_bytes (layout_of 0 element) (array_bytes element) m)
place_bound packing (StructOf name pinned _) m = omega arith
place_bound packing (IntegralOf name type _) m = omega arith
place_bound packing (UnionOf name alternatives) m = omega arith
