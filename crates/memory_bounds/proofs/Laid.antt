-- The layout of elements that are packed as values.
use Rattle.std.proofs.Common.{◌≡◌, Bool, true, false, Option, Some, None}
use Rattle.std.specs.Prelude.{if◌then◌else◌}
use Rattle.pickle_types.specs.Types.{PokeType}
use Rattle.mapping_plans.specs.Rows.{Layout, element_layout, layout_of}

some_then : (b : Bool) (o : Option Layout) (l : Layout) → (if b then o else None) ≡ Some l → o ≡ Some l
some_then true o l e = e
some_then false o l e = absurd cc

pub laid_element : (type : PokeType) (l : Layout) → element_layout type ≡ Some l → layout_of 0 type ≡ Some l
laid_element type l = some_then _ (layout_of 0 type) l
