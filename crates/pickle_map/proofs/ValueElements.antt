-- The elements of an array of packed values.
use Rattle.std.proofs.Common.{◌≡◌, ℕ, ◌+◌, ◌*◌, ◌<◌, ◌≤◌, Bool, true, false, List, [], ◌∷◌, Option, Some, Result, Ok, length, refl, sym, ◌∙◌, arith}
use Rattle.std.proofs.Math.Nat.{mul-suc}
use Rattle.bit_space.specs.declared.order.Order.{Order}
use Rattle.pickle_types.specs.declared.node.Node.{Node}
use Rattle.pickle_types.specs.Types.{PokeType}
use Rattle.pickle_meaning.specs.Clauses.{FaultAt}
use Rattle.pickle_meaning.specs.Values.{Value, Levels, pushed}
use Rattle.value_store.specs.Layouts.{packs_value}
use Rattle.value_store.specs.Moves.{Move, State}
use Rattle.value_store.specs.Slots.{Held, levels, packs}
use Rattle.value_store.proofs.Fits.{packs_no_more}
use Rattle.value_store.proofs.Taken.{pushed-some}
use Rattle.mapping_plans.specs.Mapping.{plan, element_plan, packs_last}
use Rattle.mapping_plans.specs.Plan.{Plan, then_ok}
use Rattle.mapping_plans.specs.Rows.{Values, row_of}
use Rattle.mapping_plans.specs.Widths.{HasWidths}
use Rattle.mapping_plans.proofs.Alike.{Alike, Same, Both, ended_alike, made_alike, ok_alike}
use Rattle.mapping_plans.proofs.LaidValues.{element_is}
use Rattle.mapping_plans.proofs.Unseen.{element_unseen}
use Rattle.pickle_map.specs.declared.mapper.stop.Stop.{Stop}
use Rattle.pickle_map.specs.Follows.{World, Done, Follows}
use Rattle.pickle_map.specs.Stops.{stop_finish}
use Rattle.pickle_map.specs.LaidArrays.{HasValues, IsAmong, IsLaidArray, no_values, some_values}
use Rattle.pickle_map.proofs.Alike.{FitsToo, done_too, stop_too, same_alike}
use Rattle.pickle_map.proofs.PackedValues.{HasNone, has_frame}

module _ (nodes : List Node) (h : Held) (ty : PokeType) (stride : ℕ) (row : row_of ty ≡ Values stride) where
  module _ (widths : HasWidths ty) (start : ℕ) (outer : Levels) where
    -- ---- the bits of the values so far

    -- the first value has at least one bit
    laid_some : (place : ℕ) (values : List (Option Value)) → IsLaidArray nodes h ty start outer place values →
        place ≡ start → ⊥
    laid_some place values a same =
        let e = element_is a.m ty stride row widths a.inner start a.first a.fits in
        let wide = e.wide in
        let ends = e.is.ends in
        let size : 1 ≤ a.size = omega (arith, wide, ends, a.wide) in
        laid_further a.size a.rows size a.some (sym a.ends ∙ same)
      where
        laid_further : (size : ℕ) (rows : List (List ℕ)) → 1 ≤ size → 0 < length rows →
            start + size * length rows ≡ start → ⊥
        laid_further size [] some more e = omega (arith, more)
        laid_further size (r ∷ rows) some more e = omega (arith, some, e, mul-suc size (length rows))

    -- the next one is the first just where it starts as the array does
    pub among_values : (first : Bool) (place : ℕ) (values : List (Option Value)) → (first ≡ true → place ≡ start) →
        (first ≡ false → place ≡ start → ⊥) → HasValues nodes h ty start outer place values →
        IsAmong nodes h ty first place
    among_values true _ _ none some (no_values is opened) = (outer, is, opened)
    among_values true place values none some (some_values a) = absurd (laid_some place values a (none refl))
    among_values false _ _ none some (no_values is opened) = absurd (some refl refl)
    among_values false place values none some (some_values a) =
        record { start = start; outer = outer; values = values; array = a }

    -- an array that ends where it begins has none
    pub none_there : (place : ℕ) (values : List (Option Value)) → HasValues nodes h ty start outer place values →
        place ≡ start → HasNone nodes h start outer place values
    none_there _ _ (no_values is opened) same = record { opened = opened; levels = is; begins = refl; none = refl }
    none_there place values (some_values a) same = absurd (laid_some place values a same)

    pub some_there : (place : ℕ) (values : List (Option Value)) → HasValues nodes h ty start outer place values →
        (place ≡ start → ⊥) → IsLaidArray nodes h ty start outer place values
    some_there _ _ (no_values is opened) other = absurd (other refl)
    some_there place values (some_values a) other = a

  -- ---- the plan of an element

  module _ (start : ℕ) (outer : Levels) (place : ℕ) (values : List (Option Value))
      (has : HasValues nodes h ty start outer place values) (world : World) (packing : packs world.room ≡ true) (m : ℕ)
      (order : Order) where
    abbrev own : Plan (Result Value FaultAt)
    own = then_ok (plan m ty order (levels nodes h) place) (packs_last (levels nodes h))

    abbrev element : Plan (Result Value FaultAt)
    element = element_plan ty (plan m ty order) (values ∷ outer) place

    -- where arrays are packed no slots are counted
    fits_pushed : (move : Move) (levels levels' : Levels) (v : Option Value) →
        FitsToo world move (pushed levels v) (pushed levels' v)
    fits_pushed move levels levels' v =
        λ takes exceeds. packs_no_more world.room (pushed levels' v) (pushed-some levels' v) packing

    packs_alike : (here there : Levels) (v w : Value) → Same v w →
        Alike (FitsToo world) (Both Same) (packs_last here v) (packs_last there w)
    packs_alike here there v w e =
        rw e (made_alike (fits_pushed (packs_value w) here there (Some w)) (ended_alike refl))

    values_alike : Alike (FitsToo world) Same own element
    values_alike =
        let f = has_frame nodes h ty start outer place values has in
        let s =
        same_alike (ok_alike {Mid = Same} {Ends = Same} (packs_last (f.own ∷ outer)) (packs_last (values ∷ outer))
        (element_unseen (FitsToo world) fits_pushed (λ levels levels' takes. absurd takes)
        (λ levels levels' takes. absurd takes) m ty stride row order f.own values outer place)
        (packs_alike (f.own ∷ outer) (values ∷ outer))) in
        rw (f.are, row) s

    module _ {limit k j k' j' : ℕ} {state state' : State} where
      pub value_goes : {v : Value} → Follows world limit own k j state k' j' state' (Done (Ok v)) →
          Follows world limit element k j state k' j' state' (Done (Ok v))
      value_goes h = done_too values_alike h

      pub value_stops : (stop : Stop) → Follows world limit own k j state k' j' state' (stop_finish stop) →
          Follows world limit element k j state k' j' state' (stop_finish stop)
      value_stops stop h = stop_too values_alike stop h
