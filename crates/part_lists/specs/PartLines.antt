-- What is written of the parts to which a route leads.
use Rattle.std.specs.Prelude.{ℕ, List}
use Rattle.value_text.specs.ShowParts.{known_of}
use Rattle.value_text.specs.TypedValue.{nodes_in}
use Rattle.part_lists.specs.declared.list.Listing.{Listing}
use Rattle.part_lists.specs.declared.route.Route.{Route}
use Rattle.part_lists.specs.Steps.{steps_of}
use Rattle.part_lists.specs.Listed.{Part, Next, parts_of, parts_behind}
use Rattle.part_lists.specs.ListText.{line_text, lines_within}

abbrev pub line_of : Listing → Route → (node : ℕ) → List ℕ
line_of listing route node =
    line_text listing.form (known_of listing.types.now) (record { steps = steps_of route; node = node })

abbrev pub lines_of : Listing → Route → List Part → List ℕ
lines_of listing route = lines_within listing.form (known_of listing.types.now) (steps_of route)

-- the lines of a part and of those below it, and of those below it alone
abbrev pub part_lines : Listing → (levels : ℕ) → Route → (node : ℕ) → List ℕ
part_lines listing levels route node = lines_of listing route (parts_of (nodes_in listing.types.now) levels node)

abbrev pub next_lines : Listing → (levels : ℕ) → Route → List Next → List ℕ
next_lines listing levels route nexts =
    lines_of listing route (parts_behind (parts_of (nodes_in listing.types.now) levels) nexts)
