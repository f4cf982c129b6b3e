-- The nodes of the types of parts to which paths lead.
use Rattle.std.specs.Prelude.{ℕ, List, Option, Some}
use Rattle.command_line.specs.declared.path.Path.{Path}
use Rattle.command_line.specs.declared.path.Step.{Step}
use Rattle.value_text.specs.declared.typed.Typed.{Typed}
use Rattle.value_text.specs.TypedValue.{nodes_in, types_in, node_in, mapped_in}
use Rattle.poke_batch.specs.PathParts.{place_of, node_there, node_from, node_at}

-- of the part to which one step leads, of that to which steps lead, and of the requested one
abbrev pub node_through : Step → Typed → Option ℕ
node_through step value =
    node_there (nodes_in (types_in value)) (node_in value) (mapped_in value) (place_of step (mapped_in value))

abbrev pub node_after : List Step → Typed → Option ℕ
node_after steps value = node_from (nodes_in (types_in value)) steps (node_in value) (Some (mapped_in value))

abbrev pub node_of : Option Path → Typed → Option ℕ
node_of path value = node_at (nodes_in (types_in value)) path (node_in value) (mapped_in value)
