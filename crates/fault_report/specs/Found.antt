-- What is found along the steps from a type to its parts, in the table that has these types.
use Rattle.std.specs.Prelude.{ℕ, zero, suc, List, [], ◌∷◌, map, Option, Some, None, IfErr}
use Rattle.std.specs.List.{flat_map}
use Rattle.bit_space.specs.SpaceView.{SpaceView}
use Rattle.pickle_types.specs.declared.node.Node.{Node}
use Rattle.pickle_types.specs.Types.{PokeType}
use Rattle.pickle_types.specs.Table.{type_of}
use Rattle.pickle_meaning.specs.declared.faults.MapFault.{MapFault}
use Rattle.command_line.specs.declared.ask.Ask.{Ask}
use Rattle.fault_report.specs.declared.again.Again.{Again}
use Rattle.fault_report.specs.declared.cause.Fault.{Fault}
use Rattle.fault_report.specs.declared.scene.Scene.{Scene}
use Rattle.fault_report.specs.declared.trail.Level.{Level}
use Rattle.fault_report.specs.declared.way.FoundPart.{FoundPart}
use Rattle.fault_report.specs.declared.way.WayStep.{WayStep}
use Rattle.fault_report.specs.declared.way.Walked.{Walked}
use Rattle.fault_report.specs.declared.way.Way.{Way}
use Rattle.fault_report.specs.Meant.{IsFaultAt, IsUnfound}
use Rattle.fault_report.specs.Ways.{LeadsTo, IsWayTo}

-- the type that was mapped
abbrev pub scene_type : Scene → PokeType
scene_type scene = type_of scene.nodes.now scene.root

-- the places of steps, and of the steps of a path
abbrev pub places_of : List WayStep → List ℕ
places_of steps = map (λ step. step.place) steps

abbrev pub way_places : Way → List ℕ
way_places way = places_of way.steps.items

-- the place of the part of a level that is under way, if one has begun
abbrev pub place_under_way : (begun : ℕ) → List ℕ
place_under_way zero = []
place_under_way (suc place) = place ∷ []

-- the places of the parts of levels that are under way, the outermost first
abbrev pub places_under_way : List Level → List ℕ
places_under_way levels = flat_map (λ level. place_under_way level.begun) levels

-- what was found at the end of a path is a part of the type at a place of the table, with the path to it
abbrev pub IsPartOf : List Node → (root : ℕ) → Way → FoundPart → Type 0
IsPartOf nodes root way part = IsWayTo (type_of nodes root) (way_places way) part.path.items (type_of nodes part.node)

-- what was reached by places is a part of the type at a place of the table, with the steps to it
abbrev pub IsReachedBy : List Node → (root : ℕ) → (places : List ℕ) → Walked → Type 0
IsReachedBy nodes root places part = LeadsTo (type_of nodes root) places part.text.bytes.items (type_of nodes part.node)

-- a stored part is the one that has a fault of the type
abbrev pub HasThere : SpaceView → PokeType → Ask → MapFault → Fault → Type 0
HasThere space type ask fault part = IsFaultAt space type ask fault (way_places part.way)

-- what is stored for a fault: the part that has it, or nothing where it isn't found
abbrev pub IsKept : (space space' : SpaceView) → PokeType → Ask → MapFault → Option Fault → Type 0
IsKept space space' type ask fault (Some part) = HasThere space type ask fault part
IsKept space space' type ask fault None = IsUnfound space space' type ask fault

-- that is stored of a mapping, if it ended with a fault
abbrev pub KeepsPart : (space space' : SpaceView) → PokeType → Ask → Again → Type 0
KeepsPart space space' type ask again = IfErr again.end (λ fault. IsKept space space' type ask fault again.kept.fault)
