-- The list has exactly the parts that values of the type can have.
use Rattle.std.specs.Prelude.{◌≡◌, ◌≤◌, ◌⊎◌, ◌↔◌, ℕ, true, List, [], ◌∷◌, Some, None, length}
use Rattle.std.specs.Prelude.{Vec}
use Rattle.std.specs.declared.alloc.Global.{Global}
use Rattle.pickle_types.specs.declared.node.Node.{Node}
use Rattle.pickle_types.specs.Table.{IsTable, type_of}
use Rattle.command_line.specs.declared.path.Step.{Step}
use Rattle.command_line.specs.declared.path.Step.TheVariants.{Field, Place}
use Rattle.command_line.specs.declared.pattern.PatternStep.{PatternStep}
use Rattle.command_line.specs.declared.pattern.PatternStep.TheVariants.{Exact, Elements as SomeElements}
use Rattle.type_parts.specs.CanHave.{can_have}
use Rattle.part_lists.specs.Steps.{ListedStep, Named, Placed, Elements}
use Rattle.part_lists.specs.Listed.{Part, parts_of}

-- steps of a pattern are listed so: names, places of nameless fields, and `[*]`
pub data IsListedStep : PatternStep → ListedStep → Type 0 where
  of_name : {name : Vec ℕ Global} → IsListedStep (Exact (Field name)) (Named name.items)
  of_place : {place : ℕ} → IsListedStep (Exact (Place place)) (Placed place)
  of_elements : IsListedStep (SomeElements (record { from = None; end = None })) Elements

pub data AreListedSteps : List PatternStep → List ListedStep → Type 0 where
  no_step : AreListedSteps [] []
  one_step : {step : PatternStep} {listed : ListedStep} {steps : List PatternStep} {path : List ListedStep} →
      IsListedStep step listed → AreListedSteps steps path → AreListedSteps (step ∷ steps) (listed ∷ path)

-- a path is among those of some parts
abbrev pub HasPath : List ListedStep → List Part → Type 0
HasPath path [] = ⊥
HasPath path (part ∷ parts) = (part.steps ≡ path) ⊎ HasPath path parts

-- a path of so many levels at most is listed exactly if values of the type can have a part to which it leads
abbrev pub ListsParts : Type 0
ListsParts = (nodes : List Node) (node levels : ℕ) (steps : List PatternStep) (path : List ListedStep) → IsTable nodes →
    AreListedSteps steps path →
    HasPath path (parts_of nodes levels node) ↔ ((length steps ≤ levels) × (can_have steps (type_of nodes node) ≡ true))
