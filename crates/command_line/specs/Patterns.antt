-- Patterns, which lead from a value to many of its parts.
use Rattle.std.specs.Prelude.{◌≡◌, ◌≢◌, ◌<◌, ◌^◌, ℕ, Bool, true, false, List, [], ◌∷◌, ◌++◌, map, Option, Some, None, codes, decimal}
use Rattle.command_line.specs.declared.path.Path.{Path}
use Rattle.command_line.specs.declared.pattern.PatternStep.{PatternStep}
use Rattle.command_line.specs.declared.pattern.PatternStep.TheVariants.{Exact, Elements, Fields}
use Rattle.command_line.specs.Paths.{PathStep, IsStep, step_text, step_of, steps_of}

-- a step from a value to some of its parts: the part to which a step of a path leads, the elements of an array from a
-- place on and before another, all those without places, or all fields
pub data PatternPart : Type 0 where
  ToOne : (step : PathStep) → PatternPart
  ToElements : (from end : Option ℕ) → PatternPart
  ToFields : PatternPart

-- the step that a stored one is
abbrev pub part_of : PatternStep → PatternPart
part_of (Exact step) = ToOne (step_of step)
part_of (Elements span) = ToElements span.from span.end
part_of Fields = ToFields

abbrev pub parts_of : List PatternStep → List PatternPart
parts_of steps = map part_of steps

-- whether a step leads to one part
abbrev pub is_exact : PatternStep → Bool
is_exact (Exact step) = true
is_exact (Elements span) = false
is_exact Fields = false

-- a place is below 2^64
abbrev pub IsPlaceIfAny : Option ℕ → Type 0
IsPlaceIfAny None = Unit {0}
IsPlaceIfAny (Some place) = place < 2 ^ 64

abbrev pub place_text : Option ℕ → List ℕ
place_text None = []
place_text (Some place) = decimal place

-- a star for all elements, else the two places with a colon between them
abbrev pub span_text : (from end : Option ℕ) → List ℕ
span_text None None = codes "*"
span_text None (Some end) = codes ":" ++ decimal end
span_text (Some from) end = decimal from ++ (codes ":" ++ place_text end)

abbrev pub IsPart : PatternPart → Type 0
IsPart (ToOne step) = IsStep step
IsPart (ToElements from end) = IsPlaceIfAny from × IsPlaceIfAny end
IsPart ToFields = Unit {0}

abbrev pub AreParts : List PatternPart → Type 0
AreParts [] = Unit {0}
AreParts (part ∷ parts) = IsPart part × AreParts parts

abbrev pub part_text : PatternPart → List ℕ
part_text (ToOne step) = step_text step
part_text (ToElements from end) = codes "[" ++ (span_text from end ++ codes "]")
part_text ToFields = codes ".*"

abbrev pub parts_text : List PatternPart → List ℕ
parts_text [] = []
parts_text (part ∷ parts) = part_text part ++ parts_text parts

-- the pattern that leads to the value itself is a dot
abbrev pub pattern_text : List PatternPart → List ℕ
pattern_text [] = codes "."
pattern_text (part ∷ parts) = parts_text (part ∷ parts)

-- a text is that of a place if there is one, of a span, of a step, and of some steps
abbrev pub IsPlaceText : List ℕ → Option ℕ → Type 0
IsPlaceText text place = IsPlaceIfAny place × (place_text place ≡ text)

abbrev pub IsSpanText : List ℕ → (from end : Option ℕ) → Type 0
IsSpanText text from end = IsPlaceIfAny from × IsPlaceIfAny end × (span_text from end ≡ text)

abbrev pub IsPartText : List ℕ → PatternPart → Type 0
IsPartText text part = IsPart part × (part_text part ≡ text)

abbrev pub ArePartsText : List ℕ → List PatternPart → Type 0
ArePartsText text parts = AreParts parts × (parts_text parts ≡ text)

-- a text is the pattern of these steps
abbrev pub IsPattern : List ℕ → List PatternPart → Type 0
IsPattern text parts = AreParts parts × (pattern_text parts ≡ text)

-- a pattern has one reading
abbrev pub HasOnePattern : Type 0
HasOnePattern = (text : List ℕ) (a b : List PatternPart) → IsPattern text a → IsPattern text b → a ≡ b

-- the steps of a path, as those of a pattern
abbrev pub exact_parts : List PathStep → List PatternPart
exact_parts steps = map ToOne steps

-- a pattern is this path, or no path
abbrev pub IsPathOf : List PatternPart → Option Path → Type 0
IsPathOf parts None = (steps : List PathStep) → exact_parts steps ≢ parts
IsPathOf parts (Some path) = exact_parts (steps_of path.steps.items) ≡ parts
