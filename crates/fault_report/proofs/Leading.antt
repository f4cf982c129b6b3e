-- Ways with one more step.
use Rattle.std.proofs.Common.{◌≡◌, ℕ, ◌+◌, ◌<◌, List, [], ◌∷◌, ◌++◌, Some, length, None, get_or, take, drop, sym, ap, ◌∙◌, subst}
use Rattle.std.proofs.lemmas.Grind.{flat_map-append}
use Rattle.std.proofs.lemmas.List.{append-nil, append_assoc, map_more, drop_more, take_more}
use Rattle.std.proofs.lemmas.Option.{none-some}
use Rattle.pickle_types.specs.declared.node.Node.{Node}
use Rattle.pickle_types.specs.Types.{PokeType}
use Rattle.pickle_types.specs.Table.{type_of}
use Rattle.fault_report.specs.declared.way.Portion.{Portion}
use Rattle.fault_report.specs.declared.trail.Level.{Level}
use Rattle.fault_report.specs.declared.way.WayStep.{WayStep}
use Rattle.fault_report.specs.Found.{places_of, place_under_way, places_under_way}
use Rattle.fault_report.specs.Ways.{TypePart, LeadsTo, here, further, part_at, step_text, HasPart, LacksPart}
use Rattle.fault_report.specs.Portions.{IsPortion, joint_text, typed}

-- the places of one more step
pub places_more : (steps : List WayStep) (i : ℕ) (d : WayStep) → i < length steps →
    places_of (take (i + 1) steps) ≡ places_of (take i steps) ++ (get_or steps i d).place ∷ []
places_more steps i d within = map_more (λ step. step.place) steps i d within

-- one more step leads to the part at a place of the part that was reached
leads_on : {type reached : PokeType} {places steps : List ℕ} (part : TypePart) (place : ℕ)
    → LeadsTo type places steps reached → part_at reached place ≡ Some part
    → LeadsTo type (places ++ place ∷ []) (steps ++ step_text reached part.name place) part.type
leads_on {type} {reached} part place here e =
    subst (λ steps. LeadsTo type (place ∷ []) steps part.type) (append-nil (step_text type part.name place))
    (further place e here)
leads_on {type} {reached} part place (further {part = first} {places = places} {steps = steps} k there rest) e =
    subst (λ s. LeadsTo type (k ∷ (places ++ place ∷ [])) s part.type)
    (sym (append_assoc (step_text type first.name k) steps (step_text reached part.name place)))
    (further k there (leads_on part place rest e))

-- so does a step that is added after the others
pub steps_on : (nodes : List Node) (root node : ℕ) (places text said : List ℕ) (to : WayStep) (part : Portion)
    → LeadsTo (type_of nodes root) places text (type_of nodes node)
    → to.node ≡ node → IsPortion nodes to part → said ≡ text ++ joint_text part.joint to.place
    → LeadsTo (type_of nodes root) (places ++ to.place ∷ []) said (type_of nodes part.node)
steps_on nodes root node places text said to part leads same h is =
    let reached = subst (λ n. LeadsTo (type_of nodes root) places text (type_of nodes n)) (sym same) leads in
    let on = leads_on (typed (type_of nodes) part) to.place reached h.part in
    subst (λ s. LeadsTo (type_of nodes root) (places ++ to.place ∷ []) s (type_of nodes part.node))
    (ap (λ s. text ++ s) h.step ∙ sym is) on

-- a way to a part goes on from the part at its first place
goes_along : {type : PokeType} {place : ℕ} {places steps : List ℕ} {found : PokeType} (part : TypePart) →
    part_at type place ≡ Some part → LeadsTo type (place ∷ places) steps found → HasPart part.type places
goes_along {places} part e (further {part = first} k there rest) =
    let same : first ≡ part = cc in
    subst (λ (p : TypePart). HasPart p.type places) same (record { steps = _; part = _; leads = rest })

pub goes_on : (type : PokeType) (place : ℕ) (places : List ℕ) (part : TypePart) → part_at type place ≡ Some part →
    HasPart type (place ∷ places) → HasPart part.type places
goes_on type place places part e h = goes_along part e h.leads

-- and goes nowhere, if there is no part at that place
stops : {type : PokeType} {place : ℕ} {places steps : List ℕ} {found : PokeType} → part_at type place ≡ None →
    LeadsTo type (place ∷ places) steps found → ⊥
stops e (further {part = first} k there rest) = none-some first (sym e ∙ there)

pub goes_nowhere : (type : PokeType) (place : ℕ) (places : List ℕ) → part_at type place ≡ None →
    LacksPart type (place ∷ places)
goes_nowhere type place places e h = stops e h.leads

-- the steps from one on: that one, and those after it
pub steps_left : (steps : List WayStep) (i : ℕ) (d : WayStep) → i < length steps →
    places_of (drop i steps) ≡ (get_or steps i d).place ∷ places_of (drop (i + 1) steps)
steps_left steps i d within = ap places_of (drop_more steps i d within)

-- the place of one more level that is under way
pub begun_more : (levels : List Level) (i : ℕ) (d : Level) → i < length levels →
    places_under_way (take (i + 1) levels)
    ≡ places_under_way (take i levels) ++ place_under_way (get_or levels i d).begun
begun_more levels i d within =
    ap places_under_way (take_more levels i d within)
    ∙ flat_map-append (λ (level : Level). place_under_way level.begun) (take i levels) (get_or levels i d ∷ [])
    ∙ ap (λ places. places_under_way (take i levels) ++ places)
    (append-nil (place_under_way (get_or levels i d).begun))
