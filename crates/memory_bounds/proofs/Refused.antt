-- A store that takes what the bound of a type weighs refuses nothing of the type.
use Rattle.std.proofs.Common.{◌≡◌, ℕ, ◌*◌, ◌<◌, ◌≤◌, ◌⊎◌, Bool, true, Ok, Err, inl, inr, refl, ap, arith, subst}
use Rattle.pickle_types.specs.Types.{PokeType}
use Rattle.pickle_types.specs.TypeTable.{type_named}
use Rattle.type_soundness.specs.Capacity.{capacity_bound}
use Rattle.type_soundness.specs.CapacityLaws.{MemoryLacksCapacity, bound_lengths}
use Rattle.value_store.specs.declared.store.room.Growth.{Growth}
use Rattle.value_store.specs.declared.store.room.Growth.TheVariants.{Within}
use Rattle.value_store.specs.declared.store.slots.Marks.{Marks}
use Rattle.value_store.specs.Slots.{packs, packs_as}
use Rattle.value_store.specs.Takes.{Vector, NodesOf, FamiliesOf, LinksOf, PendingOf, TextsOf, BytesOf, of_vector}
use Rattle.value_store.specs.Weights.{Covers, Forbids, weight}
use Rattle.memory_bounds.specs.Laws.{NothingIsRefused}

-- some vector has less capacity than the bound, or the bound is too heavy
abbrev Lacks : (packing : Bool) → PokeType → (m : ℕ) → (capacity : Marks) → Growth → Type 0
Lacks packing type m capacity growth =
    ((vector : Vector) × (of_vector vector capacity < capacity_bound packing vector type m))
    ⊎ Forbids growth (weight (bound_lengths packing type m))

bound_of : (type : PokeType) (m : ℕ) (vector : Vector) →
    of_vector vector (bound_lengths true type m) ≡ capacity_bound true vector type m
bound_of type m NodesOf = refl
bound_of type m FamiliesOf = refl
bound_of type m LinksOf = refl
bound_of type m PendingOf = refl
bound_of type m TextsOf = refl
bound_of type m BytesOf = refl

lacks_nothing : (type : PokeType) (m most : ℕ) (capacity : Marks) (growth : Growth) → growth ≡ Within most →
    Covers most capacity → weight (bound_lengths true type m) ≤ most → Lacks true type m capacity growth → ⊥
lacks_nothing type m most capacity growth is covers few (inl over) =
    let enough = covers (bound_lengths true type m) few over.0 in
    let bound = bound_of type m over.0 in
    let less = over.1 in
    omega (arith, enough, bound, less)
lacks_nothing type m most capacity growth is covers few (inr heavy) =
    let over = subst (λ g. Forbids g (weight (bound_lengths true type m))) is heavy in omega (arith, over, few)

pub nothing_refused : MemoryLacksCapacity → NothingIsRefused
nothing_refused law table id order start space meter meter' store store' (Ok done) most is covers few h = tt
nothing_refused law table id order start space meter meter' store store' (Err f) most is covers few h = λ memory.
    let type = type_named table id in
    let m = 8 * space.len in
    let packing : packs store.room ≡ true = ap (λ g. packs_as g store.room.least) is in
    lacks_nothing type m most store.capacity store.room.growth is covers few
    (subst (λ p. Lacks p type m store.capacity store.room.growth) packing
    (law table id order start space meter meter' store store' (Err f) h memory))
