-- What a store holds after the mapping of a record.
use Rattle.std.proofs.Common.{◌≡◌, ◌∙◌, ◌<◌, ◌-◌, ◌*◌, ◌^◌, ℕ, List, Option, Some, None, Ok, sym, subst, arith}
use Rattle.std.proofs.lemmas.Option.{same_Some}
use Rattle.bit_space.specs.Bits.{bits_of}
use Rattle.bit_space.specs.SpaceView.{SpaceView}
use Rattle.bit_space.specs.declared.meter.Meter.{Meter}
use Rattle.bit_space.specs.declared.order.Order.{Order}
use Rattle.command_line.specs.declared.terms.Terms.{Terms}
use Rattle.mapping_plans.proofs.Fitting.{fits_inside}
use Rattle.pickle_map.specs.Mapped.{FaultMeans, Gives}
use Rattle.pickle_meaning.specs.Answer.{Answer}
use Rattle.pickle_meaning.specs.Values.{Value, no_values, value_at}
use Rattle.pickle_meaning.specs.declared.faults.MapFaultKind.{MapFaultKind}
use Rattle.pickle_types.specs.Types.{PokeType}
use Rattle.pickle_types.specs.declared.node.Node.{Node}
use Rattle.poke_batch.specs.RunsUnder.{IsStoreOf, IsStoreUnder, IsStoreWeighing}
use Rattle.poke_batch.specs.TypeRuns.{run_type}
use Rattle.poke_batch.specs.declared.type_run.TypeRun.{TypeRun}
use Rattle.poke_batch.proofs.Mappings.{root_given}
use Rattle.poke_batch.proofs.UnderTerms.{fits_start, starts_before_end}
use Rattle.records.specs.Next.{HoldsValue, IsHeld}
use Rattle.value_store.specs.Slots.{Held, levels}

-- a store under terms is one of the most slots, or one of the most bytes
pub of_slots : (terms : Terms) (store : Held) → IsStoreUnder terms.most_slots terms.most_bytes store
    → terms.most_bytes ≡ None → IsStoreOf terms.most_slots store
of_slots terms store is free = subst (λ (bytes : Option ℕ). IsStoreUnder terms.most_slots bytes store) free is

pub of_weight : (terms : Terms) (store : Held) → IsStoreUnder terms.most_slots terms.most_bytes store → (most : ℕ)
    → terms.most_bytes ≡ Some most → IsStoreWeighing most store
of_weight terms store is most given =
    subst (λ (bytes : Option ℕ). IsStoreUnder terms.most_slots bytes store) given is

-- the answer of a mapping whose meter took no step before, in so many steps
pub value_meant : (type : PokeType) (order : Order) (start limit steps : ℕ) (meter meter' : Meter)
    (known : Option (List ℕ)) (nodes : List Node) (store : Held) (v : Value)
    → meter.limit ≡ limit → meter.steps ≡ 0 → meter'.steps ≡ steps
    → ((bytes : List ℕ) → known ≡ Some bytes → Gives nodes store (λ v.
    Answer (bits_of bytes) type order start (meter.limit - meter.steps) (Ok v) (meter'.steps - meter.steps)
    (meter'.made - meter.made)))
    → value_at (levels nodes store) 0 0 ≡ Some v
    → (bytes : List ℕ) → known ≡ Some bytes
    → Answer (bits_of bytes) type order start limit (Ok v) steps (meter'.made - meter.made)
value_meant type order start limit steps meter meter' known nodes store v same none taken means root bytes is =
    let m = means bytes is in
    let e = same_Some m.value v (sym (root_given m) ∙ root) in
    let left : meter.limit - meter.steps ≡ limit = omega (arith, same, none) in
    let took : meter'.steps - meter.steps ≡ steps = omega (arith, taken, none) in
    subst (λ (n : ℕ). Answer (bits_of bytes) type order start n (Ok v) steps (meter'.made - meter.made)) left
    (subst (λ (n : ℕ).
    Answer (bits_of bytes) type order start (meter.limit - meter.steps) (Ok v) n (meter'.made - meter.made)) took
    (subst (λ (v : Value).
    Answer (bits_of bytes) type order start (meter.limit - meter.steps) (Ok v) (meter'.steps - meter.steps)
    (meter'.made - meter.made)) e m.holds))

-- and its fault
pub fault_meant : (type : PokeType) (order : Order) (start limit steps : ℕ) (meter meter' : Meter)
    (known : Option (List ℕ)) (kind : MapFaultKind) (at : ℕ)
    → meter.limit ≡ limit → meter.steps ≡ 0 → meter'.steps ≡ steps
    → ((bytes : List ℕ) → known ≡ Some bytes →
    FaultMeans (bits_of bytes) type order start (meter.limit - meter.steps) kind at (meter'.steps - meter.steps)
    (meter'.made - meter.made))
    → (bytes : List ℕ) → known ≡ Some bytes
    → FaultMeans (bits_of bytes) type order start limit kind at steps (meter'.made - meter.made)
fault_meant type order start limit steps meter meter' known kind at same none taken means bytes is =
    let left : meter.limit - meter.steps ≡ limit = omega (arith, same, none) in
    let took : meter'.steps - meter.steps ≡ steps = omega (arith, taken, none) in
    subst (λ (n : ℕ). FaultMeans (bits_of bytes) type order start n kind at steps (meter'.made - meter.made)) left
    (subst (λ (n : ℕ). FaultMeans (bits_of bytes) type order start (meter.limit - meter.steps) kind at n
    (meter'.made - meter.made)) took (means bytes is))

-- a value in a file that a space can have ends at a bit that has a number
pub is_held : (run : TypeRun) (space : SpaceView) (store : Held) (steps : ℕ) → space.len < 2 ^ 60
    → HoldsValue run space store steps → IsHeld run store
is_held run space store steps short h =
    let inside = fits_inside (8 * space.len) (run_type run) no_values run.ask.now.start h.value h.fits in
    record {
      value = h.value;
      there = h.there;
      placed = record {
        starts = fits_start (8 * space.len) (run_type run) no_values run.ask.now.start h.value h.fits;
        forward = starts_before_end (8 * space.len) (run_type run) no_values run.ask.now.start h.value h.fits;
        inside = omega (arith, inside, short);
      };
    }
