-- A start at which the first numbers of a type fail is an attempt that is stopped.
use Rattle.std.proofs.Common.{◌≡◌, ◌∙◌, ◌+◌, ◌*◌, ◌<◌, ◌≤◌, max, ℕ, List, Option, Some, Result, Ok, Err, IfOk, IfErr, length, refl, sym, ap, subst, arith}
use Rattle.std.specs.Option.{option_map}
use Rattle.bit_space.proofs.Digits.{length-bits_of}
use Rattle.bit_space.specs.Bits.{bits_of}
use Rattle.bit_space.specs.SpaceView.{IsWhole, Keeps, SpaceView, known_bits}
use Rattle.bit_space.specs.declared.order.Order.{Order}
use Rattle.first_numbers.proofs.Outcomes.{can_read, misses_are_faults, on_bits}
use Rattle.first_numbers.specs.Layouts.{First, Tests, layout}
use Rattle.first_numbers.specs.Runs.{AllFail, Along, along_ended, along_made, along_read, along_tick}
use Rattle.mapping_plans.proofs.Exists.{plan_means}
use Rattle.mapping_plans.specs.Mapping.{plan}
use Rattle.mapping_plans.specs.Plan.{Plan, Ended, Tick, Made, Read, result_of, steps_of}
use Rattle.pickle_map.specs.Follows.{Walk, World, after_move, arrived, during_move, kept, read, stepped}
use Rattle.pickle_map.specs.Mapped.{EndsRun, RunsToFault}
use Rattle.pickle_meaning.specs.Answer.{in_time}
use Rattle.pickle_meaning.specs.Means.{Means}
use Rattle.pickle_meaning.specs.Values.{no_values}
use Rattle.pickle_meaning.specs.declared.faults.MapFaultKind.{MapFaultKind}
use Rattle.pickle_meaning.specs.declared.faults.MapFaultKind.TheVariants as fault
use Rattle.pickle_types.specs.Types.{PokeType}
use Rattle.poke_batch.specs.TypeRuns.{run_type}
use Rattle.poke_batch.specs.declared.type_run.TypeRun.{TypeRun}
use Rattle.pickle_meaning.specs.Fits.{Fits}
use Rattle.pickle_types.specs.Bounds.{cost}
use Rattle.records.proofs.Nexts.{light_since}
use Rattle.records.specs.Next.{HoldsValue, IsStopped}
use Rattle.records.specs.declared.attempt.Stopped.{Stopped}
use Rattle.bit_space.proofs.Failures.{risen_later}
use Rattle.first_numbers.specs.declared.number.First.{First as HeldFirst}
use Rattle.first_numbers.specs.Held.{HoldsTests}
use Rattle.first_numbers.specs.Reads.{IsMissed}
use Rattle.first_numbers.specs.Screens.{IsMiss}
use Rattle.first_numbers.specs.declared.sieve.Miss.{Miss}
use Rattle.searches.proofs.Trials.{heavy_since, lacks_since, runs_since}
use Rattle.value_store.specs.Slots.{Held}
use Rattle.value_store.specs.Moves.{State, no_state}
use Rattle.value_store.specs.Slots.{root_marks}
use Rattle.value_store.specs.Takes.{Vector, NodesOf, FamiliesOf, LinksOf, PendingOf, TextsOf, BytesOf, of_vector}
use Rattle.value_store.specs.declared.store.room.Growth.TheVariants.{Free}
use Rattle.value_store.specs.declared.store.slots.Marks.{Marks}

-- ---- a store with capacity for all that a run stores

abbrev larger : Marks → Marks → Marks
larger a b = record {
  nodes = max a.nodes b.nodes;
  families = max a.families b.families;
  links = max a.links b.links;
  pending = max a.pending b.pending;
  texts = max a.texts b.texts;
  bytes = max a.bytes b.bytes;
}

-- the capacity is enough for vectors of these lengths
abbrev Covers : (needed filled : Marks) → Type 0
Covers needed filled = (vector : Vector) → of_vector vector needed ≤ of_vector vector filled

first_covered : (a b filled : Marks) → Covers (larger a b) filled → Covers a filled
first_covered a b filled h NodesOf = let e = h NodesOf in omega (arith, e)
first_covered a b filled h FamiliesOf = let e = h FamiliesOf in omega (arith, e)
first_covered a b filled h LinksOf = let e = h LinksOf in omega (arith, e)
first_covered a b filled h PendingOf = let e = h PendingOf in omega (arith, e)
first_covered a b filled h TextsOf = let e = h TextsOf in omega (arith, e)
first_covered a b filled h BytesOf = let e = h BytesOf in omega (arith, e)

other_covered : (a b filled : Marks) → Covers (larger a b) filled → Covers b filled
other_covered a b filled h NodesOf = let e = h NodesOf in omega (arith, e)
other_covered a b filled h FamiliesOf = let e = h FamiliesOf in omega (arith, e)
other_covered a b filled h LinksOf = let e = h LinksOf in omega (arith, e)
other_covered a b filled h PendingOf = let e = h PendingOf in omega (arith, e)
other_covered a b filled h TextsOf = let e = h TextsOf in omega (arith, e)
other_covered a b filled h BytesOf = let e = h BytesOf in omega (arith, e)

-- a store that was made with no slots, and has this capacity now
abbrev world : Option (List ℕ) → (filled : Marks) → World
world known filled =
    record { known = known; room = record { least = 0; growth = Free }; before = root_marks; filled = filled }

-- a run is a walk where the store has the capacity
record Walks {A : Type 0} (known : Option (List ℕ)) (p : Plan A) (a : A) (k j k' j' : ℕ) (state : State) : Type 0 where
  last : State
  needed : Marks
  walk : (filled : Marks) → Covers needed filled → Walk (world known filled) (Ended a) k' j' last p k j state

walks : {A : Type 0} (known : Option (List ℕ)) (p : Plan A) (a : A) (k j : ℕ) → Along known p a k j → (k0 j0 : ℕ)
    (state : State) → Walks known p a k0 j0 (k0 + k) (j0 + j) state
walks known (Ended b) _ _ _ along_ended k0 j0 state =
    let ek : k0 ≡ k0 + 0 = omega arith in
    let ej : j0 ≡ j0 + 0 = omega arith in
    record {
      last = state;
      needed = root_marks;
      walk = λ filled covers.
          subst (λ k'. Walk (world known filled) (Ended b) k' (j0 + 0) state (Ended b) k0 j0 state) ek
          (subst (λ j'. Walk (world known filled) (Ended b) k0 j' state (Ended b) k0 j0 state) ej arrived);
    }
walks known (Tick p) a _ j (along_tick {k = k} h) k0 j0 state =
    let w = walks known p a k j h (k0 + 1) j0 state in
    let ek : k0 + 1 + k ≡ k0 + (1 + k) = omega arith in
    record {
      last = w.last;
      needed = w.needed;
      walk = λ filled covers.
          subst (λ k'. Walk (world known filled) (Ended a) k' (j0 + j) w.last (Tick p) k0 j0 state) ek
          (stepped (w.walk filled covers));
    }
walks known (Made count move levels p) a k _ (along_made {j = j} h) k0 j0 state =
    let here = world known root_marks in
    let now = (during_move here move state).now in
    let w = walks known p a k j h k0 (j0 + count) (after_move here move state) in
    let ej : j0 + count + j ≡ j0 + (count + j) = omega arith in
    record {
      last = w.last;
      needed = larger now w.needed;
      walk = λ filled covers.
          subst (λ j'. Walk (world known filled) (Ended a) (k0 + k) j' w.last (Made count move levels p) k0 j0 state) ej
          (kept record { room = first_covered now w.needed filled covers; light = λ adds. tt }
          (w.walk filled (other_covered now w.needed filled covers)));
    }
walks known (Read place width order rest) a k j (along_read n may h) k0 j0 state =
    let w = walks known (rest n) a k j h k0 j0 state in
    record { last = w.last; needed = w.needed; walk = λ filled covers. read n may (w.walk filled covers) }

-- such a run comes to the fault
runs_to : (space : SpaceView) (type : PokeType) (order : Order) (start limit place k j : ℕ) →
    Along (known_bits space) (plan (8 * space.len) type order no_values start) (Err (fault.Constraint, place)) k j →
    RunsToFault space type order start limit fault.Constraint place
runs_to space type order start limit place k j h =
    let known = known_bits space in
    let p = plan (8 * space.len) type order no_values start in
    let w = walks known p (Err (fault.Constraint, place)) k j h 0 0 no_state in
    record {
      world = world known w.needed;
      known = refl;
      steps = 0 + k;
      made = 0 + j;
      state = w.last;
      follows = record {
        rest = Ended (Err (fault.Constraint, place));
        at = w.last;
        walk = w.walk w.needed (λ vector. omega arith);
        ends = (refl, refl);
      };
    }

-- ---- the attempt

goes_past : {A : Type 0} (kind : MapFaultKind) → EndsRun kind → fault.Constraint ≡ kind → A
goes_past kind ends e = absurd (subst EndsRun (sym e) ends)

-- what a type means on a file's bits
means_there : (bytes : List ℕ) (m : ℕ) (type : PokeType) (order : Order) (start place k j : ℕ) →
    length (bits_of bytes) ≡ m →
    Along (Some (bits_of bytes)) (plan m type order no_values start) (Err (fault.Constraint, place)) k j →
    Means (bits_of bytes) type order no_values start (Err (fault.Constraint, place)) k j
means_there bytes m type order start place k j size h =
    let bits = bits_of bytes in
    let here : Along (Some bits) (plan (length bits) type order no_values start) (Err (fault.Constraint, place)) k j =
    subst (λ n. Along (Some bits) (plan n type order no_values start) (Err (fault.Constraint, place)) k j) (sym size)
    h in
    let on = on_bits bits (plan (length bits) type order no_values start) _ k j here in
    let means = plan_means bits type order no_values start in
    let p = plan (length bits) type order no_values start in
    subst (λ r. Means bits type order no_values start r k j) on.0
    (subst (λ n. Means bits type order no_values start (result_of bits p) n j) on.1
    (subst (λ n. Means bits type order no_values start (result_of bits p) (steps_of bits p) n) on.2 means))

-- the type of a run has the fault of its first numbers
pub stopped_there : (run : TypeRun) (begun done : SpaceView) (f : First) (k : ℕ) → IsWhole begun →
    layout (run_type run) ≡ Tests f → run.ask.now.start + f.need ≤ 8 * begun.len →
    AllFail (known_bits begun) run.ask.now.order run.ask.now.start f.numbers k → f.base + k ≤ run.ask.now.limit →
    IsStopped run begun done
    (record { fault = record { kind = fault.Constraint; at = run.ask.now.start + f.fault }; steps = f.base + k })
stopped_there run begun done f k whole is le fails few =
    let order = run.ask.now.order in
    let start = run.ask.now.start in
    let m = 8 * begun.len in
    let place = start + f.fault in
    let h = misses_are_faults (known_bits begun) m (run_type run) f order no_values start k (can_read begun.bytes) is le
    fails in
    record {
      few = few;
      made = h.0;
      means = λ bytes known.
          let there : Along (Some (bits_of bytes)) (plan m (run_type run) order no_values start)
          (Err (fault.Constraint, place)) (f.base + k) h.0 =
          subst (λ o. Along (option_map bits_of o) (plan m (run_type run) order no_values start)
          (Err (fault.Constraint, place)) (f.base + k) h.0) known h.1 in
          in_time (means_there bytes m (run_type run) order start place (f.base + k) h.0
          (length-bits_of bytes ∙ ap (λ n. 8 * n) (whole bytes known)) there) few;
      runs = runs_to begun (run_type run) order start run.ask.now.limit place (f.base + k) h.0 h.1;
      limit = goes_past fault.Limit tt;
      costs = goes_past fault.Limit tt;
      device = goes_past fault.Device tt;
      slots = goes_past fault.Memory tt;
      heavy = goes_past fault.Memory tt;
      place = λ ends. absurd ends;
    }

-- the same of first numbers that were computed and read
pub missed_there : (run : TypeRun) (begun done : SpaceView) (held : HeldFirst) (steps : ℕ) (stopped : Stopped) →
    IsWhole begun → HoldsTests held (layout (run_type run)) →
    IsMissed held begun run.ask.now.order run.ask.now.start run.ask.now.limit steps →
    stopped
    ≡ record { fault = record { kind = fault.Constraint; at = run.ask.now.start + held.fault }; steps = steps } →
    IsStopped run begun done stopped
missed_there run begun done held steps stopped whole h miss is =
    let f = h.first in
    let start = run.ask.now.start in
    let base = h.holds.base in
    let need = h.holds.need in
    let at = h.holds.fault in
    let few = miss.few in
    let within = miss.within in
    let counts = miss.counts in
    let fail =
    subst (λ xs. AllFail (known_bits begun) run.ask.now.order start xs miss.tests) h.holds.numbers miss.fail in
    let there = stopped_there run begun done f miss.tests whole h.is (omega (arith, within, need)) fail
    (omega (arith, few, counts, base)) in
    let same_place : start + f.fault ≡ start + held.fault = omega (arith, at) in
    let same_steps : f.base + miss.tests ≡ steps = omega (arith, counts, base) in
    subst (IsStopped run begun done) (sym is)
    (subst (λ place. IsStopped run begun done
    (record { fault = record { kind = fault.Constraint; at = place }; steps = steps })) same_place
    (subst (λ n. IsStopped run begun done
    (record { fault = record { kind = fault.Constraint; at = start + f.fault }; steps = n })) same_steps there))

-- the same of a miss that a sieve shows
pub miss_there : (run : TypeRun) (begun done : SpaceView) (miss : Miss) (stopped : Stopped) → IsWhole begun →
    IsMiss (run_type run) begun run.ask.now.order run.ask.now.start run.ask.now.limit miss →
    stopped
    ≡ record {
      fault = record { kind = fault.Constraint; at = run.ask.now.start + miss.distance };
      steps = miss.steps;
    } →
    IsStopped run begun done stopped
miss_there run begun done miss stopped whole h is =
    missed_there run begun done h.held miss.steps stopped whole h.holds h.missed
    (is ∙ ap (λ (distance : ℕ). record {
      fault = record { kind = fault.Constraint; at = run.ask.now.start + distance };
      steps = miss.steps;
    }) h.distance)

-- ---- a mapping after that

pub holds_since : {E : Type 0} (run : TypeRun) (first begun : SpaceView) (store : Held) (result : Result ℕ E) →
    Keeps first begun → IfOk result (HoldsValue run begun store) → IfOk result (HoldsValue run first store)
holds_since run first begun store (Ok steps) since h = record {
  value = h.value;
  there = h.there;
  few = h.few;
  made = h.made;
  means = λ bytes known. h.means bytes (since.bytes ∙ known);
  fits = subst (λ (len : ℕ). Fits (8 * len) (run_type run) no_values run.ask.now.start h.value) since.len h.fits;
  light = light_since since h.light;
}
holds_since run first begun store (Err e) since h = tt

pub stopped_since : {A : Type 0} (run : TypeRun) (first begun done : SpaceView) (result : Result A Stopped) →
    Keeps first begun → Keeps begun done → IfErr result (IsStopped run begun done) →
    IfErr result (IsStopped run first done)
stopped_since run first begun done (Ok a) since during h = tt
stopped_since run first begun done (Err stop) since during h = record {
  few = h.few;
  made = h.made;
  means = λ bytes known. h.means bytes (since.bytes ∙ known);
  runs = runs_since since h.runs;
  limit = h.limit;
  costs = λ e. subst (λ (len : ℕ). run.ask.now.limit < cost (run_type run) (8 * len)) since.len (h.costs e);
  device = λ e.
      risen_later first.failures begun.failures done.failures since.failures during.failures (h.device e);
  slots = λ e free most is. lacks_since since (h.slots e free most is);
  heavy = λ e most is. heavy_since since (h.heavy e most is);
  place = h.place;
}
