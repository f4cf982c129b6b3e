-- Laws of what a mapping says under terms.
use Rattle.std.proofs.Common.{◌≡◌, ◌≢◌, ◌⊎◌, ◌∙◌, ◌+◌, ◌*◌, ◌<◌, ◌≤◌, max, length, ℕ, Bool, true, false, List, Option, Some, None, refl, sym, ap, subst, inl, inr, arith}
use Rattle.std.specs.Prelude.{if◌then◌else◌, codes, slice_range, Ok, ◌^◌, ◌-◌}
use Rattle.std.proofs.lemmas.Bool.{le-leb, lt-leb, cases_lt}
use Rattle.pickle_types.specs.Types.{PokeType, IntegerOf, OffsetOf, StringOf, ArrayOf, StructOf, IntegralOf, UnionOf, Fields, NoFields, FieldThen, Parts, NoParts, PartThen}
use Rattle.pickle_meaning.specs.Fits.{ElementsFit, no_more_fit, one_more_fits, Fits, FitsNumber, FieldsFit, AlternativeFits}
use Rattle.pickle_meaning.specs.Means.{Taken}
use Rattle.value_store.specs.Moves.{IsWithin, no_state}
use Rattle.value_store.specs.Promises.{least_capacity}
use Rattle.value_store.specs.Slots.{Held, KeepsRoom, packs, packs_as, emptied, fixed, each_of}
use Rattle.value_store.specs.Takes.{Vector, NodesOf, FamiliesOf, LinksOf, PendingOf, TextsOf, BytesOf, of_vector}
use Rattle.value_store.specs.Weights.{Allows, Covers, GrowsFreely, IsUnbounded, TakesWeight}
use Rattle.value_store.specs.declared.store.room.Growth.{Growth}
use Rattle.value_store.specs.declared.store.room.Growth.TheVariants.{Never, Within}
use Rattle.value_store.specs.declared.store.slots.Marks.{Marks}
use Rattle.pickle_map.specs.Weighed.{WeighsBy}
use Rattle.pickle_map.proofs.Weighed.{free_light}
use Rattle.poke_batch.proofs.Weighing.{keeps_all}
use Rattle.bit_space.specs.Bits.{bits_of}
use Rattle.mapping_plans.specs.Kept.{KeepsBy}
use Rattle.mapping_plans.specs.Plan.{Plan}
use Rattle.mapping_plans.specs.Mapping.{plan}
use Rattle.value_store.specs.declared.store.room.Room.{Room}
use Rattle.pickle_types.specs.Bounds.{room as room_of}
use Rattle.std.proofs.lemmas.Option.{same_Some}
use Rattle.poke_batch.specs.Runs.{IsAsked}
use Rattle.pickle_meaning.specs.Values.{Value, Levels, no_values, start_of, end_of, pushed, opened}
use Rattle.bit_space.specs.SpaceView.{SpaceView, HasRisen}
use Rattle.pickle_meaning.specs.declared.faults.MapFaultKind.{MapFaultKind}
use Rattle.pickle_meaning.specs.declared.faults.MapFaultKind.TheVariants as fault
use Rattle.run_parts.specs.declared.accept.Refusal.{Refusal}
use Rattle.run_parts.specs.declared.outcome.Outcome.{Outcome}
use Rattle.run_parts.specs.declared.outcome.Outcome.TheVariants as outcome
use Rattle.run_parts.specs.Outcomes.{outcome_saying}
use Rattle.run_parts.proofs.Sayings.{outcome_lines}
use Rattle.command_line.specs.Found.{no_terms}
use Rattle.command_line.specs.declared.ask.Ask.{Ask}
use Rattle.run_parts.specs.declared.status.Status.{Status}
use Rattle.run_parts.specs.declared.status.Status.TheVariants.{Fault}
use Rattle.command_line.specs.declared.terms.Terms.{Terms}
use Rattle.run_parts.specs.Lines.{fault_line, fault_at_line}
use Rattle.run_parts.specs.Accepted.{Refuses, refusal_saying}
use Rattle.run_parts.specs.FaultLines.{fault_saying}
use Rattle.poke_batch.specs.Runs.{MapsAs, HasAnswer, value, device, refused_map, no_memory}
use Rattle.poke_batch.specs.RunsUnder.{MapsUnder, AreTaken, bytes_taken, mapped_under, shown_under, ended_under, slots_under, storage_under, AreTooFew, AreTooHeavy, AreLightUnder, WeighsAtMost, IsStoreOf, IsStoreUnder, IsStoreWeighing, end_saying, end_under_saying, fixed_saying, weighing_saying, SaysIt, said_so, no_memory_for_it, is_left, text_saying, part_saying, kept_beside, saying_beside}
use Rattle.poke_batch.specs.TypeRuns.{TellsValue, tells_plain, tells_beside, tells_unread, run_saying, run_type}
use Rattle.poke_batch.specs.declared.type_run.TypeRun.{TypeRun}
use Rattle.run_parts.specs.declared.outcome.Failure.TheVariants as failure
use Rattle.value_text.specs.ShowWords.{FileBytes}
use Rattle.run_parts.specs.Told.{Saying, Text, Line, Says}
use Rattle.pickle_types.specs.declared.table.Table.{Table}
use Rattle.pickle_types.specs.declared.table.TypeId.{TypeId}
use Rattle.pickle_types.specs.NodeParts.{char_node_of}
use Rattle.pickle_types.specs.TypeTable.{nodes_of}
use Rattle.value_text.proofs.PlainTexts.{prints_plain}

-- a value that fits starts where it was to start
pub fits_start : (m : ℕ) (ty : PokeType) (levels : Levels) (s : ℕ) (v : Value) → Fits m ty levels s v → start_of v ≡ s
unfolding Fits FitsNumber
fits_start m (IntegerOf type) levels s v h = ap start_of h.0.2
fits_start m (OffsetOf type unit) levels s v h = ap start_of h.0.2
fits_start m StringOf levels s v h = ap start_of h.2
fits_start m (ArrayOf element bound) levels s v h = ap start_of h.8
fits_start m (StructOf name pinned _) levels s v h = ap start_of h.4
fits_start m (IntegralOf name type fields) levels s v h = ap start_of h.0.2
fits_start m (UnionOf name alternatives) levels s v h = ap start_of h.2

elements_forward : {Fit : Levels → ℕ → Value → Type 0} {inside : Levels} {end n : ℕ} {levels : Levels} {place i : ℕ} →
    ElementsFit Fit inside end n levels place i → place ≤ end
elements_forward no_more_fit = omega arith
elements_forward (one_more_fits v fit lt more) = let h = elements_forward more in omega arith

fields_forward : (m : ℕ) (pinned : Bool) (s : ℕ) (fields : Fields) (levels : Levels) (behind top : ℕ) (inside : Levels)
    (end : ℕ) → FieldsFit m pinned s fields levels behind top inside end → top ≤ end
unfolding Fits
fields_forward m pinned s NoFields levels behind top inside end h = let e = h.1 in omega arith
fields_forward m pinned s (FieldThen name set ty c label when rest) levels behind top inside end (inl h) =
    fields_forward m pinned s rest (pushed levels None) behind top inside end h.1
fields_forward m pinned s (FieldThen name set ty c label when rest) levels behind top inside end (inr h) =
    let v = h.4 in
    let more =
    fields_forward m pinned s rest (pushed levels (Some h.4)) (end_of h.4) (max top (end_of h.4)) inside end h.7 in
    omega arith

-- a value that fits doesn't end before its start
mutual
  unfolding Fits FitsNumber

  pub fits_forward : (m : ℕ) (ty : PokeType) (levels : Levels) (s : ℕ) (v : Value) → Fits m ty levels s v → s ≤ end_of v
  fits_forward m (IntegerOf type) levels s v h = let e = ap end_of h.0.2 in omega arith
  fits_forward m (OffsetOf type unit) levels s v h = let e = ap end_of h.0.2 in omega arith
  fits_forward m StringOf levels s v h = let e = ap end_of h.2 in omega arith
  fits_forward m (ArrayOf element bound) levels s v h =
      let e = ap end_of h.8 in let up = elements_forward h.5 in omega arith
  fits_forward m (StructOf name pinned fields) levels s v h =
      let e = ap end_of h.4 in let up = fields_forward m pinned s fields (opened levels) s s h.0 h.1 h.2 in omega arith
  fits_forward m (IntegralOf name type fields) levels s v h = let e = ap end_of h.0.2 in omega arith
  fits_forward m (UnionOf name alternatives) levels s v h =
      let e = ap end_of h.2 in let up = alternative_forward m alternatives 0 (opened levels) s h.0 h.1 in omega arith

  alternative_forward : (m : ℕ) (parts : Parts) (index : ℕ) (levels : Levels) (s : ℕ) (t : Taken) →
      AlternativeFits m parts index levels s t → s ≤ end_of t.value
  alternative_forward m NoParts index levels s t h = absurd h
  alternative_forward m (PartThen name set ty c rest) index levels s t (inl h) = fits_forward m ty levels s t.value h.2
  alternative_forward m (PartThen name set ty c rest) index levels s t (inr h) =
      alternative_forward m rest (index + 1) levels s t h

pub starts_before_end : (m : ℕ) (ty : PokeType) (levels : Levels) (s : ℕ) (v : Value) → Fits m ty levels s v →
    start_of v ≤ end_of v
starts_before_end m ty levels s v h =
    let start = fits_start m ty levels s v h in
    let up = fits_forward m ty levels s v h in
    omega (arith, start, up)

-- what is right is right in a wider sense
pub says_more : {P Q : Saying → Type 0} {status : Status} {out out' err err' : Option (List ℕ)}
    → ((saying : Saying) → P saying → Q saying) → Says P status out out' err err' → Says Q status out out' err err'
says_more more says = record { saying = says.saying; right = more says.saying says.right; said = says.said }

-- a text without a limit on its length
pub free_saying : (most : Option ℕ) (start : ℕ) (text : List ℕ) → most ≡ None →
    SaysIt (text_saying most start text) (Text text)
free_saying most start text free = subst (λ o. SaysIt (text_saying o start text) (Text text)) (sym free) said_so

-- one that has no more bytes than the most
pub short_saying : (most start : ℕ) (given text : List ℕ) → given ≡ text → length given ≤ most →
    SaysIt (text_saying (Some most) start text) (Text given)
short_saying most start given text same few =
    subst (λ t. SaysIt (text_saying (Some most) start t) (Text given)) same
    (subst (λ b. SaysIt (if b then Text given else Line Fault (fault_at_line (codes "Output") start)) (Text given))
    (sym (le-leb (length given) most few)) said_so)

-- and one that has more
pub long_saying : (most start : ℕ) (text : List ℕ) → most < length text →
    SaysIt (text_saying (Some most) start text) (Line Fault (fault_at_line (codes "Output") start))
long_saying most start text more =
    subst (λ b. SaysIt (if b then Text text else Line Fault (fault_at_line (codes "Output") start))
    (Line Fault (fault_at_line (codes "Output") start))) (sym (lt-leb (length text) most more)) said_so

-- a value without the requested part
pub no_part_saying : (ask : Ask) (most : Option ℕ) (has : Value → Bool) (text : Value → List ℕ) (found : Option Value) →
    found ≡ None → SaysIt (part_saying ask most has text found) (Line Fault (fault_line (codes "NoSuchPart")))
no_part_saying ask most has text found none =
    subst (λ o. SaysIt (part_saying ask most has text o) (Line Fault (fault_line (codes "NoSuchPart")))) (sym none)
    said_so

-- a part that hasn't all parts that are selected, and one that has
pub none_selected_saying : (ask : Ask) (most : Option ℕ) (has : Value → Bool) (text : Value → List ℕ)
    (found : Option Value) (part : Value) → found ≡ Some part → has part ≡ false
    → SaysIt (part_saying ask most has text found) (Line Fault (fault_line (codes "NoSuchPart")))
none_selected_saying ask most has text found part is lacks =
    subst (λ o. SaysIt (part_saying ask most has text o) (Line Fault (fault_line (codes "NoSuchPart")))) (sym is)
    (subst (λ b.
    SaysIt (if b then text_saying most ask.start (text part) else Line Fault (fault_line (codes "NoSuchPart")))
    (Line Fault (fault_line (codes "NoSuchPart")))) (sym lacks) said_so)

pub selected_saying : (ask : Ask) (most : Option ℕ) (has : Value → Bool) (text : Value → List ℕ) (found : Option Value)
    (part : Value) → found ≡ Some part → has part ≡ true
    → part_saying ask most has text found ≡ text_saying most ask.start (text part)
selected_saying ask most has text found part is whole =
    ap (part_saying ask most has text) is
    ∙ ap (λ b. if b then text_saying most ask.start (text part) else Line Fault (fault_line (codes "NoSuchPart"))) whole

-- a value that ends before its file
pub left_saying : (table : Table) (id : TypeId) (ask : Ask) (terms : Terms) (file : Option FileBytes) (bits : ℕ)
    (mapped : Value) (end : ℕ)
    → end ≡ end_of mapped → is_left terms.whole end bits ≡ true
    → SaysIt (saying_beside table id ask terms file bits mapped) (Line Fault (fault_at_line (codes "Left") end))
left_saying table id ask terms file bits mapped end same left =
    let t : is_left terms.whole (end_of mapped) bits ≡ true =
    subst (λ e. is_left terms.whole e bits ≡ true) same left in
    subst
    (λ e. SaysIt (saying_beside table id ask terms file bits mapped) (Line Fault (fault_at_line (codes "Left") e)))
    (sym same)
    (subst (λ b. SaysIt (if b then Line Fault (fault_at_line (codes "Left") (end_of mapped)) else kept_beside table id
    ask terms file mapped) (Line Fault (fault_at_line (codes "Left") (end_of mapped)))) (sym t) said_so)

-- what is printed of a value is what a mapping under terms prints
said_under : (pickle : List ℕ) (ask : Ask) (terms : Terms) (before after : SpaceView) {due : Saying}
    → MapsUnder pickle ask terms before after due
    → (saying : Saying) → SaysIt due saying → MapsUnder pickle ask terms before after saying
said_under pickle ask terms before after right saying said_so = right
said_under pickle ask terms before after right saying no_memory_for_it = ended_under no_memory

-- bytes of a space are those of one with the same bytes
taken_before : (before mid : SpaceView) (part : Value) (file : FileBytes) → mid.len ≡ before.len
    → mid.bytes ≡ before.bytes → AreTaken mid part file → AreTaken before part file
taken_before before mid part file len bytes taken = record {
  from = taken.from;
  bytes = λ known is. subst (λ l. file.bytes ≡ slice_range known file.from (file.from + bytes_taken l part)) len
      (taken.bytes known (bytes ∙ is));
}

-- a count that rises later has risen
risen_before : (before mid after : ℕ) → before ≤ mid → mid ≤ after → HasRisen mid after → HasRisen before after
risen_before before mid after up more risen less = elim (cases_lt mid (2 ^ 64 - 1)) [
  | inl few ↦ let rose = risen few in omega (arith, up, rose)
  | inr full ↦ omega (arith, less, full, more)
]

-- what a run tells of a value that it mapped is what a mapping under terms prints
module _ (run : TypeRun) (pickle : List ℕ) (before mid after : SpaceView) (mapped : Value)
    (len : mid.len ≡ before.len) (same : mid.bytes ≡ before.bytes) (up : before.failures ≤ mid.failures)
    (more : mid.failures ≤ after.failures) (asked : IsAsked pickle run.ask.now.name.now (run_type run))
    (means : (bytes : List ℕ) → before.bytes ≡ Some bytes →
    HasAnswer bytes (run_type run) run.ask.now.order run.ask.now.start run.ask.now.limit (Ok mapped))
    (fits : Fits (8 * before.len) (run_type run) no_values run.ask.now.start mapped)
    (light : AreLightUnder run.terms.now (run_type run) run.ask.now before) where
  pub told_under : (saying : Saying) → TellsValue run mid after mapped saying →
      MapsUnder pickle run.ask.now run.terms.now before after saying
  told_under saying (tells_plain unshown said) =
      said_under pickle run.ask.now run.terms.now before after
      (mapped_under run.table.now run.id refl unshown asked means fits light) saying
      (subst (λ l. SaysIt (run_saying run None (8 * l) mapped) saying) len said)
  told_under saying (tells_beside file shown beside said) =
      said_under pickle run.ask.now run.terms.now before after
      (shown_under run.table.now run.id file refl shown
      (λ part is. taken_before before mid part file len same (beside part is)) asked means fits light) saying
      (subst (λ l. SaysIt (run_saying run (Some file) (8 * l) mapped) saying) len said)
  told_under _ (tells_unread failure.Memory unread) = ended_under no_memory
  told_under _ (tells_unread failure.Device unread) =
      ended_under (device asked (risen_before before.failures mid.failures after.failures up more unread))
  told_under _ (tells_unread failure.Write unread) = absurd unread
  told_under _ (tells_unread failure.Read unread) = absurd unread
  told_under _ (tells_unread failure.Open unread) = absurd unread
  told_under _ (tells_unread failure.TooLong unread) = absurd unread

-- without terms a mapping prints what it prints under none
pub without_terms : (pickle : List ℕ) (ask : Ask) (before after : SpaceView) (saying : Saying)
    → MapsUnder pickle ask no_terms before after saying → MapsAs pickle ask before after saying
without_terms pickle ask before after saying
    (mapped_under {mapped = mapped} table id named unshown asked answer fits light) =
    subst (λ text. MapsAs pickle ask before after (Text text))
    (sym (prints_plain (nodes_of table) (char_node_of table) (Some id.node) ask.mode mapped)) (value asked answer fits)
without_terms pickle ask before after saying (shown_under table id file named shown beside asked answer fits light) =
    absurd cc
without_terms pickle ask before after saying (ended_under ends) = ends
without_terms pickle ask before after saying (slots_under asked e less few) = absurd cc
without_terms pickle ask before after saying (storage_under asked e heavy) = absurd cc

-- an outcome without a value is reported as without terms
reported_under : {pickle : List ℕ} {ask : Ask} {terms : Terms} {before after : SpaceView} (ended : Outcome)
    → MapsAs pickle ask before after (outcome_saying ended)
    → MapsUnder pickle ask terms before after (outcome_saying ended)
reported_under {pickle} {ask} {terms} {before} {after} ended right =
    let line = outcome_lines ended in
    subst (MapsUnder pickle ask terms before after) (sym line)
    (ended_under (subst (MapsAs pickle ask before after) line right))

pub fault_under : (pickle : List ℕ) (ask : Ask) (terms : Terms) (before after : SpaceView)
    (kind : MapFaultKind) (at : ℕ)
    → MapsAs pickle ask before after (fault_saying kind at)
    → MapsUnder pickle ask terms before after (fault_saying kind at)
fault_under pickle ask terms before after kind at right =
    reported_under (outcome.Fault (record { kind = kind; at = at })) right

pub refused_under : {pickle : List ℕ} {ask : Ask} {terms : Terms} {before after : SpaceView} (why : Refusal)
    → Refuses pickle why → MapsUnder pickle ask terms before after (refusal_saying why)
refused_under why refuses = reported_under (outcome.Refused why) (refused_map refuses)

-- what a store was made with stays
pub store_stays : (most : Option ℕ) (old cleared new : Held) → IsStoreOf most old → cleared ≡ emptied old →
    KeepsRoom cleared new → IsStoreOf most new
store_stays None old cleared new is same keeps =
    let room = keeps.room ∙ ap (λ (h : Held). h.room) same in ap (λ (r : Room). r.growth) room ∙ is
store_stays (Some m) old cleared new is same keeps = keeps.room ∙ ap (λ (h : Held). h.room) same ∙ is

-- no vector has less
more_of : (before after : Held) → KeepsRoom before after → (vector : Vector) →
    of_vector vector before.capacity ≤ of_vector vector after.capacity
more_of before after keeps NodesOf = keeps.nodes
more_of before after keeps FamiliesOf = keeps.families
more_of before after keeps LinksOf = keeps.links
more_of before after keeps PendingOf = keeps.pending
more_of before after keeps TextsOf = keeps.texts
more_of before after keeps BytesOf = keeps.bytes

cleared_covers : (most : ℕ) (old cleared : Held) → cleared ≡ emptied old → Covers most old.capacity →
    Covers most cleared.capacity
cleared_covers most old cleared same covers =
    subst (λ (capacity : Marks). Covers most capacity) (sym (ap (λ (h : Held). h.capacity) same)) covers

-- so a store under terms stays one
pub stays_under : (slots bytes : Option ℕ) (old cleared new : Held) → IsStoreUnder slots bytes old →
    cleared ≡ emptied old → KeepsRoom cleared new → IsStoreUnder slots bytes new
stays_under slots None old cleared new is same keeps = store_stays slots old cleared new is same keeps
stays_under slots (Some most) old cleared new is same keeps =
    let covers = cleared_covers most old cleared same is.covers in
    record {
      room = keeps.room ∙ ap (λ (h : Held). h.room) same ∙ is.room;
      covers = λ lengths light vector.
          let first = covers lengths light vector in
          let more = more_of cleared new keeps vector in
          omega (arith, first, more);
    }

-- the least of the same capacity of each vector
least_of_each : (n : ℕ) → least_capacity (each_of n) ≡ n
least_of_each n = omega arith

never_packs : (room : Room) → room.growth ≡ Never → packs room ≡ false
never_packs room never = ap (λ g. packs_as g room.least) never

-- a store of the most slots has exactly these
module _ (m n : ℕ) (old cleared : Held) (is : IsStoreOf (Some m) old) (same : cleared ≡ emptied old)
    (exact : cleared.room.growth ≡ Never → cleared.capacity ≡ each_of cleared.room.least) (e : Some m ≡ Some n) where
  made : cleared.room ≡ fixed n
  made = ap (λ (h : Held). h.room) same ∙ is ∙ ap fixed (same_Some m n e)

  unbounded : IsUnbounded cleared.room
  unbounded = subst (λ (r : Room). IsUnbounded r) (sym made) tt

  each : cleared.capacity ≡ each_of n
  each = exact (ap (λ (r : Room). r.growth) made) ∙ ap (λ (r : Room). each_of r.least) made

-- so a store that has too little capacity for a bound was made with fewer
pub least_of : (most : Option ℕ) (old cleared : Held) {bound : ℕ} → IsStoreOf most old → cleared ≡ emptied old
    → (cleared.room.growth ≡ Never → cleared.capacity ≡ each_of cleared.room.least)
    → (IsUnbounded cleared.room → least_capacity cleared.capacity < bound) → (n : ℕ) → most ≡ Some n → n < bound
least_of None old cleared is same exact less n e = absurd cc
least_of (Some m) old cleared {bound} is same exact less n e =
    subst (λ x. x < bound) (ap least_capacity (each m n old cleared is same exact e) ∙ least_of_each n)
    (less (unbounded m n old cleared is same exact e))

-- and as such a store packs nothing, its slots are too few where memory didn't suffice
pub few_of : (most : Option ℕ) (old cleared : Held) (room : Room) (type : PokeType) (ask : Ask) (before : SpaceView)
    (left : ℕ) → IsStoreOf most old → cleared ≡ emptied old → room.growth ≡ cleared.room.growth
    → (cleared.room.growth ≡ Never → cleared.capacity ≡ each_of cleared.room.least) → left ≡ ask.limit
    → ((bytes : List ℕ) → before.bytes ≡ Some bytes
    → KeepsBy (λ state. IsWithin state cleared.capacity) (packs room) (bits_of bytes)
    (plan (8 * before.len) type ask.order no_values ask.start) left no_state
    → WeighsBy (TakesWeight room) (packs room) (bits_of bytes)
    (plan (8 * before.len) type ask.order no_values ask.start) left no_state → ⊥)
    → (n : ℕ) → most ≡ Some n → AreTooFew n type ask before
few_of None old cleared room type ask before left is same alike exact full wants n e = absurd cc
few_of (Some m) old cleared room type ask before left is same alike exact full wants n e =
    let never = alike ∙ ap (λ (r : Room). r.growth) (made m n old cleared is same exact e) in
    let planned = plan (8 * before.len) type ask.order no_values ask.start in
    record {
      lack = λ bytes known kept.
          wants bytes known
          (subst (λ b. KeepsBy (λ state. IsWithin state cleared.capacity) b (bits_of bytes) planned left no_state)
          (sym (never_packs room never))
          (subst (λ k. KeepsBy (λ state. IsWithin state k) false (bits_of bytes) planned left no_state)
          (sym (each m n old cleared is same exact e))
          (subst (λ steps. KeepsBy (λ state. IsWithin state (each_of n)) false (bits_of bytes) planned steps no_state)
          (sym full) kept)))
          (free_light room (subst (λ (g : Growth). GrowsFreely g) (sym never) tt) (packs room) (bits_of bytes) planned
          left no_state);
    }

-- what weighs at most so much, in the words of a growth that takes so much
abbrev WeighsIn : {A : Type 0} → (least : ℕ) → List ℕ → Plan A → ℕ → Growth → Type 0
WeighsIn least bits p n growth = WeighsBy (Allows growth) (packs_as growth least) bits p n no_state

-- a store for so many bytes covers all that weighs no more; so that is too heavy where memory didn't suffice
pub heavy_of : (most : ℕ) (old cleared : Held) (room : Room) (type : PokeType) (ask : Ask) (before : SpaceView)
    (left : ℕ) → IsStoreWeighing most old → cleared ≡ emptied old → room.growth ≡ cleared.room.growth → left ≡ ask.limit
    → ((bytes : List ℕ) → before.bytes ≡ Some bytes
    → KeepsBy (λ state. IsWithin state cleared.capacity) (packs room) (bits_of bytes)
    (plan (8 * before.len) type ask.order no_values ask.start) left no_state
    → WeighsBy (TakesWeight room) (packs room) (bits_of bytes)
    (plan (8 * before.len) type ask.order no_values ask.start) left no_state → ⊥)
    → AreTooHeavy most type ask before
heavy_of most old cleared room type ask before left is same alike full wants =
    let within : room.growth ≡ Within most =
    alike ∙ ap (λ (h : Held). h.room.growth) same ∙ ap (λ (r : Room). r.growth) is.room in
    let planned = plan (8 * before.len) type ask.order no_values ask.start in
    record {
      lack = λ bytes known light.
          let weighs : WeighsBy (λ w. w ≤ most) true (bits_of bytes) planned left no_state =
          subst (λ steps. WeighsBy (λ w. w ≤ most) true (bits_of bytes) planned steps no_state) (sym full) light in
          wants bytes known
          (subst (λ b. KeepsBy (λ state. IsWithin state cleared.capacity) b (bits_of bytes) planned left no_state)
          (sym (ap (λ g. packs_as g room.least) within))
          (keeps_all most cleared.capacity (cleared_covers most old cleared same is.covers) (bits_of bytes) planned left
          weighs))
          (subst (WeighsIn room.least (bits_of bytes) planned left) (sym within) weighs);
    }

-- and what it stores without a lack of memory is light
light_by : (bytes : Option ℕ) (slots : Option ℕ) (old cleared : Held) (room : Room) (type : PokeType) (ask : Ask)
    (before : SpaceView) (left : ℕ) → IsStoreUnder slots bytes old → cleared ≡ emptied old
    → room.growth ≡ cleared.room.growth → left ≡ ask.limit
    → ((bytes : List ℕ) → before.bytes ≡ Some bytes
    → WeighsBy (TakesWeight room) (packs room) (bits_of bytes)
    (plan (8 * before.len) type ask.order no_values ask.start) left no_state)
    → (most : ℕ) → bytes ≡ Some most → (known : List ℕ) → before.bytes ≡ Some known
    → WeighsAtMost most type ask (8 * before.len) known
light_by None slots old cleared room type ask before left is same alike full weighs most e known are = absurd cc
light_by (Some m) slots old cleared room type ask before left is same alike full weighs most e known are =
    let within : room.growth ≡ Within most =
    alike ∙ ap (λ (h : Held). h.room.growth) same ∙ ap (λ (r : Room). r.growth) is.room
    ∙ ap (λ (n : ℕ). Within n) (same_Some m most e) in
    let planned = plan (8 * before.len) type ask.order no_values ask.start in
    subst (λ steps. WeighsBy (λ w. w ≤ most) true (bits_of known) planned steps no_state) full
    (subst (WeighsIn room.least (bits_of known) planned left) within (weighs known are))

pub light_of : (terms : Terms) (old cleared : Held) (room : Room) (type : PokeType) (ask : Ask) (before : SpaceView)
    (left : ℕ) → IsStoreUnder terms.most_slots terms.most_bytes old → cleared ≡ emptied old
    → room.growth ≡ cleared.room.growth → left ≡ ask.limit
    → ((bytes : List ℕ) → before.bytes ≡ Some bytes
    → WeighsBy (TakesWeight room) (packs room) (bits_of bytes)
    (plan (8 * before.len) type ask.order no_values ask.start) left no_state)
    → AreLightUnder terms type ask before
light_of terms old cleared room type ask before left is same alike full weighs = record {
  light = light_by terms.most_bytes terms.most_slots old cleared room type ask before left is same alike full weighs;
}

-- in a store of the most slots a fault is reported as in one that grows, but for an allocation failure
fixed_or_memory : (start : ℕ) (kind : MapFaultKind) (at : ℕ) →
    (kind ≡ fault.Memory) ⊎ (fault_saying kind at ≡ fixed_saying start kind at)
fixed_or_memory start fault.End at = inr refl
fixed_or_memory start fault.Constraint at = inr refl
fixed_or_memory start fault.Bounds at = inr refl
fixed_or_memory start fault.NoBits at = inr refl
fixed_or_memory start fault.Zero at = inr refl
fixed_or_memory start fault.Overflow at = inr refl
fixed_or_memory start fault.Absent at = inr refl
fixed_or_memory start fault.Index at = inr refl
fixed_or_memory start fault.Limit at = inr refl
fixed_or_memory start fault.Device at = inr refl
fixed_or_memory start fault.Memory at = inl refl

pub fixed_as_fault : (start : ℕ) (kind : MapFaultKind) (at : ℕ) → kind ≢ fault.Memory →
    fault_saying kind at ≡ fixed_saying start kind at
fixed_as_fault start kind at other =
    elim (fixed_or_memory start kind at) [ inl memory ↦ absurd (other memory) | inr same ↦ same ]

end_by : (pickle : List ℕ) (ask : Ask) (terms : Terms) (before after : SpaceView) {type : PokeType} (most : Option ℕ)
    (kind : MapFaultKind) (at : ℕ)
    → terms.most_slots ≡ most → IsAsked pickle ask.name.now type
    → (kind ≡ fault.Memory → (n : ℕ) → most ≡ Some n → n < room_of type (8 * before.len))
    → (kind ≡ fault.Memory → (n : ℕ) → most ≡ Some n → AreTooFew n type ask before)
    → MapsUnder pickle ask terms before after (fault_saying kind at)
    → MapsUnder pickle ask terms before after (end_saying most ask.start kind at)
end_by pickle ask terms before after None kind at e asked less few right = right
end_by pickle ask terms before after (Some n) kind at e asked less few right =
    elim (fixed_or_memory ask.start kind at) [
      | inl memory ↦ subst (λ k. MapsUnder pickle ask terms before after (fixed_saying ask.start k at)) (sym memory)
          (slots_under asked e (less memory n refl) (few memory n refl))
      | inr same ↦ subst (MapsUnder pickle ask terms before after) same right
    ]

-- in a store of the most slots an allocation failure is the fault `Slots`
pub end_under : (pickle : List ℕ) (ask : Ask) (terms : Terms) (before after : SpaceView) {type : PokeType}
    (kind : MapFaultKind) (at : ℕ)
    → IsAsked pickle ask.name.now type
    → (kind ≡ fault.Memory → (n : ℕ) → terms.most_slots ≡ Some n → n < room_of type (8 * before.len))
    → (kind ≡ fault.Memory → (n : ℕ) → terms.most_slots ≡ Some n → AreTooFew n type ask before)
    → MapsUnder pickle ask terms before after (fault_saying kind at)
    → MapsUnder pickle ask terms before after (end_saying terms.most_slots ask.start kind at)
end_under pickle ask terms before after kind at asked less few right =
    end_by pickle ask terms before after terms.most_slots kind at refl asked less few right

-- in a store for so many bytes a fault is reported as in one that grows, but for an allocation failure
pub weighing_or_memory : (start : ℕ) (kind : MapFaultKind) (at : ℕ) →
    (kind ≡ fault.Memory) ⊎ (fault_saying kind at ≡ weighing_saying start kind at)
weighing_or_memory start fault.End at = inr refl
weighing_or_memory start fault.Constraint at = inr refl
weighing_or_memory start fault.Bounds at = inr refl
weighing_or_memory start fault.NoBits at = inr refl
weighing_or_memory start fault.Zero at = inr refl
weighing_or_memory start fault.Overflow at = inr refl
weighing_or_memory start fault.Absent at = inr refl
weighing_or_memory start fault.Index at = inr refl
weighing_or_memory start fault.Limit at = inr refl
weighing_or_memory start fault.Device at = inr refl
weighing_or_memory start fault.Memory at = inl refl

pub weighing_as_fault : (start : ℕ) (kind : MapFaultKind) (at : ℕ) → kind ≢ fault.Memory →
    fault_saying kind at ≡ weighing_saying start kind at
weighing_as_fault start kind at other =
    elim (weighing_or_memory start kind at) [ inl memory ↦ absurd (other memory) | inr same ↦ same ]

-- what a fault is reported as, after a mapping into a store under terms
module _ (pickle : List ℕ) (ask : Ask) (terms : Terms) (before after : SpaceView) {type : PokeType}
    (kind : MapFaultKind)
    (at : ℕ) (old cleared : Held) (room : Room) (left : ℕ) (asked : IsAsked pickle ask.name.now type)
    (same : cleared ≡ emptied old)
    (exact : cleared.room.growth ≡ Never → cleared.capacity ≡ each_of cleared.room.least)
    (alike : room.growth ≡ cleared.room.growth) (full : left ≡ ask.limit)
    (less : kind ≡ fault.Memory → IsUnbounded cleared.room →
    least_capacity cleared.capacity < room_of type (8 * before.len))
    (wants : kind ≡ fault.Memory → (bytes : List ℕ) → before.bytes ≡ Some bytes
    → KeepsBy (λ state. IsWithin state cleared.capacity) (packs room) (bits_of bytes)
    (plan (8 * before.len) type ask.order no_values ask.start) left no_state
    → WeighsBy (TakesWeight room) (packs room) (bits_of bytes)
    (plan (8 * before.len) type ask.order no_values ask.start) left no_state → ⊥)
    (right : MapsUnder pickle ask terms before after (fault_saying kind at)) where
  ends_by : (bytes : Option ℕ) → terms.most_bytes ≡ bytes → IsStoreUnder terms.most_slots bytes old →
      MapsUnder pickle ask terms before after (end_under_saying terms.most_slots bytes ask.start kind at)
  ends_by None e is =
      end_under pickle ask terms before after kind at asked
      (λ memory. least_of terms.most_slots old cleared is same exact (less memory))
      (λ memory. few_of terms.most_slots old cleared room type ask before left is same alike exact full (wants memory))
      right
  ends_by (Some most) e is =
      elim (weighing_or_memory ask.start kind at) [
        | inl memory ↦
            subst (λ k. MapsUnder pickle ask terms before after (weighing_saying ask.start k at)) (sym memory)
            (storage_under asked e
            (heavy_of most old cleared room type ask before left is same alike full (wants memory)))
        | inr same ↦ subst (MapsUnder pickle ask terms before after) same right
      ]

  pub ends_under : IsStoreUnder terms.most_slots terms.most_bytes old →
      MapsUnder pickle ask terms before after
      (end_under_saying terms.most_slots terms.most_bytes ask.start kind at)
  ends_under is = ends_by terms.most_bytes refl is
